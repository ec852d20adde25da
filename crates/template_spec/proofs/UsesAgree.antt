-- The names that stand in a compiled template are those that stand in the template.
use Rattle.std.proofs.Common.{◌≡◌, ◌++◌, List, [], ◌∷◌, refl, sym, ap, ◌∙◌, append_assoc, append-nil}
use Rattle.ytt_base.specs.declared.fault.Place.{Place}
use Rattle.code_spec.specs.Allowed.{parameter_names}
use Rattle.code_spec.specs.Blocks.{op_part, Ops, no_ops, an_op}
use Rattle.code_spec.specs.Program.{node_end}
use Rattle.code_spec.specs.Scopes.{Around, use_at, expr_uses, exprs_uses, parameters_uses, ops_uses, arms_uses}
use Rattle.template_spec.specs.Names.{items_names}
use Rattle.template_spec.specs.Template.{Notes, no_notes, note, Key, no_key, written_key, key_from, Item, node, code, if_block, for_block, def_block, Items, no_items, an_item, Branches, no_branch, else_branch, elif_branch, Content, written_value, value_from, pairs, elements}
use Rattle.template_spec.specs.Uses.{notes_uses, key_uses, item_uses, items_uses, branches_uses, content_uses}
use Rattle.template_spec.proofs.NamesAgree.{same_names}
use Rattle.template_spec.proofs.Nested.{notes_ops, key_ops, item_ops, items_ops, arms, content_ops}

notes_used : (a : Around) (ns : Notes) (os : Ops) → ops_uses a (notes_ops ns os) ≡ notes_uses a ns ++ ops_uses a os
notes_used a no_notes os = refl
notes_used a (note p x es ns) os = ap (λ l. exprs_uses a es ++ l) (notes_used a ns os) ∙ sym (append_assoc (exprs_uses a es) (notes_uses a ns) (ops_uses a os))

key_used : (a : Around) (p : Place) (x : Key) (os : Ops) → ops_uses a (key_ops p x os) ≡ key_uses a x ++ ops_uses a os
key_used a p no_key os = refl
key_used a p (written_key t) os = refl
key_used a p (key_from e) os = refl

-- three parts, one behind another
in_three : {A : Type 0} (x y z more : List A) → x ++ (y ++ (z ++ more)) ≡ (x ++ (y ++ z)) ++ more
in_three x y z more = ap (λ l. x ++ l) (sym (append_assoc y z more)) ∙ sym (append_assoc x (y ++ z) more)

mutual
  item_used : (a : Around) (i : Item) (os : Ops) → ops_uses a (item_ops i os) ≡ item_uses a i ++ ops_uses a os
  item_used a (node p k ns x c) os =
      notes_used a ns (key_ops p x (content_ops p c (an_op (op_part (node_end p)) os)))
      ∙ ap (λ l. notes_uses a ns ++ l) (key_used a p x (content_ops p c (an_op (op_part (node_end p)) os)) ∙ ap (λ l. key_uses a x ++ l) (content_used a p c (an_op (op_part (node_end p)) os)))
      ∙ in_three (notes_uses a ns) (key_uses a x) (content_uses a c) (ops_uses a os)
  item_used a (code s) os = refl
  item_used a (if_block p e body more) os = λ j. (expr_uses a e ++ ((items_used a body no_ops ∙ append-nil (items_uses a body)) j ++ arms_used a more j)) ++ ops_uses a os
  item_used a (for_block p x e body) os = λ j. (expr_uses a x ++ (expr_uses a e ++ (items_used a body no_ops ∙ append-nil (items_uses a body)) j)) ++ ops_uses a os
  item_used a (def_block p n x ps k body) os =
      let block = (parameter_names ps ++ items_names body) ∷ a in
      let inner = ap (λ l. ops_uses ((parameter_names ps ++ l) ∷ a) (items_ops body no_ops)) (same_names body) ∙ items_used block body no_ops ∙ append-nil (items_uses block body) in
      λ j. (use_at a p x ∷ (parameters_uses a ps ++ inner j)) ++ ops_uses a os

  items_used : (a : Around) (t : Items) (os : Ops) → ops_uses a (items_ops t os) ≡ items_uses a t ++ ops_uses a os
  items_used a no_items os = refl
  items_used a (an_item i is) os =
      item_used a i (items_ops is os) ∙ ap (λ l. item_uses a i ++ l) (items_used a is os) ∙ sym (append_assoc (item_uses a i) (items_uses a is) (ops_uses a os))

  arms_used : (a : Around) (b : Branches) → arms_uses a (arms b) ≡ branches_uses a b
  arms_used a no_branch = refl
  arms_used a (else_branch p is) = items_used a is no_ops ∙ append-nil (items_uses a is)
  arms_used a (elif_branch p e is more) = λ j. expr_uses a e ++ ((items_used a is no_ops ∙ append-nil (items_uses a is)) j ++ arms_used a more j)

  content_used : (a : Around) (p : Place) (c : Content) (os : Ops) → ops_uses a (content_ops p c os) ≡ content_uses a c ++ ops_uses a os
  content_used a p (written_value t) os = refl
  content_used a p (value_from e) os = refl
  content_used a p (pairs is) os = items_used a is os
  content_used a p (elements is) os = items_used a is os

pub same_uses : (t : Items) → ops_uses [] (items_ops t no_ops) ≡ items_uses [] t
same_uses t = items_used [] t no_ops ∙ append-nil (items_uses [] t)
