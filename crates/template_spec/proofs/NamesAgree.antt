-- A compiled template binds the names that the template binds.
use Rattle.std.proofs.Common.{◌≡◌, ◌++◌, refl, sym, ap, ◌∙◌, append_assoc, append-nil}
use Rattle.ytt_base.specs.declared.fault.Place.{Place}
use Rattle.template_spec.specs.Template.{Notes, no_notes, note, Key, no_key, written_key, key_from, Item, node, code, if_block, for_block, def_block, Items, no_items, an_item, Branches, no_branch, else_branch, elif_branch, Content, written_value, value_from, pairs, elements}
use Rattle.code_spec.specs.Program.{node_end}
use Rattle.code_spec.specs.Blocks.{op_part, Ops, no_ops, an_op}
use Rattle.code_spec.specs.Names.{target_names}
use Rattle.code_spec.specs.Scopes.{ops_names, arms_names}
use Rattle.template_spec.specs.Names.{item_names, items_names, branches_names, content_names}
use Rattle.template_spec.proofs.Nested.{notes_ops, key_ops, item_ops, items_ops, arms, content_ops}

notes_named : (ns : Notes) (os : Ops) → ops_names (notes_ops ns os) ≡ ops_names os
notes_named no_notes os = refl
notes_named (note p x es ns) os = notes_named ns os

key_named : (p : Place) (x : Key) (os : Ops) → ops_names (key_ops p x os) ≡ ops_names os
key_named p no_key os = refl
key_named p (written_key t) os = refl
key_named p (key_from e) os = refl

mutual
  item_named : (i : Item) (os : Ops) → ops_names (item_ops i os) ≡ item_names i ++ ops_names os
  item_named (node p k ns x c) os =
      notes_named ns (key_ops p x (content_ops p c (an_op (op_part (node_end p)) os)))
      ∙ key_named p x (content_ops p c (an_op (op_part (node_end p)) os))
      ∙ content_named p c (an_op (op_part (node_end p)) os)
  item_named (code s) os = refl
  item_named (if_block p e body more) os =
      λ j. ((items_named body no_ops ∙ append-nil (items_names body)) j ++ arms_named more j) ++ ops_names os
  item_named (for_block p x e body) os =
      λ j. (target_names x ++ (items_named body no_ops ∙ append-nil (items_names body)) j) ++ ops_names os
  item_named (def_block p n x ps k body) os = refl

  items_named : (t : Items) (os : Ops) → ops_names (items_ops t os) ≡ items_names t ++ ops_names os
  items_named no_items os = refl
  items_named (an_item i is) os =
      item_named i (items_ops is os) ∙ ap (λ l. item_names i ++ l) (items_named is os) ∙ sym (append_assoc (item_names i) (items_names is) (ops_names os))

  arms_named : (b : Branches) → arms_names (arms b) ≡ branches_names b
  arms_named no_branch = refl
  arms_named (else_branch p is) = items_named is no_ops ∙ append-nil (items_names is)
  arms_named (elif_branch p e is more) = λ j. (items_named is no_ops ∙ append-nil (items_names is)) j ++ arms_named more j

  content_named : (p : Place) (c : Content) (os : Ops) → ops_names (content_ops p c os) ≡ content_names c ++ ops_names os
  content_named p (written_value t) os = refl
  content_named p (value_from e) os = refl
  content_named p (pairs is) os = items_named is os
  content_named p (elements is) os = items_named is os

pub same_names : (t : Items) → ops_names (items_ops t no_ops) ≡ items_names t
same_names t = items_named t no_ops ∙ append-nil (items_names t)
