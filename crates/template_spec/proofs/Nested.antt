-- A compiled template parses into its blocks.
use Rattle.std.proofs.Common.{◌≡◌, List, [], ◌∷◌, refl, ap, ◌∙◌, Some}
use Rattle.ytt_base.specs.declared.fault.Place.{Place}
use Rattle.template_spec.specs.Template.{Notes, no_notes, note, Key, no_key, written_key, key_from, Item, node, code, if_block, for_block, def_block, Items, no_items, an_item, Branches, no_branch, else_branch, elif_branch, Content, written_value, value_from, pairs, elements}
use Rattle.code_spec.specs.Program.{node_start, node_note, node_key, node_key_from, node_value, node_value_from, node_end, Instruction, part, close}
use Rattle.template_spec.specs.Compiled.{notes_code, fragment_of, holds_of, key_code, item_code, items_code, branches_code, content_code, compiled}
use Rattle.code_spec.specs.Blocks.{Op, op_part, op_statement, op_if, op_for, op_def, Ops, no_ops, an_op, Arms, no_arm, else_arm, arm, Parsed, broken, at_top, inside, put, open_if, next_arm, last_arm, open_block, parse, whole, blocks}

abbrev pub notes_ops : Notes → Ops → Ops
notes_ops no_notes os = os
notes_ops (note p x es ns) os = an_op (op_part (node_note p x es)) (notes_ops ns os)

abbrev pub key_ops : Place → Key → Ops → Ops
key_ops p no_key os = os
key_ops p (written_key t) os = an_op (op_part (node_key p t)) os
key_ops p (key_from e) os = an_op (op_part (node_key_from p e)) os

-- the blocks of a part of a template, in front of those that follow
abbrev mutual
  pub item_ops : Item → Ops → Ops
  item_ops (node p k ns x c) os =
      an_op (op_part (node_start p k (holds_of c))) (notes_ops ns (key_ops p x (content_ops p c (an_op (op_part (node_end p)) os))))
  item_ops (code s) os = an_op (op_statement s) os
  item_ops (if_block p e body more) os = an_op (op_if p (arm e (items_ops body no_ops) (arms more))) os
  item_ops (for_block p x e body) os = an_op (op_for p x e (items_ops body no_ops)) os
  item_ops (def_block p n x ps k body) os = an_op (op_def p n (fragment_of k body) x ps (items_ops body no_ops)) os

  pub items_ops : Items → Ops → Ops
  items_ops no_items os = os
  items_ops (an_item i is) os = item_ops i (items_ops is os)

  pub arms : Branches → Arms
  arms no_branch = no_arm
  arms (else_branch p body) = else_arm (items_ops body no_ops)
  arms (elif_branch p e body more) = arm e (items_ops body no_ops) (arms more)

  pub content_ops : Place → Content → Ops → Ops
  content_ops p (written_value t) os = an_op (op_part (node_value p t)) os
  content_ops p (value_from e) os = an_op (op_part (node_value_from p e)) os
  content_ops p (pairs is) os = items_ops is os
  content_ops p (elements is) os = items_ops is os

-- blocks in front of what was read
abbrev pub over : (Ops → Ops) → Parsed → Parsed
over f broken = broken
over f (at_top os) = at_top (f os)
over f (inside os a outer) = inside (f os) a outer

over_over : (f g : Ops → Ops) (r : Parsed) → over f (over g r) ≡ over (λ os. f (g os)) r
over_over f g broken = refl
over_over f g (at_top os) = refl
over_over f g (inside os a outer) = refl

put_over : (o : Op) (r : Parsed) → put o r ≡ over (an_op o) r
put_over o broken = refl
put_over o (at_top os) = refl
put_over o (inside os a outer) = refl

over_same : (r : Parsed) → r ≡ over (λ os. os) r
over_same broken = refl
over_same (at_top os) = refl
over_same (inside os a outer) = refl

put_on : (o : Op) (f : Ops → Ops) (r r' : Parsed) → r ≡ over f r' → put o r ≡ over (λ os. an_op o (f os)) r'
put_on o f r r' e = ap (put o) e ∙ put_over o (over f r') ∙ over_over (an_op o) f r'

key_blocks : (p : Place) (k : Key) (f : Ops → Ops) (is : List Instruction) (r : Parsed) → parse is ≡ over f r → parse (key_code p k is) ≡ over (λ os. key_ops p k (f os)) r
key_blocks p no_key f is r e = e
key_blocks p (written_key t) f is r e = put_on (op_part (node_key p t)) f (parse is) r e
key_blocks p (key_from x) f is r e = put_on (op_part (node_key_from p x)) f (parse is) r e

notes_blocks : (ns : Notes) (f : Ops → Ops) (is : List Instruction) (r : Parsed) → parse is ≡ over f r → parse (notes_code ns is) ≡ over (λ os. notes_ops ns (f os)) r
notes_blocks no_notes f is r e = e
notes_blocks (note p x es ns) f is r e = put_on (op_part (node_note p x es)) (λ os. notes_ops ns (f os)) (parse (notes_code ns is)) r (notes_blocks ns f is r e)

mutual
  item_blocks : (i : Item) (is : List Instruction) → parse (item_code i is) ≡ over (item_ops i) (parse is)
  item_blocks (node p k ns x c) is =
      put_on (op_part (node_start p k (holds_of c))) (λ os. notes_ops ns (key_ops p x (content_ops p c (an_op (op_part (node_end p)) os)))) _ (parse is)
      (notes_blocks ns (λ os. key_ops p x (content_ops p c (an_op (op_part (node_end p)) os))) _ (parse is)
      (key_blocks p x (λ os. content_ops p c (an_op (op_part (node_end p)) os)) _ (parse is)
      (content_blocks p c (part (node_end p) ∷ is) ∙ ap (over (content_ops p c)) (put_over (op_part (node_end p)) (parse is)) ∙ over_over (content_ops p c) (an_op (op_part (node_end p))) (parse is))))
  item_blocks (code s) is = put_over (op_statement s) (parse is)
  item_blocks (if_block p e body more) is =
      ap (open_if p e) (items_blocks body (branches_code p more is) ∙ ap (over (items_ops body)) (branches_blocks p more is))
      ∙ put_over (op_if p (arm e (items_ops body no_ops) (arms more))) (parse is)
  item_blocks (for_block p x e body) is =
      ap (open_block (op_for p x e)) (items_blocks body (close p ∷ is)) ∙ put_over (op_for p x e (items_ops body no_ops)) (parse is)
  item_blocks (def_block p n x ps k body) is =
      ap (open_block (op_def p n (fragment_of k body) x ps)) (items_blocks body (close p ∷ is)) ∙ put_over (op_def p n (fragment_of k body) x ps (items_ops body no_ops)) (parse is)

  pub items_blocks : (t : Items) (is : List Instruction) → parse (items_code t is) ≡ over (items_ops t) (parse is)
  items_blocks no_items is = over_same (parse is)
  items_blocks (an_item i more) is =
      item_blocks i (items_code more is) ∙ ap (over (item_ops i)) (items_blocks more is) ∙ over_over (item_ops i) (items_ops more) (parse is)

  pub branches_blocks : (q : Place) (b : Branches) (is : List Instruction) → parse (branches_code q b is) ≡ inside no_ops (arms b) (parse is)
  branches_blocks q no_branch is = refl
  branches_blocks q (else_branch p body) is = ap last_arm (items_blocks body (close q ∷ is))
  branches_blocks q (elif_branch p e body more) is = ap (next_arm e) (items_blocks body (branches_code q more is) ∙ ap (over (items_ops body)) (branches_blocks q more is))

  pub content_blocks : (p : Place) (c : Content) (is : List Instruction) → parse (content_code p c is) ≡ over (content_ops p c) (parse is)
  content_blocks p (written_value t) is = put_over (op_part (node_value p t)) (parse is)
  content_blocks p (value_from e) is = put_over (op_part (node_value_from p e)) (parse is)
  content_blocks p (pairs t) is = items_blocks t is
  content_blocks p (elements t) is = items_blocks t is

-- the blocks of a compiled template are closed where they should be
pub compiled_blocks : (t : Items) → parse (items_code t []) ≡ at_top (items_ops t no_ops)
compiled_blocks t = items_blocks t []

abbrev pub to_ops : Items → Ops
to_ops t = items_ops t no_ops

pub blocks_of : (t : Items) → blocks (compiled t) ≡ Some (to_ops t)
blocks_of t = ap whole (compiled_blocks t)
