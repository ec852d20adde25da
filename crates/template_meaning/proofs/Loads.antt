-- A compiled template loads what the template loads.
use Rattle.std.proofs.Common.{◌≡◌, ◌++◌, refl, sym, ap, ◌∙◌, append_assoc, append-nil}
use Rattle.ytt_base.specs.declared.fault.Place.{Place}
use Rattle.template_spec.specs.Template.{Notes, no_notes, note, Key, no_key, written_key, key_from, Item, node, code, if_block, for_block, def_block, Items, no_items, an_item, Content, written_value, value_from, pairs, elements}
use Rattle.code_spec.specs.Program.{node_end}
use Rattle.code_spec.specs.Blocks.{op_part, Ops, no_ops, an_op, blocks}
use Rattle.template_spec.specs.Compiled.{compiled}
use Rattle.template_meaning.specs.Files.{item_loads, items_loads, content_loads, ops_loads}
use Rattle.template_meaning.specs.Meaning.{loads_in}
use Rattle.template_spec.proofs.Nested.{blocks_of, notes_ops, key_ops, item_ops, items_ops, content_ops}

notes_load : (ns : Notes) (os : Ops) → ops_loads (notes_ops ns os) ≡ ops_loads os
notes_load no_notes os = refl
notes_load (note p x es ns) os = notes_load ns os

key_load : (p : Place) (x : Key) (os : Ops) → ops_loads (key_ops p x os) ≡ ops_loads os
key_load p no_key os = refl
key_load p (written_key t) os = refl
key_load p (key_from e) os = refl

mutual
  item_load : (i : Item) (os : Ops) → ops_loads (item_ops i os) ≡ item_loads i ++ ops_loads os
  item_load (node p k ns x c) os =
      notes_load ns (key_ops p x (content_ops p c (an_op (op_part (node_end p)) os)))
      ∙ key_load p x (content_ops p c (an_op (op_part (node_end p)) os))
      ∙ content_load p c (an_op (op_part (node_end p)) os)
  item_load (code s) os = refl
  item_load (if_block p e body more) os = refl
  item_load (for_block p x e body) os = refl
  item_load (def_block p n x ps k body) os = refl

  items_load : (t : Items) (os : Ops) → ops_loads (items_ops t os) ≡ items_loads t ++ ops_loads os
  items_load no_items os = refl
  items_load (an_item i is) os =
      item_load i (items_ops is os) ∙ ap (λ l. item_loads i ++ l) (items_load is os) ∙ sym (append_assoc (item_loads i) (items_loads is) (ops_loads os))

  content_load : (p : Place) (c : Content) (os : Ops) → ops_loads (content_ops p c os) ≡ content_loads c ++ ops_loads os
  content_load p (written_value t) os = refl
  content_load p (value_from e) os = refl
  content_load p (pairs is) os = items_load is os
  content_load p (elements is) os = items_load is os

-- so do its blocks
pub loads_agree : (t : Items) → loads_in (blocks (compiled t)) ≡ items_loads t
loads_agree t = ap loads_in (blocks_of t) ∙ items_load t no_ops ∙ append-nil (items_loads t)
