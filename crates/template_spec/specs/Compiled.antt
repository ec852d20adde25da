-- From a template to its program.
use Rattle.std.specs.Prelude.{List, [], ◌∷◌, Option, Some, None, if◌then◌else◌}
use Rattle.ytt_base.specs.declared.fault.Place.{Place}
use Rattle.code_spec.specs.Program.{ItemKind, Holds, holds_one, holds_map, holds_list, holds_void, node_start, node_note, node_key, node_key_from, node_value, node_value_from, node_end, Instruction, part, statement, begin_if, begin_elif, begin_else, begin_for, begin_def, close}
use Rattle.template_spec.specs.Template.{Notes, no_notes, note, Key, no_key, written_key, key_from, Item, node, code, if_block, for_block, def_block, Items, no_items, an_item, Branches, no_branch, else_branch, elif_branch, Content, written_value, value_from, pairs, elements, has_nodes, is_void}

abbrev pub holds_of : Content → Holds
holds_of (written_value x) = holds_one
holds_of (value_from e) = holds_one
holds_of (pairs is) = if is_void is then holds_void else holds_map
holds_of (elements is) = if is_void is then holds_void else holds_list

-- the function of a block in which a part of a node stands is a fragment function
abbrev pub fragment_of : ItemKind → Items → Option ItemKind
fragment_of kind is = if has_nodes is then Some kind else None

-- the instructions of a part of a template, in front of those that follow
abbrev pub notes_code : Notes → List Instruction → List Instruction
notes_code no_notes is = is
notes_code (note p x es ns) is = part (node_note p x es) ∷ notes_code ns is

abbrev pub key_code : Place → Key → List Instruction → List Instruction
key_code p no_key is = is
key_code p (written_key x) is = part (node_key p x) ∷ is
key_code p (key_from e) is = part (node_key_from p e) ∷ is

-- a block is closed at its own place
abbrev mutual
  pub item_code : Item → List Instruction → List Instruction
  item_code (node p kind ns key c) is = part (node_start p kind (holds_of c)) ∷ notes_code ns (key_code p key (content_code p c (part (node_end p) ∷ is)))
  item_code (code s) is = statement s ∷ is
  item_code (if_block p e body more) is = begin_if p e ∷ items_code body (branches_code p more is)
  item_code (for_block p x e body) is = begin_for p x e ∷ items_code body (close p ∷ is)
  item_code (def_block p number x ps kind body) is = begin_def p number (fragment_of kind body) x ps ∷ items_code body (close p ∷ is)

  pub items_code : Items → List Instruction → List Instruction
  items_code no_items is = is
  items_code (an_item i more) is = item_code i (items_code more is)

  pub branches_code : (block_place : Place) → Branches → List Instruction → List Instruction
  branches_code q no_branch is = close q ∷ is
  branches_code q (else_branch p body) is = begin_else p ∷ items_code body (close q ∷ is)
  branches_code q (elif_branch p e body more) is = begin_elif p e ∷ items_code body (branches_code q more is)

  pub content_code : Place → Content → List Instruction → List Instruction
  content_code p (written_value x) is = part (node_value p x) ∷ is
  content_code p (value_from e) is = part (node_value_from p e) ∷ is
  content_code p (pairs body) is = items_code body is
  content_code p (elements body) is = items_code body is

-- the program of a template
abbrev pub compiled : Items → List Instruction
compiled t = items_code t []
