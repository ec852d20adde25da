-- The numbers of functions in a file, of its `def` blocks and its lambdas, in text order: in a template, and in a program.
use Rattle.std.specs.Prelude.{List, [], ◌∷◌}
use Rattle.code_spec.specs.Program.{NodePart, node_start, node_note, node_key, node_key_from, node_value, node_value_from, node_end, Instruction, part, statement, begin_if, begin_elif, begin_else, begin_for, begin_def, close}
use Rattle.code_spec.specs.Numbering.{Pass, keep, over_one, over_two, over_three, numbered_by, number_expr, number_exprs, number_parameters, number_statement}
use Rattle.template_spec.specs.Template.{Notes, no_notes, note, Key, no_key, written_key, key_from, Item, node, code, if_block, for_block, def_block, Items, no_items, an_item, Branches, no_branch, else_branch, elif_branch, Content, written_value, value_from, pairs, elements}

-- ---- of a template

abbrev pub number_notes : Notes → Pass Notes
number_notes no_notes = keep no_notes
number_notes (note p x es ns) = over_two (note p x) (number_exprs es) (number_notes ns)

abbrev pub number_key : Key → Pass Key
number_key no_key = keep no_key
number_key (written_key x) = keep (written_key x)
number_key (key_from e) = over_one key_from (number_expr e)

abbrev mutual
  pub number_item : Item → Pass Item
  number_item (node p kind ns key c) = over_three (node p kind) (number_notes ns) (number_key key) (number_content c)
  number_item (code s) = over_one code (number_statement s)
  number_item (if_block p e body more) = over_three (if_block p) (number_expr e) (number_items body) (number_branches more)
  number_item (for_block p x e body) = over_three (for_block p) (number_expr x) (number_expr e) (number_items body)
  number_item (def_block p k x ps kind body) = numbered_by (λ number. over_two (λ qs js. def_block p number x qs kind js) (number_parameters ps) (number_items body))

  pub number_items : Items → Pass Items
  number_items no_items = keep no_items
  number_items (an_item i is) = over_two an_item (number_item i) (number_items is)

  pub number_branches : Branches → Pass Branches
  number_branches no_branch = keep no_branch
  number_branches (else_branch p body) = over_one (else_branch p) (number_items body)
  number_branches (elif_branch p e body more) = over_three (elif_branch p) (number_expr e) (number_items body) (number_branches more)

  pub number_content : Content → Pass Content
  number_content (written_value x) = keep (written_value x)
  number_content (value_from e) = over_one value_from (number_expr e)
  number_content (pairs is) = over_one pairs (number_items is)
  number_content (elements is) = over_one elements (number_items is)

abbrev pub numbered : Items → Items
numbered t = (number_items t 0).result

-- ---- of a program

abbrev pub number_part : NodePart → Pass NodePart
number_part (node_start p kind holds) = keep (node_start p kind holds)
number_part (node_note p x es) = over_one (node_note p x) (number_exprs es)
number_part (node_key p x) = keep (node_key p x)
number_part (node_key_from p e) = over_one (node_key_from p) (number_expr e)
number_part (node_value p x) = keep (node_value p x)
number_part (node_value_from p e) = over_one (node_value_from p) (number_expr e)
number_part (node_end p) = keep (node_end p)

abbrev pub number_instruction : Instruction → Pass Instruction
number_instruction (part o) = over_one part (number_part o)
number_instruction (statement s) = over_one statement (number_statement s)
number_instruction (begin_if p e) = over_one (begin_if p) (number_expr e)
number_instruction (begin_elif p e) = over_one (begin_elif p) (number_expr e)
number_instruction (begin_else p) = keep (begin_else p)
number_instruction (begin_for p x e) = over_two (begin_for p) (number_expr x) (number_expr e)
number_instruction (begin_def p k fragment x ps) = numbered_by (λ number. over_one (begin_def p number fragment x) (number_parameters ps))
number_instruction (close p) = keep (close p)

abbrev pub number_program : List Instruction → Pass (List Instruction)
number_program [] = keep []
number_program (i ∷ is) = over_two (λ j js. j ∷ js) (number_instruction i) (number_program is)

abbrev pub numbered_program : List Instruction → List Instruction
numbered_program is = (number_program is 0).result
