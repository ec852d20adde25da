-- The functions of templates and of programs: what their blocks do when they are called, and where their code is found.
use Rattle.std.specs.Prelude.{ℕ, List, [], ◌∷◌, Option, Some, None, nat_eq}
use Rattle.ytt_base.specs.Outcomes.{first_place}
use Rattle.code_spec.specs.Program.{ItemKind, document_item, pair_item, element_item, holds_list, NodePart, node_start, node_note, node_key, node_key_from, node_value, node_value_from, node_end, Instruction}
use Rattle.value_spec.specs.Values.{Value, none_value, fragment_value, Children, no_children}
use Rattle.value_spec.specs.Outcomes.{give, ◌>>=◌}
use Rattle.code_spec.specs.Options.{or_else}
use Rattle.star_spec.specs.Language.{Call, Language, returns}
use Rattle.star_spec.specs.Flow.{Flow, on, out}
use Rattle.code_spec.specs.Blocks.{Op, op_part, op_statement, op_if, op_for, op_def, Ops, no_ops, an_op, Arms, no_arm, else_arm, arm, blocks}
use Rattle.star_spec.specs.Calls.{Code, of_def, Table, Enter, Host, apply}
use Rattle.star_spec.specs.Lambdas.{only_if, lambda_in, lambda_among, lambda_in_parameters, lambda_in_statement, lambda_code}
use Rattle.template_spec.specs.Template.{Notes, no_notes, note, Key, no_key, written_key, key_from, Item, node, code, if_block, for_block, def_block, Items, no_items, an_item, Branches, no_branch, else_branch, elif_branch, Content, written_value, value_from, pairs, elements, fragment_kind}
use Rattle.template_meaning.specs.Build.{builds, built}
use Rattle.template_meaning.specs.Run.{Node, opened, runs}
use Rattle.code_spec.specs.Scopes.{ops_names}
use Rattle.template_spec.specs.Names.{items_names}

-- ---- the block of a function

-- what a call gives: a fragment of what the block built, or what the block returned, if anything
abbrev pub result_of : (fragment : Option ItemKind) → Flow Children → Value
result_of (Some k) f = fragment_value k (built f)
result_of None (on cs) = none_value
result_of None (out (returns v) cs) = v
result_of None (out _ cs) = none_value

-- the collections around what a block builds; a list of documents doesn't count
abbrev pub level_of : (fragment : Option ItemKind) → ℕ
level_of None = 0
level_of (Some document_item) = 0
level_of (Some pair_item) = 1
level_of (Some element_item) = 1

abbrev pub enter_items : {H : Type 0} → Language H → Enter H Items
enter_items language call fragment t env = builds language call (level_of fragment) t env no_children >>= λ f. give (result_of fragment f)

-- the open place under all nodes
abbrev pub bottom : ℕ → Node
bottom n = opened first_place document_item holds_list n

abbrev pub bottom_children : List Node → Children
bottom_children [] = no_children
bottom_children (n ∷ ns) = n.children

abbrev pub bottom_flow : Flow (List Node) → Flow Children
bottom_flow (on ns) = on (bottom_children ns)
bottom_flow (out w ns) = out w (bottom_children ns)

abbrev pub enter_ops : {H : Type 0} → Language H → Enter H Ops
enter_ops language call fragment os env = runs language call os env (bottom (level_of fragment) ∷ []) >>= λ f. give (result_of fragment (bottom_flow f))

-- ---- the function with a number in a template

abbrev pub key_function : {B : Type 0} → ℕ → Key → Option (Code B)
key_function k no_key = None
key_function k (written_key x) = None
key_function k (key_from e) = lambda_code (lambda_in k e)

abbrev pub notes_function : {B : Type 0} → ℕ → Notes → Option (Code B)
notes_function k no_notes = None
notes_function k (note p x es ns) = or_else (lambda_code (lambda_among k es)) (notes_function k ns)

abbrev mutual
  pub function_of : ℕ → Item → Option (Code Items)
  function_of k (node p kind ns key c) = or_else (notes_function k ns) (or_else (key_function k key) (content_function k c))
  function_of k (code s) = lambda_code (lambda_in_statement k s)
  function_of k (if_block p e body more) = or_else (lambda_code (lambda_in k e)) (or_else (function_among k body) (branches_function k more))
  function_of k (for_block p x e body) = or_else (lambda_code (lambda_in k x)) (or_else (lambda_code (lambda_in k e)) (function_among k body))
  function_of k (def_block p number x ps kind body) =
      or_else (only_if (nat_eq k number) (of_def ps (fragment_kind kind body) body)) (or_else (lambda_code (lambda_in_parameters k ps)) (function_among k body))

  pub function_among : ℕ → Items → Option (Code Items)
  function_among k no_items = None
  function_among k (an_item i is) = or_else (function_of k i) (function_among k is)

  pub branches_function : ℕ → Branches → Option (Code Items)
  branches_function k no_branch = None
  branches_function k (else_branch p body) = function_among k body
  branches_function k (elif_branch p e body more) = or_else (lambda_code (lambda_in k e)) (or_else (function_among k body) (branches_function k more))

  pub content_function : ℕ → Content → Option (Code Items)
  content_function k (written_value x) = None
  content_function k (value_from e) = lambda_code (lambda_in k e)
  content_function k (pairs is) = function_among k is
  content_function k (elements is) = function_among k is

-- ---- and in a program's blocks

abbrev pub part_function : {B : Type 0} → ℕ → NodePart → Option (Code B)
part_function k (node_start p kind holds) = None
part_function k (node_note p x es) = lambda_code (lambda_among k es)
part_function k (node_key p x) = None
part_function k (node_key_from p e) = lambda_code (lambda_in k e)
part_function k (node_value p x) = None
part_function k (node_value_from p e) = lambda_code (lambda_in k e)
part_function k (node_end p) = None

abbrev mutual
  pub op_function : ℕ → Op → Option (Code Ops)
  op_function k (op_part o) = part_function k o
  op_function k (op_statement s) = lambda_code (lambda_in_statement k s)
  op_function k (op_if p more) = arms_function k more
  op_function k (op_for p x e body) = or_else (lambda_code (lambda_in k x)) (or_else (lambda_code (lambda_in k e)) (ops_function k body))
  op_function k (op_def p number fragment x ps body) = or_else (only_if (nat_eq k number) (of_def ps fragment body)) (or_else (lambda_code (lambda_in_parameters k ps)) (ops_function k body))

  pub ops_function : ℕ → Ops → Option (Code Ops)
  ops_function k no_ops = None
  ops_function k (an_op o os) = or_else (op_function k o) (ops_function k os)

  pub arms_function : ℕ → Arms → Option (Code Ops)
  arms_function k no_arm = None
  arms_function k (else_arm os) = ops_function k os
  arms_function k (arm e os more) = or_else (lambda_code (lambda_in k e)) (or_else (ops_function k os) (arms_function k more))

abbrev pub program_function : ℕ → Option Ops → Option (Code Ops)
program_function k None = None
program_function k (Some os) = ops_function k os

-- ---- calls

-- the functions of all files, which are known by their numbers
abbrev pub template_table : (ℕ → Items) → Table Items
template_table files f k = function_among k (files f)

abbrev pub program_table : (ℕ → List Instruction) → Table Ops
program_table files f k = program_function k (blocks (files f))

-- calls, where so many may stand in one another, with the templates of all files, with this table of functions, or with the programs of
-- all files
abbrev pub template_calls : {H : Type 0} → Language H → Host H → (ℕ → Items) → (depth : ℕ) → Call H
template_calls language host files d = apply language host items_names (enter_items language) (template_table files) d

abbrev pub table_calls : {H : Type 0} → Language H → Host H → Table Ops → (depth : ℕ) → Call H
table_calls language host table d = apply language host ops_names (enter_ops language) table d

abbrev pub program_calls : {H : Type 0} → Language H → Host H → (ℕ → List Instruction) → (depth : ℕ) → Call H
program_calls language host files d = table_calls language host (program_table files) d
