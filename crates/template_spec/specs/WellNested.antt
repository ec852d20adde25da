-- Which programs are well nested.
use Rattle.std.specs.Prelude.{◌≡◌, List, [], ◌∷◌, Option, Some, None, Bool, true, false, IsTrue}
use Rattle.code_spec.specs.Code.{Statement, return, break, continue, load}
use Rattle.code_spec.specs.Allowed.{AllowedExpr, AllowedExprs, AllowedTarget, AllowedStatement, AllowedFunction}
use Rattle.code_spec.specs.Program.{ItemKind, document_item, pair_item, element_item, Holds, holds_one, holds_map, holds_list, holds_void, NodePart, node_start, node_note, node_key, node_key_from, node_value, node_value_from, node_end, Instruction, part, statement, begin_if, begin_elif, begin_else, begin_for, begin_def, close, same_kind}
use Rattle.code_spec.specs.Blocks.{Op, op_part, op_statement, op_if, op_for, op_def, Ops, no_ops, an_op, Arms, no_arm, else_arm, arm, blocks}

-- ---- the stages of an open node

-- what has come of an open node: its start and notes, its key too, or its value too; or it is the place of a file or of
-- a function's block, which holds items of a kind
pub data Stage : Type 0 where
  begun : ItemKind → Holds → Stage
  keyed : Holds → Stage
  filled : Stage
  place_of : ItemKind → Stage

-- documents and elements have no key
abbrev pub past_key : Stage → Stage
past_key (begun document_item h) = keyed h
past_key (begun element_item h) = keyed h
past_key s = s

-- the kind of the items that may start here
abbrev pub inner_kind : Stage → Option ItemKind
inner_kind (keyed holds_map) = Some pair_item
inner_kind (keyed holds_list) = Some element_item
inner_kind (place_of k) = Some k
inner_kind _ = None

-- blocks and statements stand where items may, and in a collection that holds none
abbrev pub is_open : Stage → Bool
is_open (keyed holds_one) = false
is_open (keyed h) = true
is_open (place_of k) = true
is_open _ = false

abbrev pub is_inner : ItemKind → Option ItemKind → Bool
is_inner k None = false
is_inner k (Some j) = same_kind k j

abbrev pub when_true : {A : Type 0} → Bool → A → Option A
when_true true a = Some a
when_true false a = None

-- a value comes once, where one is held
abbrev pub with_value : Stage → Option Stage
with_value (keyed holds_one) = Some filled
with_value _ = None

-- a node ends with its value, or with its items
abbrev pub may_end : Stage → Bool
may_end filled = true
may_end (keyed holds_one) = false
may_end (keyed h) = true
may_end _ = false

abbrev pub in_front_of : List Stage → Option Stage → Option (List Stage)
in_front_of below None = None
in_front_of below (Some s) = Some (s ∷ below)

-- The open nodes after a part, the innermost one first: notes, a pair's one key, one value for `one` or else items, the
-- end; a map's items are pairs, those of a list are elements, and documents stand in no node.
abbrev pub after_part : NodePart → List Stage → Option (List Stage)
after_part (node_start p k h) (s ∷ below) = when_true (is_inner k (inner_kind (past_key s))) (begun k h ∷ past_key s ∷ below)
after_part (node_note p x es) (begun k h ∷ below) = Some (begun k h ∷ below)
after_part (node_key p x) (begun pair_item h ∷ below) = Some (keyed h ∷ below)
after_part (node_key_from p e) (begun pair_item h ∷ below) = Some (keyed h ∷ below)
after_part (node_value p x) (s ∷ below) = in_front_of below (with_value (past_key s))
after_part (node_value_from p e) (s ∷ below) = in_front_of below (with_value (past_key s))
after_part (node_end p) (s ∷ t ∷ below) = when_true (may_end (past_key s)) (t ∷ below)
after_part _ _ = None

-- ---- words

-- which words may leave the place, and whether it stands outside every block, where a load may
pub record Ways : Type 0 where
  pub may_return : Bool
  pub may_break : Bool
  pub may_load : Bool

-- in a file, outside every block
abbrev pub in_a_file : Ways
in_a_file = record { may_return = false; may_break = false; may_load = true }

-- no word leaves a node open
abbrev pub in_a_node : Ways → Ways
in_a_node w = record { may_return = false; may_break = false; may_load = w.may_load }

abbrev pub ways_at : Ways → List Stage → Ways
ways_at w (s ∷ []) = w
ways_at w _ = in_a_node w

abbrev pub in_a_branch : Ways → Ways
in_a_branch w = record { may_return = w.may_return; may_break = w.may_break; may_load = false }

abbrev pub in_a_loop : Ways → Ways
in_a_loop w = record { may_return = w.may_return; may_break = true; may_load = false }

-- a function that builds items is not returned from
abbrev pub in_a_function : Option ItemKind → Ways
in_a_function None = record { may_return = true; may_break = false; may_load = false }
in_a_function (Some k) = record { may_return = false; may_break = false; may_load = false }

abbrev pub stands : Ways → Statement → Bool
stands w (return p e) = w.may_return
stands w (break p) = w.may_break
stands w (continue p) = w.may_break
stands w (load p path xs) = w.may_load
stands w s = true

-- ---- blocks

abbrev pub innermost : List Stage → Stage
innermost [] = filled
innermost (s ∷ below) = past_key s

abbrev pub below_innermost : List Stage → List Stage
below_innermost [] = []
below_innermost (s ∷ below) = past_key s ∷ below

-- where the items of a function's block stand
abbrev pub block_of : Option ItemKind → Stage
block_of None = keyed holds_void
block_of (Some k) = place_of k

abbrev pub IfAny : Option (List Stage) → (List Stage → Type 0) → Type 0
IfAny None P = ⊥
IfAny (Some s) P = P s

-- the ops go from the open nodes to the last ones; each block is closed in the node in which it opens
abbrev mutual
  pub Nested : Ways → (last : List Stage) → Ops → List Stage → Type 0
  Nested w last no_ops open_nodes = open_nodes ≡ last
  Nested w last (an_op o os) open_nodes = NestedOp w o (λ after. Nested w last os after) open_nodes

  pub NestedOp : Ways → Op → (List Stage → Type 0) → List Stage → Type 0
  NestedOp w (op_part o) more open_nodes = IfAny (after_part o open_nodes) more
  NestedOp w (op_statement s) more open_nodes = IsTrue (is_open (innermost open_nodes)) × IsTrue (stands (ways_at w open_nodes) s) × more (below_innermost open_nodes)
  NestedOp w (op_if p branches) more open_nodes = IsTrue (is_open (innermost open_nodes)) × NestedArms (in_a_branch (ways_at w open_nodes)) (innermost open_nodes) branches × more (below_innermost open_nodes)
  NestedOp w (op_for p x e body) more open_nodes =
      IsTrue (is_open (innermost open_nodes)) × Nested (in_a_loop (ways_at w open_nodes)) (innermost open_nodes ∷ []) body (innermost open_nodes ∷ []) × more (below_innermost open_nodes)
  NestedOp w (op_def p number fragment x ps body) more open_nodes =
      IsTrue (is_open (innermost open_nodes)) × Nested (in_a_function fragment) (block_of fragment ∷ []) body (block_of fragment ∷ []) × more (below_innermost open_nodes)

  pub NestedArms : Ways → Stage → Arms → Type 0
  NestedArms w s no_arm = Unit {0}
  NestedArms w s (else_arm os) = Nested w (s ∷ []) os (s ∷ [])
  NestedArms w s (arm e os more) = Nested w (s ∷ []) os (s ∷ []) × NestedArms w s more

abbrev pub WellNestedBlocks : Option Ops → Type 0
WellNestedBlocks None = ⊥
WellNestedBlocks (Some os) = Nested in_a_file (place_of document_item ∷ []) os (place_of document_item ∷ [])

-- ---- names

abbrev pub AllowedPart : NodePart → Type 0
AllowedPart (node_start p kind holds) = Unit {0}
AllowedPart (node_note p x es) = AllowedExprs es
AllowedPart (node_key p x) = Unit {0}
AllowedPart (node_key_from p e) = AllowedExpr e
AllowedPart (node_value p x) = Unit {0}
AllowedPart (node_value_from p e) = AllowedExpr e
AllowedPart (node_end p) = Unit {0}

abbrev pub AllowedInstruction : Instruction → Type 0
AllowedInstruction (part o) = AllowedPart o
AllowedInstruction (statement s) = AllowedStatement s
AllowedInstruction (begin_if p e) = AllowedExpr e
AllowedInstruction (begin_elif p e) = AllowedExpr e
AllowedInstruction (begin_else p) = Unit {0}
AllowedInstruction (begin_for p x e) = AllowedTarget x × AllowedExpr e
AllowedInstruction (begin_def p number fragment x ps) = AllowedFunction x ps
AllowedInstruction (close p) = Unit {0}

-- the names in code, targets and parameters are as they may be
abbrev pub AllowedProgram : List Instruction → Type 0
AllowedProgram [] = Unit {0}
AllowedProgram (i ∷ is) = AllowedInstruction i × AllowedProgram is

-- each block is closed, the file's nodes are documents, and names are as they may be
pub record WellNested (is : List Instruction) : Type 0 where
  pub nested : WellNestedBlocks (blocks is)
  pub names : AllowedProgram is
