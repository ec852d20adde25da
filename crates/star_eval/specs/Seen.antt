-- What stands in a machine as plain data, and what comes of it in the machine's setting: the words that contracts speak in.
use Rattle.std.specs.Prelude.{ℕ, List, Option}
use Rattle.code_spec.specs.Blocks as blocks
use Rattle.code_spec.specs.Code as code
use Rattle.code_spec.specs.Program.{NodePart}
use Rattle.star_blocks.specs.Nested.{arms_of, op_of, ops_of, statement_of}
use Rattle.star_blocks.specs.declared.block.Arm.{Arm}
use Rattle.star_blocks.specs.declared.block.Op.{Op}
use Rattle.star_blocks.specs.declared.block.Statement.{Statement}
use Rattle.star_spec.specs.Calls.{asking as host_asking, resumed_with}
use Rattle.star_spec.specs.Flow.{Flow, Part}
use Rattle.star_spec.specs.Names.{box_of, write_name}
use Rattle.star_tree.specs.Listed.{clauses_of, entries_of, entry_of, optional_of, pieces_of}
use Rattle.star_tree.specs.Whole.{Entry as PlainEntry, expr_of, exprs_of, parameters_of, part_of}
use Rattle.star_tree.specs.declared.code.Clause.{Clause}
use Rattle.star_tree.specs.declared.code.Entry.{Entry}
use Rattle.star_tree.specs.declared.code.Expr.{Expr}
use Rattle.star_tree.specs.declared.code.NodeOp.{NodeOp}
use Rattle.star_tree.specs.declared.code.Param.{Param}
use Rattle.star_tree.specs.declared.code.Piece.{Piece}
use Rattle.star_values.specs.Objects as objects
use Rattle.star_values.specs.View as values
use Rattle.star_values.specs.View.{value_of, values_of}
use Rattle.star_values.specs.declared.value.CallArgs.{CallArgs}
use Rattle.star_values.specs.declared.value.Ref.{Ref}
use Rattle.star_values.specs.declared.value.Value.{Value}
use Rattle.value_spec.specs.Outcomes.{Computation, Ending, then_do}
use Rattle.value_spec.specs.Values as plain
use Rattle.value_spec.specs.Values.{arguments, no_fields, values_from}
use Rattle.ytt_base.specs.declared.fault.Place.{Place}
use Rattle.star_eval.specs.Calling.{calls_from}
use Rattle.star_eval.specs.Doing.{Bag, Nodes, all_calls, all_evaluated, arguments_then, assigned, bound_then, evaluated, through}
use Rattle.star_eval.specs.Frames.{after_answer, flow_of}
use Rattle.star_eval.specs.Hosts.{host_held, host_name, native_at}
use Rattle.star_eval.specs.Meets.{Here}
use Rattle.star_eval.specs.Sources.{left_of, members_at}
use Rattle.star_eval.specs.View.{arena_in, bag_of, block_frame, clauses_frame, element_frame, env_of, index_frame, nodes_in, setting_of, statement_frame, value_frame}
use Rattle.star_eval.specs.Waiting as waiting
use Rattle.star_eval.specs.Waiting.{block_ends, clause_turn_of, clauses_end, element_goes, statement_goes, turn_of, value_goes}
use Rattle.star_eval.specs.declared.frame.Asking.{Asking}
use Rattle.star_eval.specs.declared.frame.Bag as held_bag
use Rattle.star_eval.specs.declared.frame.Flow as held
use Rattle.star_eval.specs.declared.frame.InBlock.{InBlock}
use Rattle.star_eval.specs.declared.frame.InClauses.{InClauses}
use Rattle.star_eval.specs.declared.frame.InElement.{InElement}
use Rattle.star_eval.specs.declared.frame.InIndex.{InIndex}
use Rattle.star_eval.specs.declared.frame.InStatement.{InStatement}
use Rattle.star_eval.specs.declared.frame.InValue.{InValue}
use Rattle.star_eval.specs.declared.frame.Machine.{Machine}
use Rattle.star_eval.specs.declared.source.Source.{Source}

-- ---- values

abbrev pub value_in : Machine → Value → plain.Value
value_in m v = value_of (arena_in m) v

abbrev pub values_in : Machine → List Value → List plain.Value
values_in m vs = values_of (arena_in m) vs

abbrev pub pairs_in : Machine → List (Value × Value) → List (plain.Value × plain.Value)
pairs_in m ps = objects.pairs_in (arena_in m).held ps

abbrev pub arguments_in : Machine → CallArgs → plain.Arguments
arguments_in m args = values.arguments_in (arena_in m).held args

-- arguments by position alone
abbrev pub positional_in : Machine → List Value → plain.Arguments
positional_in m vs = arguments (values_from (values_in m vs)) no_fields

-- the members that are left
abbrev pub left_in : Machine → Source → List plain.Value
left_in m s = left_of (arena_in m) s

-- the members of an object that a loop walks
abbrev pub members_walked : Machine → Ref → List plain.Value
members_walked m r = members_at r.at (arena_in m).store

-- what a comprehension has gathered
abbrev pub bag_in : Machine → held_bag.Bag → Bag
bag_in m b = bag_of (arena_in m) m.code.file b

-- how a block ended, with the nodes that are open
abbrev pub flow_in : Machine → held.Flow → Flow Nodes
flow_in m w = flow_of (arena_in m) w (nodes_in m)

-- ---- code of the machine's file

abbrev pub expr_in : Machine → Expr → code.Expr
expr_in m e = expr_of m.code.file e

abbrev pub exprs_in : Machine → List Expr → code.Exprs
exprs_in m es = exprs_of m.code.file es

abbrev pub entry_in : Machine → Entry → PlainEntry
entry_in m e = entry_of m.code.file e

abbrev pub entries_in : Machine → List Entry → code.Entries
entries_in m es = entries_of m.code.file es

abbrev pub clauses_in : Machine → List Clause → code.Clauses
clauses_in m cs = clauses_of m.code.file cs

abbrev pub parameters_in : Machine → List Param → code.Parameters
parameters_in m ps = parameters_of m.code.file ps

abbrev pub statement_in : Machine → Statement → blocks.Op
statement_in m s = statement_of m.code.file s

abbrev pub op_in : Machine → Op → blocks.Op
op_in m o = op_of m.code.file o

abbrev pub arms_in : Machine → List Arm → blocks.Arms
arms_in m bs = arms_of m.code.file bs

abbrev pub pieces_in : Machine → List Piece → code.Pieces
pieces_in m ps = pieces_of m.code.file ps

-- a part of a node
abbrev pub part_in : Machine → NodeOp → NodePart
part_in m o = part_of m.code.file o

-- ---- frames

abbrev pub value_frame_in : Machine → InValue → waiting.InValue
value_frame_in m f = value_frame (arena_in m) m.code.file f

abbrev pub statement_frame_in : Machine → InStatement → waiting.InStatement
statement_frame_in m f = statement_frame (arena_in m) m.code.file f

abbrev pub element_frame_in : Machine → InElement → waiting.InElement
element_frame_in m f = element_frame (arena_in m) m.code.file f

-- what comes of a value in a frame
abbrev pub value_goes_in : Machine → InValue → plain.Value → Computation Here plain.Value
value_goes_in m f v = value_goes (setting_of m) (value_frame_in m f) v

abbrev pub index_goes_in : Machine → InIndex → plain.Value → Computation Here plain.Value
index_goes_in m f v = value_goes (setting_of m) (index_frame (arena_in m) m.code.file f) v

abbrev pub statement_goes_in : Machine → InStatement → plain.Value → Computation Here (Flow Nodes)
statement_goes_in m f v = statement_goes (setting_of m) (statement_frame_in m f) v (nodes_in m)

abbrev pub element_goes_in : Machine → InElement → plain.Value → Computation Here (Flow Bag)
element_goes_in m f v = element_goes (setting_of m) (element_frame_in m f) v

-- what comes of the end of a part of a block, or of a turn of a clause, in a frame
abbrev pub block_ends_in : Machine → InBlock → Ending Here (Flow Nodes) → Ending Here (Flow Nodes)
block_ends_in m f r = block_ends (setting_of m) (block_frame (arena_in m) m.code.file f) r

abbrev pub clauses_end_in : Machine → InClauses → Ending Here (Flow Bag) → Ending Here (Flow Bag)
clauses_end_in m f r = clauses_end (setting_of m) (clauses_frame (arena_in m) m.code.file f) r

-- ---- what code does

abbrev pub evaluated_in : Machine → Expr → Computation Here plain.Value
evaluated_in m e = evaluated (setting_of m) (expr_in m e)

abbrev pub all_evaluated_in : Machine → List Expr → Computation Here (List plain.Value)
all_evaluated_in m es = all_evaluated (setting_of m) (exprs_in m es)

-- a part of a slice, and what follows from it
abbrev pub bound_then_in : Machine → Option Expr → (plain.Value → Computation Here plain.Value) → Computation Here plain.Value
bound_then_in m e f = bound_then (setting_of m) (optional_of m.code.file e) f

-- a value to a target
abbrev pub assigned_in : Machine → Place → (target : Expr) → Value → Computation Here (Unit {0})
assigned_in m p x v = assigned (setting_of m) p (expr_in m x) (value_in m v)

-- a value to a name
abbrev pub written_in : Machine → Place → code.Name → plain.Value → Computation Here (Unit {0})
written_in m p x v = write_name p x v (box_of x (env_of m))

-- a block
abbrev pub through_in : Machine → List Op → Part Here Nodes
through_in m os = through (setting_of m) (ops_of m.code.file os)

-- one turn of a loop, and one of a clause
abbrev pub turn_in : Machine → Place → (target : Expr) → List Op → plain.Value → Part Here Nodes
turn_in m p x os v = turn_of (setting_of m) p (expr_in m x) (ops_of m.code.file os) v

abbrev pub clause_turn_in : Machine → Place → (target : Expr) → List Clause → plain.Value → Part Here Bag
clause_turn_in m p x cs v = clause_turn_of (setting_of m) p (expr_in m x) (clauses_in m cs) v

-- ---- calls

-- what follows from the arguments of these expressions, behind those that are given
abbrev pub arguments_then_in : {A : Type 0} → Machine → List Expr → (given : CallArgs) → (plain.Arguments → Computation Here A) → Computation Here A
arguments_then_in m es given f = arguments_then (setting_of m) (exprs_in m es) (arguments_in m given) f

-- a call of a value
abbrev pub called_in : Machine → Place → (function : Value) → plain.Arguments → Computation Here plain.Value
called_in m p f vs = all_calls (setting_of m) p (value_in m f) vs

-- a call of a value in which natives may ask for so many calls
abbrev pub called_within : Machine → (left : ℕ) → Place → (function : Value) → plain.Arguments → Computation Here plain.Value
called_within m left p f vs = calls_from (setting_of m).function left p (value_in m f) vs

-- what follows from the end of a call with this tag that a native asked for
abbrev pub after_call : Machine → Asking → (tag : ℕ) → Ending Here plain.Value → Ending Here plain.Value
after_call m k tag r =
    let x = native_at (arena_in m) k.native in
    then_do (resumed_with host_asking k.place (host_name x) (host_held x) tag r) (after_answer m k)
