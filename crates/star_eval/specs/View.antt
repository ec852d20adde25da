-- The plain data that frames stand for, and what is owned in them.
use Rattle.std.specs.Prelude.{ℕ, List, [], ◌∷◌, Option, Some, None, codes, reverse, string_bytes}
use Rattle.std.specs.Borrow.{Bor}
use Rattle.std.specs.Option.{option_map}
use Rattle.star_values.specs.Owns.{Each, Owns, OwnsAll, OwnsArguments, OwnsEnv, OwnsPair}
use Rattle.star_values.specs.View.{View, arguments_in, value_of, values_of}
use Rattle.value_spec.specs.Values.{Env}
use Rattle.star_values.specs.Objects.{env_in, pairs_in}
use Rattle.star_blocks.specs.Nested.{arms_of, ops_of}
use Rattle.star_calls.specs.View.{form_of}
use Rattle.star_sorting.specs.View.{wanted_of}
use Rattle.star_tree.specs.Listed.{clauses_of, entries_of, optional_of, pieces_of}
use Rattle.star_tree.specs.View.{item_kind_of}
use Rattle.star_tree.specs.Whole.{binary_operator_of, expr_of, exprs_of, parameters_of, unary_operator_of}
use Rattle.code_spec.specs.Code as code
use Rattle.node_build.specs.View.{nodes_of, OwnsNodes}
use Rattle.star_tree.specs.declared.code.Expr as held_expr
use Rattle.star_tree.specs.declared.code.Param.{Param}
use Rattle.star_tree.specs.declared.code.Piece.{Piece}
use Rattle.star_eval.specs.declared.frame.Bag as held_bag
use Rattle.star_eval.specs.declared.frame.Bag.TheVariants as bag
use Rattle.star_eval.specs.declared.frame.Caller.{Caller}
use Rattle.star_eval.specs.declared.frame.Code.{Code}
use Rattle.star_eval.specs.declared.frame.Control.{Control}
use Rattle.star_eval.specs.declared.frame.Control.TheVariants as control
use Rattle.star_eval.specs.declared.frame.Flow as held
use Rattle.star_eval.specs.declared.frame.Flow.TheVariants as flow
use Rattle.star_eval.specs.declared.frame.Frame.{Frame}
use Rattle.star_eval.specs.declared.frame.Frame.TheVariants as frame
use Rattle.star_eval.specs.declared.frame.Gathering as held_gathering
use Rattle.star_eval.specs.declared.frame.Gathering.TheVariants as gathering
use Rattle.star_eval.specs.declared.frame.InBlock as held_block
use Rattle.star_eval.specs.declared.frame.InBlock.TheVariants as in_block
use Rattle.star_eval.specs.declared.frame.InClauses as held_clauses
use Rattle.star_eval.specs.declared.frame.InClauses.TheVariants as in_clauses
use Rattle.star_eval.specs.declared.frame.InElement as held_element
use Rattle.star_eval.specs.declared.frame.InElement.TheVariants as in_element
use Rattle.star_eval.specs.declared.frame.InIndex as held_index
use Rattle.star_eval.specs.declared.frame.InIndex.TheVariants as in_index
use Rattle.star_eval.specs.declared.frame.InStatement as held_statement
use Rattle.star_eval.specs.declared.frame.InStatement.TheVariants as in_statement
use Rattle.star_eval.specs.declared.frame.InValue as held_value
use Rattle.star_eval.specs.declared.frame.InValue.TheVariants as in_value
use Rattle.star_eval.specs.declared.frame.Machine.{Machine}
use Rattle.star_eval.specs.declared.frame.Making as held_making
use Rattle.star_eval.specs.declared.frame.Pending.{Pending}
use Rattle.star_eval.specs.Hosts.{OwnsHosted, OwnsQuestion, host_held, host_name, native_at}
use Rattle.star_eval.specs.Meets.{arena_of}
use Rattle.star_eval.specs.Calling.{functions_at}
use Rattle.star_eval.specs.Doing as doing
use Rattle.star_eval.specs.Doing.{Nodes, Setting}
use Rattle.star_eval.specs.Sources.{OwnsSource, Walked, left_of}
use Rattle.star_eval.specs.Waiting as plain

-- ---- parts of frames

-- an expression, with the parameters behind it
abbrev pub default_of : (file : ℕ) → Option (Bor held_expr.Expr × Bor (List Param)) → Option (code.Expr × code.Parameters)
default_of file None = None
default_of file (Some found) = Some (expr_of file found.0.now, parameters_of file found.1.now)

-- an expression, with the pieces behind it
abbrev pub shown_of : (file : ℕ) → Option (Bor held_expr.Expr × Bor (List Piece)) → Option (code.Expr × code.Pieces)
shown_of file None = None
shown_of file (Some found) = Some (expr_of file found.0.now, pieces_of file found.1.now)

-- a lambda shows its form as its name
abbrev pub name_of : Option (Bor (List ℕ)) → List ℕ
name_of None = codes "lambda"
name_of (Some x) = x.now

abbrev pub making_of : held_making.Making → doing.Making
making_of k = record { place = k.place; name = name_of k.name; number = k.number }

abbrev pub bag_of : View → (file : ℕ) → held_bag.Bag → doing.Bag
bag_of a file (bag.Values e vs) = doing.values_bag (expr_of file e.now) (values_of a vs)
bag_of a file (bag.Pairs e d ps) = doing.pairs_bag (expr_of file e.now) (expr_of file d.now) (pairs_in a.held ps.entries)

-- ---- frames

abbrev pub gathering_of : held_gathering.Gathering → plain.Gathering
gathering_of gathering.Tuple = plain.into_tuple
gathering_of gathering.List = plain.into_list

abbrev pub index_frame : View → (file : ℕ) → held_index.InIndex → plain.InValue
index_frame a file (in_index.IndexOf p i) = plain.index_of p (expr_of file i.now)
index_frame a file (in_index.IndexAt p x) = plain.index_at p (value_of a x)
index_frame a file (in_index.BoundsOf p i j k) = plain.bounds_of p (optional_of file i.now) (optional_of file j.now) (optional_of file k.now)
index_frame a file (in_index.EndOf p x j k) = plain.end_of p (value_of a x) (optional_of file j.now) (optional_of file k.now)
index_frame a file (in_index.StepOf p x y k) = plain.step_of p (value_of a x) (value_of a y) (optional_of file k.now)
index_frame a file (in_index.CutAt p x y z) = plain.cut_at p (value_of a x) (value_of a y) (value_of a z)
index_frame a file (in_index.TargetOf p i v) = plain.target_of p (expr_of file i.now) (value_of a v)
index_frame a file (in_index.TargetAt p x v) = plain.target_at p (value_of a x) (value_of a v)

abbrev pub value_frame : View → (file : ℕ) → held_value.InValue → plain.InValue
value_frame a file (in_value.Right p o b) = plain.right p (binary_operator_of o) (expr_of file b.now)
value_frame a file (in_value.Operate p o x) = plain.operate p (binary_operator_of o) (value_of a x)
value_frame a file (in_value.OperateOn p o) = plain.operate_on p (unary_operator_of o)
value_frame a file (in_value.Member g es vs) = plain.member (gathering_of g) (exprs_of file es.now) (values_of a vs)
value_frame a file (in_value.AndThen b) = plain.and_then (expr_of file b.now)
value_frame a file (in_value.OrElse b) = plain.or_else (expr_of file b.now)
value_frame a file (in_value.Choose x y) = plain.choose (expr_of file x.now) (expr_of file y.now)
value_frame a file (in_value.Targets p es s) = plain.targets p (exprs_of file es.now) (left_of a s)
value_frame a file (in_value.KeyOf p b es ps) = plain.key_of p (expr_of file b.now) (entries_of file es.now) (pairs_in a.held ps.entries)
value_frame a file (in_value.PairOf p k es ps) = plain.pair_of p (value_of a k) (entries_of file es.now) (pairs_in a.held ps.entries)
value_frame a file (in_value.Index f) = index_frame a file f
value_frame a file (in_value.Callee p es) = plain.callee p (exprs_of file es.now)
value_frame a file (in_value.Argument p g f es given) = plain.argument p (value_of a g) (form_of f) (exprs_of file es.now) (arguments_in a.held given)
value_frame a file (in_value.Default k ps vs) = plain.default_of (making_of k) (parameters_of file ps.now) (values_of a vs)
value_frame a file (in_value.First p cs b) = plain.first_members p (clauses_of file cs.now) (bag_of a file b)
value_frame a file (in_value.Attribute p x) = plain.attribute_of p x.now
value_frame a file (in_value.Key left p w f vs ks) = plain.next_key left p (wanted_of w) (value_of a f) (values_of a vs) (values_of a ks)
value_frame a file (in_value.Shown p ps t) = plain.shown_piece p (pieces_of file ps.now) (string_bytes t)

abbrev pub statement_frame : View → (file : ℕ) → held_statement.InStatement → plain.InStatement
statement_frame a file in_statement.Discard = plain.discard
statement_frame a file (in_statement.AssignTo p x) = plain.assign_to p (expr_of file x.now)
statement_frame a file (in_statement.Augment q o p x old) = plain.augment q (binary_operator_of o) p x.now (value_of a old)
statement_frame a file (in_statement.AugmentOf q o r i e) = plain.augment_of q (binary_operator_of o) r (expr_of file i.now) (expr_of file e.now)
statement_frame a file (in_statement.AugmentAt q o r x e) = plain.augment_at q (binary_operator_of o) r (value_of a x) (expr_of file e.now)
statement_frame a file (in_statement.AugmentIndex q o r x y old) = plain.augment_index q (binary_operator_of o) r (value_of a x) (value_of a y) (value_of a old)
statement_frame a file in_statement.Return = plain.return_it
statement_frame a file (in_statement.Branch os bs) = plain.branch (ops_of file os.now) (arms_of file bs.now)
statement_frame a file (in_statement.Walk p x os) = plain.walk_over p (expr_of file x.now) (ops_of file os.now)
statement_frame a file (in_statement.Enter os) = plain.enter (ops_of file os.now)
statement_frame a file in_statement.Take = plain.take_it
statement_frame a file in_statement.TakeKey = plain.take_key
statement_frame a file (in_statement.Bind p x) = plain.bind_to p x.now
statement_frame a file (in_statement.NoteArgument x f es given) = plain.note_argument x.now (form_of f) (exprs_of file es.now) (arguments_in a.held given)

abbrev pub block_frame : View → (file : ℕ) → held_block.InBlock → plain.InBlock
block_frame a file (in_block.Turn p x os s) = plain.turn p (expr_of file x.now) (ops_of file os.now) (left_of a s)
block_frame a file (in_block.Rest os) = plain.rest (ops_of file os.now)
block_frame a file (in_block.WalkEnd r) = plain.walk_end r.at

abbrev pub element_frame : View → (file : ℕ) → held_element.InElement → plain.InElement
element_frame a file (in_element.Members p x cs b) = plain.members_of_clause p (expr_of file x.now) (clauses_of file cs.now) (bag_of a file b)
element_frame a file (in_element.Test p cs b) = plain.test_of_clause p (clauses_of file cs.now) (bag_of a file b)
element_frame a file (in_element.Enter p cs b) = plain.enter_clauses p (clauses_of file cs.now) (bag_of a file b)
element_frame a file (in_element.Single e vs) = plain.element (expr_of file e.now) (values_of a vs)
element_frame a file (in_element.KeyOf p e d ps) = plain.element_key p (expr_of file e.now) (expr_of file d.now) (pairs_in a.held ps.entries)
element_frame a file (in_element.PairOf p k e d ps) = plain.element_pair p (value_of a k) (expr_of file e.now) (expr_of file d.now) (pairs_in a.held ps.entries)

abbrev pub clauses_frame : View → (file : ℕ) → held_clauses.InClauses → plain.InClauses
clauses_frame a file (in_clauses.Turn p x cs s) = plain.clause_turn p (expr_of file x.now) (clauses_of file cs.now) (left_of a s)
clauses_frame a file (in_clauses.WalkEnd r) = plain.clause_walk_end r.at

abbrev pub caller_of : View → Code → Caller → plain.Waiting
caller_of a code c = plain.caller (functions_at code.functions c.depth) (env_in a.held c.scope) (nodes_of a c.nodes) (option_map item_kind_of c.fragment)

abbrev pub native_frame : View → Pending → plain.Waiting
native_frame a p =
    let x = native_at a p.asking.native in
    plain.in_native (record { left = p.asking.left; place = p.asking.place; name = host_name x; held = host_held x; tag = p.tag }) (nodes_of a p.nodes)

abbrev pub frame_of : View → Code → Frame → plain.Waiting
frame_of a code (frame.Value f) = plain.in_value (value_frame a code.file f)
frame_of a code (frame.Statement f) = plain.in_statement (statement_frame a code.file f)
frame_of a code (frame.Block f) = plain.in_block (block_frame a code.file f)
frame_of a code (frame.Element f) = plain.in_element (element_frame a code.file f)
frame_of a code (frame.Clauses f) = plain.in_clauses (clauses_frame a code.file f)
frame_of a code (frame.Gather scope) = plain.gather (env_in a.held scope)
frame_of a code (frame.Call c) = caller_of a code c
frame_of a code (frame.Native p) = native_frame a p

-- the functions of all files, where the code of this file runs
abbrev pub in_file : (file : ℕ) → Code → Code
in_file file code = record code { file = file }

-- what runs below a frame: a call goes back to the file of its caller
abbrev pub code_under : Code → Frame → Code
code_under code (frame.Call c) = in_file c.file code
code_under code _ = code

-- frames, the innermost first
abbrev pub frames_of : View → Code → List Frame → List plain.Waiting
frames_of a code [] = []
frames_of a code (f ∷ fs) = frame_of a code f ∷ frames_of a (code_under code f) fs

-- ---- a machine

abbrev pub arena_in : Machine → View
arena_in m = arena_of m.session

abbrev pub env_of : Machine → Env
env_of m = env_in (arena_in m).held m.scope

abbrev pub setting_of : Machine → Setting
setting_of m = plain.setting (functions_at m.code.functions m.depth) (env_of m)

abbrev pub nodes_in : Machine → Nodes
nodes_in m = nodes_of (arena_in m) m.nodes

-- what waits, the innermost first
abbrev pub waiting_in : Machine → List plain.Waiting
waiting_in m = frames_of (arena_in m) m.code (reverse m.frames)

-- what waits below a frame, and with it
abbrev pub waiting_under : Machine → Frame → List plain.Waiting
waiting_under m f = frames_of (arena_in m) (code_under m.code f) (reverse m.frames)

abbrev pub waiting_with : Machine → Frame → List plain.Waiting
waiting_with m f = frame_of (arena_in m) m.code f ∷ waiting_under m f

-- ---- what is owned

abbrev pub OwnsBag : View → held_bag.Bag → Type 0
OwnsBag a (bag.Values e vs) = OwnsAll a vs
OwnsBag a (bag.Pairs e d ps) = Each (OwnsPair a) ps.entries

abbrev pub OwnsInIndex : View → held_index.InIndex → Type 0
OwnsInIndex a (in_index.IndexAt p x) = Owns a x
OwnsInIndex a (in_index.EndOf p x j k) = Owns a x
OwnsInIndex a (in_index.StepOf p x y k) = Owns a x × Owns a y
OwnsInIndex a (in_index.CutAt p x y z) = Owns a x × Owns a y × Owns a z
OwnsInIndex a (in_index.TargetOf p i v) = Owns a v
OwnsInIndex a (in_index.TargetAt p x v) = Owns a x × Owns a v
OwnsInIndex a _ = Unit {0}

abbrev pub OwnsInValue : View → held_value.InValue → Type 0
OwnsInValue a (in_value.Operate p o x) = Owns a x
OwnsInValue a (in_value.Member g es vs) = OwnsAll a vs
OwnsInValue a (in_value.Targets p es s) = OwnsSource a s
OwnsInValue a (in_value.KeyOf p b es ps) = Each (OwnsPair a) ps.entries
OwnsInValue a (in_value.PairOf p k es ps) = Owns a k × Each (OwnsPair a) ps.entries
OwnsInValue a (in_value.Index f) = OwnsInIndex a f
OwnsInValue a (in_value.Argument p g f es given) = Owns a g × OwnsArguments a given
OwnsInValue a (in_value.Default k ps vs) = OwnsAll a vs
OwnsInValue a (in_value.First p cs b) = OwnsBag a b
OwnsInValue a (in_value.Key left p w f vs ks) = Owns a f × OwnsAll a vs × OwnsAll a ks
OwnsInValue a _ = Unit {0}

abbrev pub OwnsInStatement : View → held_statement.InStatement → Type 0
OwnsInStatement a (in_statement.Augment q o p x old) = Owns a old
OwnsInStatement a (in_statement.AugmentAt q o r x e) = Owns a x
OwnsInStatement a (in_statement.AugmentIndex q o r x y old) = Owns a x × Owns a y × Owns a old
OwnsInStatement a (in_statement.NoteArgument x f es given) = OwnsArguments a given
OwnsInStatement a _ = Unit {0}

-- a list or a dict that is walked
abbrev pub OwnsInBlock : View → held_block.InBlock → Type 0
OwnsInBlock a (in_block.Turn p x os s) = OwnsSource a s
OwnsInBlock a (in_block.Rest os) = Unit {0}
OwnsInBlock a (in_block.WalkEnd r) = Walked a r

abbrev pub OwnsInElement : View → held_element.InElement → Type 0
OwnsInElement a (in_element.Members p x cs b) = OwnsBag a b
OwnsInElement a (in_element.Test p cs b) = OwnsBag a b
OwnsInElement a (in_element.Enter p cs b) = OwnsBag a b
OwnsInElement a (in_element.Single e vs) = OwnsAll a vs
OwnsInElement a (in_element.KeyOf p e d ps) = Each (OwnsPair a) ps.entries
OwnsInElement a (in_element.PairOf p k e d ps) = Owns a k × Each (OwnsPair a) ps.entries

abbrev pub OwnsInClauses : View → held_clauses.InClauses → Type 0
OwnsInClauses a (in_clauses.Turn p x cs s) = OwnsSource a s
OwnsInClauses a (in_clauses.WalkEnd r) = Walked a r

abbrev pub OwnsCaller : View → Caller → Type 0
OwnsCaller a c = OwnsEnv a c.scope × OwnsNodes a c.nodes

abbrev pub OwnsPending : View → Pending → Type 0
OwnsPending a p = OwnsHosted a p.asking.native × OwnsNodes a p.nodes

abbrev pub OwnsFrame : View → Frame → Type 0
OwnsFrame a (frame.Value f) = OwnsInValue a f
OwnsFrame a (frame.Statement f) = OwnsInStatement a f
OwnsFrame a (frame.Block f) = OwnsInBlock a f
OwnsFrame a (frame.Element f) = OwnsInElement a f
OwnsFrame a (frame.Clauses f) = OwnsInClauses a f
OwnsFrame a (frame.Gather scope) = OwnsEnv a scope
OwnsFrame a (frame.Call c) = OwnsCaller a c
OwnsFrame a (frame.Native p) = OwnsPending a p

abbrev pub OwnsFlow : View → held.Flow → Type 0
OwnsFlow a (flow.Return v) = Owns a v
OwnsFlow a _ = Unit {0}

abbrev pub OwnsControl : View → Control → Type 0
OwnsControl a (control.Gave v) = Owns a v
OwnsControl a (control.Went w) = OwnsFlow a w
OwnsControl a (control.Assign p x v) = Owns a v
OwnsControl a (control.Clauses p cs b) = OwnsBag a b
OwnsControl a (control.Bagged b) = OwnsBag a b
OwnsControl a (control.Ask k q) = OwnsHosted a k.native × OwnsQuestion a q
OwnsControl a _ = Unit {0}

-- all that the machine holds is owned by its arena
pub record Sound (m : Machine) : Type 0 where
  pub scope : OwnsEnv (arena_in m) m.scope
  pub nodes : OwnsNodes (arena_in m) m.nodes
  pub frames : Each (OwnsFrame (arena_in m)) m.frames
