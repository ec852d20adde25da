-- What waits for a value, for the end of a part of a block, or for what a comprehension has gathered, as plain data; and what
-- comes of it.
use Rattle.std.specs.Prelude.{ℕ, List, [], ◌∷◌, ◌++◌, Option, Some, if◌then◌else◌}
use Rattle.ytt_base.specs.declared.fault.Place.{Place}
use Rattle.code_spec.specs.Blocks.{Arms, Ops}
use Rattle.code_spec.specs.Code.{BinaryOperator, Clauses, Entries, Expr, Exprs, Name, OptionalExpr, Parameters, Pieces, UnaryOperator}
use Rattle.code_spec.specs.Program.{ItemKind}
use Rattle.value_spec.specs.Outcomes.{Computation, Ending, finally, give, ill_formed, new_list, on_store, then_do, ◌>>=◌}
use Rattle.value_spec.specs.Store.{begin_loop, end_loop}
use Rattle.value_spec.specs.Values.{Arguments, Env, Value, Values, none_value, tuple_value, values_from}
use Rattle.builtin_spec.specs.Attributes.{attribute_row}
use Rattle.builtin_spec.specs.Operators.{assignment_row, operator_row}
use Rattle.builtin_spec.specs.Sorting.{Wanted}
use Rattle.operator_spec.specs.Operators.{unary_row}
use Rattle.index_spec.specs.Index.{index_row, set_index_row}
use Rattle.index_spec.specs.Slices.{slice_row}
use Rattle.star_calls.specs.Arguments.{Form, none_given}
use Rattle.star_spec.specs.Calls.{asking, resumed_with}
use Rattle.star_spec.specs.Eval.{display_pair, shown_row, truth_of, turn_pair}
use Rattle.star_spec.specs.Flow.{Flow, Part, go_on, next_turn, on, out, turns}
use Rattle.star_spec.specs.Language.{Call, returns}
use Rattle.star_spec.specs.Names.{box_of, write_name}
use Rattle.node_build.specs.Parts.{noting, taking}
use Rattle.template_meaning.specs.Calls.{bottom_flow, result_of}
use Rattle.star_eval.specs.Calling.{after_replied}
use Rattle.star_eval.specs.Doing.{Bag, Making, Nodes, Setting, all_calls, all_evaluated, argument_then, arguments_then, assigned, assigned_each, augmented_in, bound_then, branched, changed_at, clause_looped, clauses_done, cut, entries_done, evaluated, first_done, flow_made, keyed_by, keys_then, looped, making, pairs_bag, pieces_then, through, values_bag}
use Rattle.star_eval.specs.Meets.{Here}

-- what members are gathered for
pub data Gathering : Type 0 where
  into_tuple : Gathering
  into_list : Gathering

abbrev pub gathered : Gathering → List Value → Computation Here Value
gathered into_tuple vs = give (tuple_value (values_from vs))
gathered into_list vs = new_list vs

-- a value in an expression around it
pub data InValue : Type 0 where
  right : Place → BinaryOperator → Expr → InValue
  operate : Place → BinaryOperator → (left : Value) → InValue
  operate_on : Place → UnaryOperator → InValue
  member : Gathering → Exprs → (before : List Value) → InValue
  and_then : Expr → InValue
  or_else : Expr → InValue
  choose : (yes no : Expr) → InValue
  targets : Place → Exprs → List Value → InValue
  key_of : Place → (value : Expr) → Entries → List (Value × Value) → InValue
  pair_of : Place → (key : Value) → Entries → List (Value × Value) → InValue
  index_of : Place → (index : Expr) → InValue
  index_at : Place → (value : Value) → InValue
  bounds_of : Place → (from to step : OptionalExpr) → InValue
  end_of : Place → (value : Value) → (to step : OptionalExpr) → InValue
  step_of : Place → (value from : Value) → (step : OptionalExpr) → InValue
  cut_at : Place → (value from to : Value) → InValue
  target_of : Place → (index : Expr) → (new : Value) → InValue
  target_at : Place → (value new : Value) → InValue
  callee : Place → Exprs → InValue
  argument : Place → (function : Value) → Form → Exprs → (before : Arguments) → InValue
  default_of : Making → Parameters → (before : List Value) → InValue
  first_members : Place → Clauses → Bag → InValue
  attribute_of : Place → Name → InValue
  next_key : (left : ℕ) → Place → Wanted → (function : Value) → (members before : List Value) → InValue
  shown_piece : Place → Pieces → (before : List ℕ) → InValue

-- a value in a statement, or in a node
pub data InStatement : Type 0 where
  discard : InStatement
  assign_to : Place → Expr → InStatement
  augment : Place → BinaryOperator → Place → Name → Value → InStatement
  augment_of : Place → BinaryOperator → Place → (index value : Expr) → InStatement
  augment_at : Place → BinaryOperator → Place → (indexed : Value) → (value : Expr) → InStatement
  augment_index : Place → BinaryOperator → Place → (indexed index old : Value) → InStatement
  return_it : InStatement
  branch : Ops → Arms → InStatement
  walk_over : Place → Expr → Ops → InStatement
  enter : Ops → InStatement
  take_it : InStatement
  take_key : InStatement
  bind_to : Place → Name → InStatement
  note_argument : Name → Form → Exprs → (before : Arguments) → InStatement

-- the end of a part in a block, or in a loop
pub data InBlock : Type 0 where
  turn : Place → Expr → Ops → List Value → InBlock
  rest : Ops → InBlock
  walk_end : (object : ℕ) → InBlock

-- a value in the clauses of a comprehension, or in its element
pub data InElement : Type 0 where
  members_of_clause : Place → (target : Expr) → Clauses → Bag → InElement
  test_of_clause : Place → Clauses → Bag → InElement
  enter_clauses : Place → Clauses → Bag → InElement
  element : Expr → List Value → InElement
  element_key : Place → (key value : Expr) → List (Value × Value) → InElement
  element_pair : Place → (key : Value) → (key_expr value_expr : Expr) → List (Value × Value) → InElement

-- the end of a turn of a clause
pub data InClauses : Type 0 where
  clause_turn : Place → Expr → Clauses → List Value → InClauses
  clause_walk_end : (object : ℕ) → InClauses

-- a native of a host, for the end of the call with this tag, which it asked for; so many more it may ask for
pub record InNative : Type 0 where
  pub left : ℕ
  pub place : Place
  pub name : Name
  pub held : Values
  pub tag : ℕ

-- `gather` waits for what a comprehension has gathered, in the scope around it; `caller` for the end of a call, with what its
-- block built as a fragment or not; `in_native` with the nodes that are open around it
pub data Waiting : Type 0 where
  in_value : InValue → Waiting
  in_statement : InStatement → Waiting
  in_block : InBlock → Waiting
  in_element : InElement → Waiting
  in_clauses : InClauses → Waiting
  gather : Env → Waiting
  caller : (function : Call Here) → Env → Nodes → (fragment : Option ItemKind) → Waiting
  in_native : InNative → Nodes → Waiting

-- ---- what comes of each

-- what gives nothing, as what gives None
abbrev pub with_none : Computation Here Here → Computation Here Value
with_none m = m >>= λ u. give none_value

abbrev pub value_goes : Setting → InValue → Value → Computation Here Value
value_goes c (right p o b) x = evaluated c b >>= operator_row p o x
value_goes c (operate p o x) y = operator_row p o x y
value_goes c (operate_on p o) x = unary_row p o x
value_goes c (member g es before) v = all_evaluated c es >>= λ ws. gathered g (before ++ v ∷ ws)
value_goes c (and_then b) x = truth_of x >>= λ holds. if holds then evaluated c b else give x
value_goes c (or_else b) x = truth_of x >>= λ holds. if holds then give x else evaluated c b
value_goes c (choose a b) x = truth_of x >>= λ holds. if holds then evaluated c a else evaluated c b
value_goes c (targets p es vs) x = with_none (assigned_each c p es vs)
value_goes c (key_of p b es ps) k = evaluated c b >>= λ v. display_pair p ps k v >>= λ more. entries_done c p es more
value_goes c (pair_of p k es ps) v = display_pair p ps k v >>= λ more. entries_done c p es more
value_goes c (index_of p i) x = evaluated c i >>= λ y. index_row p x y
value_goes c (index_at p x) y = index_row p x y
value_goes c (bounds_of p i j k) x = bound_then c i (λ y. bound_then c j (λ z. bound_then c k (λ w. slice_row p x (cut y z w))))
value_goes c (end_of p x j k) y = bound_then c j (λ z. bound_then c k (λ w. slice_row p x (cut y z w)))
value_goes c (step_of p x y k) z = bound_then c k (λ w. slice_row p x (cut y z w))
value_goes c (cut_at p x y z) w = slice_row p x (cut y z w)
value_goes c (target_of p i v) x = evaluated c i >>= λ y. with_none (set_index_row p x y v)
value_goes c (target_at p x v) y = with_none (set_index_row p x y v)
value_goes c (callee p es) g = arguments_then c es none_given (all_calls c p g)
value_goes c (argument p g form es before) v = argument_then c form es before (all_calls c p g) v
value_goes c (default_of k ps before) v = making c k ps (before ++ v ∷ [])
value_goes c (first_members p cs b) v = first_done c p cs b v
value_goes c (attribute_of p x) v = attribute_row p v x
value_goes c (next_key left p w f vs ks) k = keys_then c left p w f vs (ks ++ k ∷ [])
value_goes c (shown_piece p ps before) v = shown_row p v >>= λ t. pieces_then c p ps (before ++ t)

abbrev pub statement_goes : Setting → InStatement → Value → Part Here Nodes
statement_goes c discard v k = give (on k)
statement_goes c (assign_to p x) v k = assigned c p x v >>= λ u. give (on k)
statement_goes c (augment q o p x old) v k = assignment_row q o old v >>= λ w. write_name p x w (box_of x c.env) >>= λ u. give (on k)
statement_goes c (augment_of q o r i e) x k = evaluated c i >>= λ y. index_row r x y >>= λ old. augmented_in c q o r x y e old k
statement_goes c (augment_at q o r x e) y k = index_row r x y >>= λ old. augmented_in c q o r x y e old k
statement_goes c (augment_index q o r x y old) v k = changed_at q o r x y old v k
statement_goes c return_it v k = give (out (returns v) k)
statement_goes c (branch os bs) v k = branched c os bs v k
statement_goes c (walk_over p x os) v k = looped c p x (through c os) v k
statement_goes c (enter os) v k = through c os k
statement_goes c take_it v k = taking v k
statement_goes c take_key v k = keyed_by v k
statement_goes c (bind_to p x) v k = write_name p x v (box_of x c.env) >>= λ u. give (on k)
statement_goes c (note_argument x form es before) v k = argument_then c form es before (λ vs. noting x vs k) v

-- one turn of a loop for a member, and then those for the members behind it
abbrev pub turn_and_more : {K : Type 0} → Place → (for_one : Value → Part Here K) → Value → List Value → Part Here K
turn_and_more p f v vs k = f v k >>= next_turn (turns p f vs)

-- what one turn of a loop does for a member, which is bound before
abbrev pub turn_of : Setting → Place → (target : Expr) → Ops → Value → Part Here Nodes
turn_of c p x os v k = assigned c p x v >>= λ u. through c os k

abbrev pub block_ends : Setting → InBlock → Ending Here (Flow Nodes) → Ending Here (Flow Nodes)
block_ends c (turn p x os vs) r = then_do r (next_turn (turns p (turn_of c p x os) vs))
block_ends c (rest os) r = then_do r (go_on (through c os))
block_ends c (walk_end o) r = finally r (on_store (end_loop (Some o)))

abbrev pub element_goes : Setting → InElement → Value → Computation Here (Flow Bag)
element_goes c (members_of_clause p x cs b) v = clause_looped c p x cs v b
element_goes c (test_of_clause p cs b) v = truth_of v >>= λ holds. if holds then clauses_done c p cs b else give (on b)
element_goes c (enter_clauses p cs b) v = clauses_done c p cs b
element_goes c (element e vs) v = give (on (values_bag e (vs ++ v ∷ [])))
element_goes c (element_key p e d ps) k = evaluated c d >>= λ v. turn_pair p ps k v >>= λ all. give (on (pairs_bag e d all))
element_goes c (element_pair p k e d ps) v = turn_pair p ps k v >>= λ all. give (on (pairs_bag e d all))

-- what one turn of a clause does for a member
abbrev pub clause_turn_of : Setting → Place → (target : Expr) → Clauses → Value → Part Here Bag
clause_turn_of c p x cs v b = assigned c p x v >>= λ u. clauses_done c p cs b

abbrev pub clauses_end : Setting → InClauses → Ending Here (Flow Bag) → Ending Here (Flow Bag)
clauses_end c (clause_turn p x cs vs) r = then_do r (next_turn (turns p (clause_turn_of c p x cs) vs))
clauses_end c (clause_walk_end o) r = finally r (on_store (end_loop (Some o)))

-- ---- what comes of all

-- how an expression ends, a block with the nodes that are then open, or a comprehension, in its scope
pub data Final : Type 0 where
  value_end : Env → Ending Here Value → Final
  flow_end : Env → Ending Here (Flow Nodes) → Final
  bag_end : Env → Ending Here (Flow Bag) → Final

abbrev pub in_env : Setting → Env → Setting
in_env c env = record c { env = env }

abbrev pub setting : (function : Call Here) → Env → Setting
setting f env = record { function = f; env = env }

-- what a call gives at the end of its block
abbrev pub call_gives : (fragment : Option ItemKind) → Ending Here (Flow Nodes) → Ending Here Value
call_gives fragment r = then_do r (λ f. give (result_of fragment (bottom_flow f)))

-- what a native goes on to from how the call ended that it asked for: it is told of a fault too
abbrev pub native_ends : Setting → InNative → Ending Here Value → Ending Here Value
native_ends c w r = then_do (resumed_with asking w.place w.name w.held w.tag r) (after_replied c.function w.left w.place w.name w.held)

-- What comes of what waits around a value, with the nodes that are open, around the end of a block, or around what a
-- comprehension has gathered, the innermost first. Where another one comes, the program is in no proper form.
abbrev mutual
  pub unwind_value : Setting → Nodes → List Waiting → Ending Here Value → Final
  unwind_value c k [] r = value_end c.env r
  unwind_value c k (in_value w ∷ ws) r = unwind_value c k ws (then_do r (value_goes c w))
  unwind_value c k (in_statement w ∷ ws) r = unwind_flow c ws (then_do r (λ v. statement_goes c w v k))
  unwind_value c k (in_block w ∷ ws) r = unwind_flow c ws (block_ends c w (then_do r (λ v. ill_formed)))
  unwind_value c k (in_element w ∷ ws) r = unwind_bag c k ws (then_do r (element_goes c w))
  unwind_value c k (in_clauses w ∷ ws) r = unwind_bag c k ws (clauses_end c w (then_do r (λ v. ill_formed)))
  unwind_value c k (gather env ∷ ws) r = unwind_value (in_env c env) k ws (then_do r (λ v. ill_formed))
  unwind_value c k (caller f env j fragment ∷ ws) r = unwind_value (setting f env) j ws r
  unwind_value c k (in_native w j ∷ ws) r = unwind_value c j ws (native_ends c w r)

  pub unwind_flow : Setting → List Waiting → Ending Here (Flow Nodes) → Final
  unwind_flow c [] r = flow_end c.env r
  unwind_flow c (in_value w ∷ ws) r = unwind_value c [] ws (then_do r (λ f. ill_formed))
  unwind_flow c (in_statement w ∷ ws) r = unwind_flow c ws (then_do r (λ f. ill_formed))
  unwind_flow c (in_block w ∷ ws) r = unwind_flow c ws (block_ends c w r)
  unwind_flow c (in_element w ∷ ws) r = unwind_bag c [] ws (then_do r (λ f. ill_formed))
  unwind_flow c (in_clauses w ∷ ws) r = unwind_bag c [] ws (clauses_end c w (then_do r (λ f. ill_formed)))
  unwind_flow c (gather env ∷ ws) r = unwind_value (in_env c env) [] ws (then_do r (λ f. ill_formed))
  unwind_flow c (caller f env j fragment ∷ ws) r = unwind_value (setting f env) j ws (call_gives fragment r)
  unwind_flow c (in_native w j ∷ ws) r = unwind_value c j ws (native_ends c w (then_do r (λ f. ill_formed)))

  pub unwind_bag : Setting → Nodes → List Waiting → Ending Here (Flow Bag) → Final
  unwind_bag c k [] r = bag_end c.env r
  unwind_bag c k (in_value w ∷ ws) r = unwind_value c k ws (then_do r (λ f. ill_formed))
  unwind_bag c k (in_statement w ∷ ws) r = unwind_flow c ws (then_do r (λ f. ill_formed))
  unwind_bag c k (in_block w ∷ ws) r = unwind_flow c ws (block_ends c w (then_do r (λ f. ill_formed)))
  unwind_bag c k (in_element w ∷ ws) r = unwind_bag c k ws (then_do r (λ f. ill_formed))
  unwind_bag c k (in_clauses w ∷ ws) r = unwind_bag c k ws (clauses_end c w r)
  unwind_bag c k (gather env ∷ ws) r = unwind_value (in_env c env) k ws (then_do r flow_made)
  unwind_bag c k (caller f env j fragment ∷ ws) r = unwind_value (setting f env) j ws (then_do r (λ f. ill_formed))
  unwind_bag c k (in_native w j ∷ ws) r = unwind_value c j ws (native_ends c w (then_do r (λ f. ill_formed)))

-- how the expression ended, or the block
abbrev pub value_ends : Final → Ending Here Value
value_ends (value_end env r) = r
value_ends (flow_end env r) = then_do r (λ f. ill_formed)
value_ends (bag_end env r) = then_do r (λ f. ill_formed)

abbrev pub flow_ends : Final → Ending Here (Flow Nodes)
flow_ends (value_end env r) = then_do r (λ v. ill_formed)
flow_ends (flow_end env r) = r
flow_ends (bag_end env r) = then_do r (λ f. ill_formed)

-- the scope at the end
abbrev pub end_env : Final → Env
end_env (value_end env r) = env
end_env (flow_end env r) = env
end_env (bag_end env r) = env

-- a part that walks an object
abbrev pub walked : {K : Type 0} → (object : ℕ) → Part Here K → Part Here K
walked o part k = λ s. finally (part k (on_store (begin_loop (Some o)) s)) (on_store (end_loop (Some o)))
