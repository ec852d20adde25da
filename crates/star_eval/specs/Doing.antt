-- What code does in a setting, as the machine goes about it: what it does after its step, and what follows from each value.
-- It is what the language says (`proofs/Says`).
use Rattle.std.specs.Prelude.{suc, ◌==◌, length, List, [], ◌∷◌, ◌++◌, drop, Option, Some, None, ℕ, codes, if◌then◌else◌}
use Rattle.ytt_base.specs.declared.fault.FaultKind.TheVariants as kind
use Rattle.ytt_base.specs.declared.fault.Place.{Place}
use Rattle.code_spec.specs.Code as plain
use Rattle.code_spec.specs.Code.{BinaryOperator, Clauses, for_clause, Entries, Expr, Exprs, Name, OptionalExpr, absent, present, Parameters, Pieces, Statement}
use Rattle.code_spec.specs.Blocks.{Arms, no_arm, else_arm, arm, Ops, Op, op_part, op_statement, op_if, op_for, op_def}
use Rattle.code_spec.specs.Names.{clauses_names}
use Rattle.code_spec.specs.Program.{NodePart, node_start, node_note, node_key, node_key_from, node_value, node_value_from, node_end}
use Rattle.index_spec.specs.Index.{index_row, set_index_row}
use Rattle.index_spec.specs.Slices.{Cut, slice_row}
use Rattle.node_build.specs.Parts.{ending, keying, noting, taking, valuing}
use Rattle.builtin_spec.specs.Attributes.{attribute_row}
use Rattle.builtin_spec.specs.Operators.{assignment_row, operator_row}
use Rattle.builtin_spec.specs.Sorting.{Wanted, wanted_row}
use Rattle.operator_spec.specs.Operators.{unary_row}
use Rattle.star_calls.specs.Arguments.{Form, and_argument, both, by_name, none_given, positional, star, two_stars}
use Rattle.star_spec.specs.Calls.{keys_by}
use Rattle.star_spec.specs.Eval.{assign_each, assign_to, built_so_far, clauses_in_turn, comprehend, count_exprs, default_values, eval, eval_all, eval_arguments, eval_entries, eval_pieces, members_of, starlark, truth_of, turn_pair}
use Rattle.star_spec.specs.Flow.{Flow, on, out, Part, over_members}
use Rattle.star_spec.specs.Language.{Call, breaks, continues, returns}
use Rattle.star_spec.specs.Names.{box_of, read_name, with_boxes, write_name}
use Rattle.star_eval.specs.Calling.{calls_from, calls_of}
use Rattle.star_eval.specs.Meets.{Here}
use Rattle.star_tree.specs.Whole.{Entry}
use Rattle.template_meaning.specs.Run.{Node, on_top, opened, run, runs}
use Rattle.template_meaning.specs.Take.{key_taken}
use Rattle.value_spec.specs.Outcomes.{Computation, give, ill_formed, need, new_dict, new_list, new_object, paid, ◌>>=◌}
use Rattle.value_spec.specs.Values.{Arguments, Env, function_value, int_value, none_value, of_function, text_value, tuple_value, Value, values_from}

abbrev pub Nodes : Type 0
Nodes = List Node

-- the calls of functions that code may make, and its scope
pub record Setting : Type 0 where
  pub function : Call Here
  pub env : Env

-- all calls that it may make
abbrev pub all_calls : Setting → Call Here
all_calls c = calls_of c.function

-- ---- parts of code

abbrev pub evaluated : Setting → Expr → Computation Here Value
evaluated c e = eval (all_calls c) e c.env

abbrev pub all_evaluated : Setting → Exprs → Computation Here (List Value)
all_evaluated c es = eval_all (all_calls c) es c.env

-- a part of a slice, None where it is absent, and what follows
abbrev pub bound_then : Setting → OptionalExpr → (Value → Computation Here Value) → Computation Here Value
bound_then c absent f = f none_value
bound_then c (present e) f = evaluated c e >>= f

-- the parts of a slice
abbrev pub cut : (from to step : Value) → Cut
cut from to step = record { from = from; to = to; step = step }

-- a new dict of these pairs and of those of the entries behind them
abbrev pub entries_done : Setting → Place → Entries → List (Value × Value) → Computation Here Value
entries_done c p es ps = eval_entries (all_calls c) p es c.env ps >>= new_dict

-- an entry in front of others
abbrev pub with_entry : Entry → Entries → Entries
with_entry e es = plain.an_entry e.key e.value es

-- the first piece that is an expression, with those behind it
abbrev pub next_shown : Pieces → Option (Expr × Pieces)
next_shown plain.no_pieces = None
next_shown (plain.text_piece t ps) = next_shown ps
next_shown (plain.expr_piece e ps) = Some (e, ps)

-- the text of those in front of it
abbrev pub written_before : Pieces → List ℕ
written_before plain.no_pieces = []
written_before (plain.text_piece t ps) = t ++ written_before ps
written_before (plain.expr_piece e ps) = []

-- this text with that of pieces behind it
abbrev pub pieces_then : Setting → Place → Pieces → (before : List ℕ) → Computation Here Value
pieces_then c p ps before = eval_pieces (all_calls c) p ps c.env >>= λ more. give (text_value (before ++ more))

abbrev pub assigned : Setting → Place → Expr → Value → Computation Here (Unit {0})
assigned c p x v = assign_to (all_calls c) p x v c.env

abbrev pub assigned_each : Setting → Place → Exprs → List Value → Computation Here (Unit {0})
assigned_each c p es vs = assign_each (all_calls c) p es vs c.env

-- the members of a value, which has as many, to these targets
abbrev pub spread_over : Setting → Place → Exprs → Value → Computation Here (Unit {0})
spread_over c p es v = members_of p v >>= λ vs. need kind.ValueKind p (length vs == count_exprs es) >>= λ u. assigned_each c p es vs

-- a block, and a part of one
abbrev pub through : Setting → Ops → Part Here Nodes
through c os = runs starlark (all_calls c) os c.env

abbrev pub op_through : Setting → Op → Part Here Nodes
op_through c o = run starlark (all_calls c) o c.env

-- ---- arguments

-- how an argument stands, and its value
abbrev pub argument_form : Expr → Form
argument_form (plain.named p x e) = by_name x
argument_form (plain.starred p e) = star p
argument_form (plain.double_starred p e) = two_stars p
argument_form e = positional

abbrev pub argument_value : Expr → Expr
argument_value (plain.named p x e) = e
argument_value (plain.starred p e) = e
argument_value (plain.double_starred p e) = e
argument_value e = e

-- what follows from these arguments, with others behind them
abbrev pub arguments_then : {A : Type 0} → Setting → Exprs → (before : Arguments) → (Arguments → Computation Here A) → Computation Here A
arguments_then c es before f = eval_arguments (all_calls c) es c.env >>= λ rest. f (both before rest)

-- the same behind one more argument
abbrev pub argument_then : {A : Type 0} → Setting → Form → Exprs → (before : Arguments) → (Arguments → Computation Here A) → Value → Computation Here A
argument_then c form es before f v = and_argument form v before >>= λ more. arguments_then c es more f

-- ---- keys

-- what is wanted of members by these keys of theirs, and those that a function gives for the members that are left
abbrev pub keys_then : Setting → (left : ℕ) → Place → Wanted → (function : Value) → (members before : List Value) → Computation Here Value
keys_then c left p w f vs ks = keys_by (calls_from c.function left) p f (drop (length ks) vs) >>= λ more. wanted_row p w vs (ks ++ more)

-- ---- functions

-- what a new function is made with besides its defaults: where, its name, and the number of its code
pub record Making : Type 0 where
  pub place : Place
  pub name : Name
  pub number : ℕ

abbrev pub function_made : Env → Making → (defaults : List Value) → Computation Here Value
function_made env k ds = new_object (of_function (record { name = k.name; file = k.place.file; number = k.number; env = env; defaults = ds })) >>= λ r. give (function_value r)

-- the function with these defaults, and behind them those of the parameters
abbrev pub making : Setting → Making → Parameters → (before : List Value) → Computation Here Value
making c k ps before = default_values (all_calls c) ps c.env >>= λ ds. function_made c.env k (before ++ ds)

-- the first parameter with a default, with those behind it
abbrev pub next_default : Parameters → Option (Expr × Parameters)
next_default plain.no_parameters = None
next_default (plain.required x ps) = next_default ps
next_default (plain.defaulted x e ps) = Some (e, ps)
next_default (plain.bare_star ps) = next_default ps
next_default (plain.starred_parameter x ps) = next_default ps
next_default (plain.double_starred_parameter x ps) = next_default ps

-- ---- comprehensions

-- what a comprehension has gathered, with the expressions of its elements
pub data Bag : Type 0 where
  values_bag : Expr → List Value → Bag
  pairs_bag : (key value : Expr) → List (Value × Value) → Bag

-- one more element
abbrev pub element_done : Call Here → Place → Env → Part Here Bag
element_done call p env (values_bag e vs) = eval call e env >>= λ v. give (on (values_bag e (vs ++ v ∷ [])))
element_done call p env (pairs_bag e d ps) = eval call e env >>= λ k. eval call d env >>= λ v. turn_pair p ps k v >>= λ all. give (on (pairs_bag e d all))

abbrev pub bag_made : Bag → Computation Here Value
bag_made (values_bag e vs) = new_list vs
bag_made (pairs_bag e d ps) = new_dict ps

abbrev pub flow_made : Flow Bag → Computation Here Value
flow_made f = bag_made (built_so_far f)

-- the elements of these clauses, in their scope
abbrev pub clauses_done : Setting → Place → Clauses → Part Here Bag
clauses_done c p cs = clauses_in_turn (all_calls c) p (element_done (all_calls c) p) cs c.env

-- a loop of a clause over the members of a value
abbrev pub clause_looped : Setting → Place → (target : Expr) → Clauses → Value → Part Here Bag
clause_looped c p x cs v = over_members p (members_of p v) (λ w. assigned c p x w) v (clauses_done c p cs)

-- a whole comprehension, and what it makes of the members of its first clause: the names of all clauses are one scope
abbrev pub comprehended : Setting → Place → Clauses → Bag → Computation Here Value
comprehended c p cs b = comprehend (all_calls c) p (element_done (all_calls c) p) cs c.env b >>= flow_made

abbrev pub in_scope : Setting → Env → Setting
in_scope c own = record c { env = own ++ c.env }

abbrev pub first_done : Setting → Place → Clauses → Bag → Value → Computation Here Value
first_done c p (for_clause x e cs) b v = with_boxes (clauses_names (for_clause x e cs)) [] >>= λ own. clause_looped (in_scope c own) p x cs v b >>= flow_made
first_done c p _ b v = ill_formed

-- ---- expressions

-- where an expression takes its step; an argument of a call alone takes none, and is no expression
abbrev pub place_in : Expr → Option Place
place_in (plain.int p z) = Some p
place_in (plain.text p t) = Some p
place_in (plain.name p x) = Some p
place_in (plain.list p es) = Some p
place_in (plain.tuple p es) = Some p
place_in (plain.dict p es) = Some p
place_in (plain.unary p o a) = Some p
place_in (plain.binary p o a b) = Some p
place_in (plain.conjunction p a b) = Some p
place_in (plain.disjunction p a b) = Some p
place_in (plain.conditional p c a b) = Some p
place_in (plain.call p f es) = Some p
place_in (plain.named p x e) = None
place_in (plain.starred p e) = None
place_in (plain.double_starred p e) = None
place_in (plain.index p a i) = Some p
place_in (plain.slice p a i j k) = Some p
place_in (plain.attribute p a x) = Some p
place_in (plain.lambda p n ps e) = Some p
place_in (plain.list_comprehension p e cs) = Some p
place_in (plain.dict_comprehension p k v cs) = Some p
place_in (plain.text_template p ps) = Some p

-- after its step, which it took at this place
abbrev pub acted : Setting → Place → Expr → Computation Here Value
acted c p (plain.int q z) = give (int_value z)
acted c p (plain.text q t) = give (text_value t)
acted c p (plain.name q x) = read_name p x (box_of x c.env)
acted c p (plain.list q es) = all_evaluated c es >>= new_list
acted c p (plain.tuple q es) = all_evaluated c es >>= λ vs. give (tuple_value (values_from vs))
acted c p (plain.dict q es) = entries_done c p es []
acted c p (plain.unary q o a) = evaluated c a >>= unary_row p o
acted c p (plain.binary q o a b) = evaluated c a >>= λ x. evaluated c b >>= operator_row p o x
acted c p (plain.conjunction q a b) = evaluated c a >>= λ x. truth_of x >>= λ holds. if holds then evaluated c b else give x
acted c p (plain.disjunction q a b) = evaluated c a >>= λ x. truth_of x >>= λ holds. if holds then give x else evaluated c b
acted c p (plain.conditional q d a b) = evaluated c d >>= λ x. truth_of x >>= λ holds. if holds then evaluated c a else evaluated c b
acted c p (plain.call q f es) = evaluated c f >>= λ g. arguments_then c es none_given (all_calls c p g)
acted c p (plain.named q x e) = ill_formed
acted c p (plain.starred q e) = ill_formed
acted c p (plain.double_starred q e) = ill_formed
acted c p (plain.index q a i) = evaluated c a >>= λ x. evaluated c i >>= index_row p x
acted c p (plain.slice q a i j k) = evaluated c a >>= λ x. bound_then c i (λ y. bound_then c j (λ z. bound_then c k (λ w. slice_row p x (cut y z w))))
acted c p (plain.attribute q a x) = evaluated c a >>= λ v. attribute_row p v x
acted c p (plain.lambda q n ps e) = making c (record { place = p; name = codes "lambda"; number = n }) ps []
acted c p (plain.list_comprehension q e cs) = comprehended c p cs (values_bag e [])
acted c p (plain.dict_comprehension q k v cs) = comprehended c p cs (pairs_bag k v [])
acted c p (plain.text_template q ps) = pieces_then c p ps []

-- ---- statements

-- the end of a statement after what it does
abbrev pub concluded : {K : Type 0} → Computation Here (Unit {0}) → Part Here K
concluded m k = m >>= λ u. give (on k)

-- what an operation gives for what a value had at an index goes there, at the end of a statement
abbrev pub changed_at : {K : Type 0} → (operator_place : Place) → BinaryOperator → Place → (indexed index old value : Value) → Part Here K
changed_at q o r x y old v k = assignment_row q o old v >>= λ w. concluded (set_index_row r x y w) k

-- the same with the value of an expression, which is worked out behind what was there
abbrev pub augmented_in : {K : Type 0} → Setting → (operator_place : Place) → BinaryOperator → Place → (indexed index : Value) → Expr → (old : Value) → Part Here K
augmented_in c q o r x y e old k = evaluated c e >>= λ v. changed_at q o r x y old v k

-- the parts of the target, what it had, then the value, and then what both give
abbrev pub augmented : {K : Type 0} → Setting → BinaryOperator → (operator_place : Place) → (target value : Expr) → Part Here K
augmented c o q (plain.name r x) e k = read_name r x (box_of x c.env) >>= λ old. evaluated c e >>= λ v. assignment_row q o old v >>= λ w. write_name r x w (box_of x c.env) >>= λ u. give (on k)
augmented c o q (plain.index r a i) e k = evaluated c a >>= λ x. evaluated c i >>= λ y. index_row r x y >>= λ old. augmented_in c q o r x y e old k
augmented c o q _ e k = ill_formed

-- what a statement does after its step, which it took at this place
abbrev pub stated : {K : Type 0} → Setting → Place → Statement → Part Here K
stated c p (plain.evaluate q e) k = evaluated c e >>= λ v. give (on k)
stated c p (plain.assign q x e) k = evaluated c e >>= λ v. assigned c p x v >>= λ u. give (on k)
stated c p (plain.augment q o r x e) k = augmented c o r x e k
stated c p (plain.load q path xs) k = give (on k)
stated c p (plain.return q e) k = evaluated c e >>= λ v. give (out (returns v) k)
stated c p (plain.break q) k = give (out breaks k)
stated c p (plain.continue q) k = give (out continues k)
stated c p (plain.pass q) k = give (on k)

abbrev pub statement_place : Statement → Place
statement_place (plain.evaluate p e) = p
statement_place (plain.assign p x e) = p
statement_place (plain.augment p o q x e) = p
statement_place (plain.load p path xs) = p
statement_place (plain.return p e) = p
statement_place (plain.break p) = p
statement_place (plain.continue p) = p
statement_place (plain.pass p) = p

-- a loop over the members of a value, whose turns do this to what is built
abbrev pub looped : {K : Type 0} → Setting → Place → (target : Expr) → Part Here K → Value → Part Here K
looped c p x part v k = over_members p (members_of p v) (λ w. assigned c p x w) v part k

-- the block of the first branch whose test holds
abbrev pub arms_done : Setting → Arms → Part Here Nodes
arms_done c no_arm k = give (on k)
arms_done c (else_arm os) k = through c os k
arms_done c (arm e os bs) k = evaluated c e >>= λ v. truth_of v >>= λ holds. if holds then through c os k else arms_done c bs k

-- a block where a value is true, and else the branches behind it
abbrev pub branched : Setting → Ops → Arms → Value → Part Here Nodes
branched c os bs v k = truth_of v >>= λ holds. if holds then through c os k else arms_done c bs k

-- a new function, which its name gets
abbrev pub defined : Setting → Making → Parameters → Part Here Nodes
defined c k ps ns = making c k ps [] >>= λ f. concluded (write_name k.place k.name f (box_of k.name c.env)) ns

-- where a statement takes its step
abbrev pub op_place : Op → Option Place
op_place (op_part o) = None
op_place (op_statement s) = Some (statement_place s)
op_place (op_if p branches) = Some p
op_place (op_for p x e body) = Some p
op_place (op_def p number fragment x ps body) = Some p

-- what a statement does after its step, which it took at this place
abbrev pub done_after : Setting → Place → Op → Part Here Nodes
done_after c p (op_part o) k = ill_formed
done_after c p (op_statement s) k = stated c p s k
done_after c p (op_if q branches) k = arms_done c branches k
done_after c p (op_for q x e body) k = evaluated c e >>= λ v. looped c p x (through c body) v k
done_after c p (op_def q number fragment x ps body) k = defined c (record { place = p; name = x; number = number }) ps k

-- ---- parts of nodes

-- where a node is open that isn't the outermost one
abbrev pub with_two : {A : Type 0} → Nodes → Computation Here A → Computation Here A
with_two ns m = on_top (λ n ms. on_top (λ o ls. m) ms) ns

-- a start, a key, a written value and an end
abbrev pub written_part : NodePart → Part Here Nodes
written_part (node_start p k h) ns = on_top (λ m ms. paid p (give (on (opened p k h (suc m.level) ∷ m ∷ ms)))) ns
written_part (node_key p x) ns = keying x ns
written_part (node_value p x) ns = valuing x ns
written_part (node_end p) ns = ending ns
written_part (node_note p x es) ns = ill_formed
written_part (node_key_from p e) ns = ill_formed
written_part (node_value_from p e) ns = ill_formed

-- the key of the node on top, which a value is
abbrev pub keyed_by : Value → Part Here Nodes
keyed_by v ns = on_top (λ n ms. key_taken n.place v >>= λ k. give (on (record n { key = k } ∷ ms))) ns

abbrev pub part_done : Setting → NodePart → Part Here Nodes
part_done c (node_start p k h) ns = written_part (node_start p k h) ns
part_done c (node_key p x) ns = written_part (node_key p x) ns
part_done c (node_value p x) ns = written_part (node_value p x) ns
part_done c (node_end p) ns = written_part (node_end p) ns
part_done c (node_note p x es) ns = on_top (λ n ms. arguments_then c es none_given (λ vs. noting x vs (n ∷ ms))) ns
part_done c (node_key_from p e) ns = on_top (λ n ms. evaluated c e >>= λ v. keyed_by v (n ∷ ms)) ns
part_done c (node_value_from p e) ns = with_two ns (evaluated c e >>= λ v. taking v ns)

-- ---- steps

-- what is done at a place after a step there; without a place it is in no proper form
abbrev pub step_at : {A : Type 0} → Option Place → (Place → Computation Here A) → Computation Here A
step_at None f = ill_formed
step_at (Some p) f = paid p (f p)

-- a part of a node, or a statement behind its step
abbrev pub op_done : Setting → Op → Part Here Nodes
op_done c (op_part o) k = part_done c o k
op_done c o k = step_at (op_place o) (λ p. done_after c p o k)
