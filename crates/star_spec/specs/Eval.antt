-- The language: expressions, arguments, targets.
use Rattle.std.specs.Prelude.{ℕ, suc, Bool, ◌==◌, List, [], ◌∷◌, ◌++◌, length, Option, Some, None, is_some, unwrap_or, if◌then◌else◌, codes}
use Rattle.ytt_base.specs.declared.fault.FaultKind.{FaultKind}
use Rattle.ytt_base.specs.declared.fault.FaultKind.TheVariants as kind
use Rattle.ytt_base.specs.declared.fault.Place.{Place}
use Rattle.ytt_base.specs.Trees.{max_depth}
use Rattle.code_spec.specs.Code as code
use Rattle.code_spec.specs.Code.{Name, BinaryOperator, addition, Expr, Exprs, no_exprs, an_expr, OptionalExpr, absent, present, Entries, no_entries, an_entry, Clauses, no_clauses, for_clause, if_clause, Pieces, no_pieces, text_piece, expr_piece, Parameters, no_parameters, required, defaulted, bare_star, starred_parameter, double_starred_parameter}
use Rattle.value_spec.specs.Values.{Value, none_value, int_value, text_value, tuple_value, dict_value, Values, no_values, a_value, values_from, Fields, no_fields, a_field, Arguments, arguments, Env, of_function, function_value}
use Rattle.value_spec.specs.Outcomes.{Computation, paid, give, fail, or_fail, need, ill_formed, reads, new_object, new_list, new_dict, ◌>>=◌}
use Rattle.value_spec.specs.Keys.{key_offence, place_of_key}
use Rattle.value_spec.specs.Members.{members_in, truth_in}
use Rattle.star_spec.specs.Names.{box_of, with_boxes, read_name, write_name}
use Rattle.code_spec.specs.Names.{target_names, clauses_names}
use Rattle.operator_spec.specs.Operators.{unary_row}
use Rattle.operator_spec.specs.Order.{key_sized}
use Rattle.builtin_spec.specs.Attributes.{attribute_row}
use Rattle.builtin_spec.specs.Calls.{asked_row}
use Rattle.builtin_spec.specs.Operators.{assignment_row, operator_row}
use Rattle.builtin_spec.specs.Sorting.{members_taken, wanted_row}
use Rattle.index_spec.specs.Index.{index_row, set_index_row}
use Rattle.index_spec.specs.Slices.{slice_row}
use Rattle.text_spec.specs.Shown.{str_of}
use Rattle.value_spec.specs.Store.{pairs_at, put_pair}
use Rattle.star_spec.specs.Binding.{scope_of_call}
use Rattle.star_spec.specs.Flow.{Flow, on, out, Part, over_members}
use Rattle.star_spec.specs.Language.{Call, Language}

abbrev pub truth_of : {H : Type 0} → Value → Computation H Bool
truth_of v = reads (λ store. truth_in store v)

-- the members of a value, or ValueKind
abbrev pub members_of : {H : Type 0} → Place → Value → Computation H (List Value)
members_of p v = reads (λ store. members_in store v) >>= or_fail kind.ValueKind p

-- the text that a value is in a text template, as by `str`
abbrev pub shown_row : {H : Type 0} → Place → Value → Computation H (List ℕ)
shown_row p v = str_of p v

-- ---- displays

-- a key of a dict, or its refusal
abbrev pub need_key : {H : Type 0} → Place → Option FaultKind → Computation H (Unit {0})
need_key p None = give tt
need_key p (Some k) = fail k p

-- one more pair of a dict display; no key stands twice
abbrev pub display_pair : {H : Type 0} → Place → List (Value × Value) → (key value : Value) → Computation H (List (Value × Value))
display_pair p ps k v = do
  u ← need_key p (key_offence max_depth k)
  if is_some (place_of_key k ps) then fail kind.ValueKind p else give (put_pair k v ps)

-- one more pair of a dict comprehension, which takes the size of its key; a later value stands in the earlier place
abbrev pub turn_pair : {H : Type 0} → Place → List (Value × Value) → (key value : Value) → Computation H (List (Value × Value))
turn_pair p ps k v = key_sized p k >>= λ u. give (put_pair k v ps)

-- ---- arguments

abbrev pub and_values : List Value → Values → Values
and_values [] rest = rest
and_values (v ∷ vs) rest = a_value v (and_values vs rest)

abbrev pub and_fields : Fields → Fields → Fields
and_fields no_fields rest = rest
and_fields (a_field x v fs) rest = a_field x v (and_fields fs rest)

abbrev pub with_values : List Value → Arguments → Arguments
with_values vs (arguments rest fs) = arguments (and_values vs rest) fs

abbrev pub with_fields : Fields → Arguments → Arguments
with_fields fs (arguments vs rest) = arguments vs (and_fields fs rest)

abbrev pub field_in_front : Value → Value → Option Fields → Option Fields
field_in_front (text_value x) v (Some fs) = Some (a_field x v fs)
field_in_front _ v _ = None

-- the pairs of a dict as arguments by name, if each key is a text
abbrev pub as_fields : List (Value × Value) → Option Fields
as_fields [] = Some no_fields
as_fields (p ∷ ps) = field_in_front p.0 p.1 (as_fields ps)

abbrev pub spread_fields : {H : Type 0} → Place → Value → Computation H Fields
spread_fields p (dict_value r) = reads (pairs_at r) >>= λ ps. or_fail kind.ValueKind p (as_fields ps)
spread_fields p _ = fail kind.ValueKind p

-- ---- expressions

abbrev pub built_so_far : {K : Type 0} → Flow K → K
built_so_far (on k) = k
built_so_far (out w k) = k

abbrev pub count_exprs : Exprs → ℕ
count_exprs no_exprs = 0
count_exprs (an_expr e es) = suc (count_exprs es)

-- each node takes a step before it acts, at its place; operands go from left to right
abbrev mutual
  pub eval : {H : Type 0} → Call H → Expr → Env → Computation H Value
  eval call (code.int p z) env = paid p (give (int_value z))
  eval call (code.text p t) env = paid p (give (text_value t))
  eval call (code.name p x) env = paid p (read_name p x (box_of x env))
  eval call (code.list p es) env = paid p (eval_all call es env >>= new_list)
  eval call (code.tuple p es) env = paid p (eval_all call es env >>= λ vs. give (tuple_value (values_from vs)))
  eval call (code.dict p es) env = paid p (eval_entries call p es env [] >>= new_dict)
  eval call (code.unary p o a) env = paid p (eval call a env >>= unary_row p o)
  eval call (code.binary p o a b) env = paid p (do
    x ← eval call a env
    y ← eval call b env
    operator_row p o x y)
  eval call (code.conjunction p a b) env = paid p (eval call a env >>= λ x. truth_of x >>= λ holds. if holds then eval call b env else give x)
  eval call (code.disjunction p a b) env = paid p (eval call a env >>= λ x. truth_of x >>= λ holds. if holds then give x else eval call b env)
  eval call (code.conditional p c a b) env = paid p (eval call c env >>= λ x. truth_of x >>= λ holds. if holds then eval call a env else eval call b env)
  eval call (code.call p f es) env = paid p (do
    g ← eval call f env
    vs ← eval_arguments call es env
    call p g vs)
  eval call (code.named p x e) env = ill_formed
  eval call (code.starred p e) env = ill_formed
  eval call (code.double_starred p e) env = ill_formed
  eval call (code.index p a i) env = paid p (eval call a env >>= λ x. eval call i env >>= index_row p x)
  eval call (code.slice p a low high step) env = paid p (do
    x ← eval call a env
    l ← eval_optional call low env
    h ← eval_optional call high env
    d ← eval_optional call step env
    slice_row p x (record { from = unwrap_or l none_value; to = unwrap_or h none_value; step = unwrap_or d none_value }))
  eval call (code.attribute p a x) env = paid p (eval call a env >>= λ v. attribute_row p v x)
  eval call (code.lambda p number ps e) env = paid p (do
    ds ← default_values call ps env
    r ← new_object (of_function (record { name = codes "lambda"; file = p.file; number = number; env = env; defaults = ds }))
    give (function_value r))
  eval call (code.list_comprehension p e cs) env = paid p (comprehend call p (λ scope vs. eval call e scope >>= λ v. give (on (vs ++ v ∷ []))) cs env [] >>= λ f. new_list (built_so_far f))
  eval call (code.dict_comprehension p e d cs) env =
      paid p (comprehend call p (λ scope ps. eval call e scope >>= λ k. eval call d scope >>= λ v. turn_pair p ps k v >>= λ all. give (on all)) cs env [] >>= λ f. new_dict (built_so_far f))
  eval call (code.text_template p ps) env = paid p (eval_pieces call p ps env >>= λ t. give (text_value t))

  pub eval_all : {H : Type 0} → Call H → Exprs → Env → Computation H (List Value)
  eval_all call no_exprs env = give []
  eval_all call (an_expr e es) env = do
    v ← eval call e env
    vs ← eval_all call es env
    give (v ∷ vs)

  -- the arguments of a call or of a note: by position and by name, and the members of `*e` and the pairs of `**e`; of a range's
  -- numbers there are no more than steps are left
  pub eval_arguments : {H : Type 0} → Call H → Exprs → Env → Computation H Arguments
  eval_arguments call no_exprs env = give (arguments no_values no_fields)
  eval_arguments call (an_expr (code.named p x e) es) env = do
    v ← eval call e env
    rest ← eval_arguments call es env
    give (with_fields (a_field x v no_fields) rest)
  eval_arguments call (an_expr (code.starred p e) es) env = do
    v ← eval call e env
    vs ← members_taken p v
    rest ← eval_arguments call es env
    give (with_values vs rest)
  eval_arguments call (an_expr (code.double_starred p e) es) env = do
    v ← eval call e env
    fs ← spread_fields p v
    rest ← eval_arguments call es env
    give (with_fields fs rest)
  eval_arguments call (an_expr e es) env = do
    v ← eval call e env
    rest ← eval_arguments call es env
    give (with_values (v ∷ []) rest)

  pub eval_optional : {H : Type 0} → Call H → OptionalExpr → Env → Computation H (Option Value)
  eval_optional call absent env = give None
  eval_optional call (present e) env = eval call e env >>= λ v. give (Some v)

  pub eval_entries : {H : Type 0} → Call H → Place → Entries → Env → List (Value × Value) → Computation H (List (Value × Value))
  eval_entries call p no_entries env ps = give ps
  eval_entries call p (an_entry a b es) env ps = do
    k ← eval call a env
    v ← eval call b env
    more ← display_pair p ps k v
    eval_entries call p es env more

  pub eval_pieces : {H : Type 0} → Call H → Place → Pieces → Env → Computation H (List ℕ)
  eval_pieces call p no_pieces env = give []
  eval_pieces call p (text_piece t ps) env = eval_pieces call p ps env >>= λ more. give (t ++ more)
  eval_pieces call p (expr_piece e ps) env = do
    v ← eval call e env
    t ← shown_row p v
    more ← eval_pieces call p ps env
    give (t ++ more)

  -- The first members are of the scope around; the names of all clauses are one scope, whose boxes its turns share.
  pub comprehend : {H K : Type 0} → Call H → Place → (element : Env → Part H K) → Clauses → Env → Part H K
  comprehend call p element (for_clause x e cs) env k = do
    v ← eval call e env
    own ← with_boxes (target_names x ++ clauses_names cs) []
    over_members p (members_of p v) (λ w. assign_to call p x w (own ++ env)) v (clauses_in_turn call p element cs (own ++ env)) k
  comprehend call p element _ env k = ill_formed

  pub clauses_in_turn : {H K : Type 0} → Call H → Place → (element : Env → Part H K) → Clauses → Env → Part H K
  clauses_in_turn call p element no_clauses env k = element env k
  clauses_in_turn call p element (for_clause x e cs) env k = do
    v ← eval call e env
    over_members p (members_of p v) (λ w. assign_to call p x w env) v (clauses_in_turn call p element cs env) k
  clauses_in_turn call p element (if_clause e cs) env k = eval call e env >>= λ v. truth_of v >>= λ holds. if holds then clauses_in_turn call p element cs env k else give (on k)

  -- the values of the parameters that have a default, in their order
  pub default_values : {H : Type 0} → Call H → Parameters → Env → Computation H (List Value)
  default_values call no_parameters env = give []
  default_values call (required x ps) env = default_values call ps env
  default_values call (defaulted x e ps) env = do
    v ← eval call e env
    vs ← default_values call ps env
    give (v ∷ vs)
  default_values call (bare_star ps) env = default_values call ps env
  default_values call (starred_parameter x ps) env = default_values call ps env
  default_values call (double_starred_parameter x ps) env = default_values call ps env

  -- a value to a name, to an index, or member by member to as many targets
  pub assign_to : {H : Type 0} → Call H → Place → Expr → Value → Env → Computation H (Unit {0})
  assign_to call p (code.name q x) v env = write_name q x v (box_of x env)
  assign_to call p (code.list q es) v env = members_of p v >>= λ vs. need kind.ValueKind p (length vs == count_exprs es) >>= λ u. assign_each call p es vs env
  assign_to call p (code.tuple q es) v env = members_of p v >>= λ vs. need kind.ValueKind p (length vs == count_exprs es) >>= λ u. assign_each call p es vs env
  assign_to call p (code.index q a i) v env = eval call a env >>= λ x. eval call i env >>= λ y. set_index_row q x y v
  assign_to call p _ v env = ill_formed

  pub assign_each : {H : Type 0} → Call H → Place → Exprs → List Value → Env → Computation H (Unit {0})
  assign_each call p no_exprs vs env = give tt
  assign_each call p (an_expr e es) [] env = give tt
  assign_each call p (an_expr e es) (v ∷ vs) env = assign_to call p e v env >>= λ u. assign_each call p es vs env

-- the target's parts come first, each once, then what it had, and then the value
abbrev pub augment_to : {H : Type 0} → Call H → Place → BinaryOperator → (operator_place : Place) → (target value : Expr) → Env → Computation H (Unit {0})
augment_to call p o q (code.name r x) e env = do
  old ← read_name r x (box_of x env)
  v ← eval call e env
  w ← assignment_row q o old v
  write_name r x w (box_of x env)
augment_to call p o q (code.index r a i) e env = do
  x ← eval call a env
  y ← eval call i env
  old ← index_row r x y
  v ← eval call e env
  w ← assignment_row q o old v
  set_index_row r x y w
augment_to call p o q _ e env = ill_formed

abbrev pub starlark : {H : Type 0} → Language H
starlark = record {
  eval = eval;
  arguments = eval_arguments;
  assign = assign_to;
  augment = augment_to;
  bind_name = λ p x v env. write_name p x v (box_of x env);
  truth = truth_of;
  members = members_of;
  defaults = default_values;
  bind = scope_of_call;
  own_call = asked_row;
  own_call_keyed = wanted_row;
}
