-- Expressions, arguments and targets keep what the program holds, where their literals are such and calls keep it.
use Rattle.std.proofs.Common.{◌≡◌, Bool, true, false, if◌then◌else◌, is_some, List, [], ◌∷◌, ◌++◌, ℕ, Option, Some, None, unwrap_or, IsUtf8, refl, bytes_eq, codes}
use Rattle.std.proofs.lemmas.Str.{IsUtf8-nil, IsUtf8-append}
use Rattle.ytt_base.specs.declared.fault.FaultKind.{FaultKind}
use Rattle.ytt_base.specs.declared.fault.FaultKind.TheVariants as kind
use Rattle.ytt_base.specs.declared.fault.Place.{Place}
use Rattle.ytt_base.specs.Trees.{max_depth}
use Rattle.code_spec.specs.Code as code
use Rattle.code_spec.specs.Code.{Name, BinaryOperator, addition, Expr, Exprs, no_exprs, an_expr, OptionalExpr, absent, present, Entries, no_entries, an_entry, Clauses, no_clauses, for_clause, if_clause, Pieces, no_pieces, text_piece, expr_piece, Parameters, no_parameters, required, defaulted, bare_star, starred_parameter, double_starred_parameter}
use Rattle.code_spec.specs.Names.{own_functions, is_among, target_names, clauses_names}
use Rattle.star_spec.specs.Eval.{truth_of, members_of, need_key, display_pair, turn_pair, and_values, and_fields, with_values, with_fields, field_in_front, as_fields, spread_fields, built_so_far, eval, eval_all, eval_arguments, eval_optional, eval_entries, eval_pieces, comprehend, clauses_in_turn, default_values, assign_to, assign_each, augment_to}
use Rattle.star_spec.specs.Flow.{Flow, on, out, Part, next_turn, turns, walk, over_members}
use Rattle.star_spec.specs.Held.{HeldValue, HeldValues, HeldFields, HeldExpr, HeldExprs, HeldOptional, HeldEntries, HeldClauses, HeldPieces, HeldParameters, HeldList, HeldPairs, HeldIfAny, HeldArguments}
use Rattle.star_spec.specs.Language.{Call, breaks, continues, returns}
use Rattle.star_spec.specs.Names.{constant, box_of, with_box, with_boxes, value_or_unset, unbound, read_name, fill_box, write_name}
use Rattle.value_spec.specs.Keys.{key_offence, place_of_key}
use Rattle.value_spec.specs.Members.{walked_in, truth_in}
use Rattle.value_spec.specs.Outcomes.{Computation, ◌>>=◌}
use Rattle.value_spec.specs.Store.{object_at, put_pair, with_contents, end_loop, box_at}
use Rattle.value_spec.specs.Values.{Value, none_value, bool_value, int_value, text_value, tuple_value, dict_value, function_value, native_value, builtin, Values, no_values, values_from, Fields, no_fields, a_field, Arguments, arguments, Env, of_box, of_function}
use Rattle.star_spec.proofs.AttributesKeep.{among_utf8, attribute_keeps}
use Rattle.star_spec.proofs.BuiltinsKeep.{assignment_held, operator_held}
use Rattle.star_spec.proofs.IndexKeeps.{index_keeps, slice_keeps, set_index_keeps}
use Rattle.star_spec.proofs.Keeping.{Keeps, Anything, keeps_then, keeps_give, keeps_fail, keeps_or_fail, keeps_ill_formed, keeps_need, keeps_paid, keeps_if, keeps_reads, keeps_new_object, object_held, box_held, change_held, loops_held, kept_finally}
use Rattle.star_spec.proofs.MembersHeld.{from_values, more_held, members_keep, pairs_keep, put_pair_held, new_list_keeps, new_dict_keeps}
use Rattle.star_spec.proofs.RowsHeld.{unary_held, measured_keeps}
use Rattle.star_spec.proofs.SortingKeeps.{members_taken_keep}
use Rattle.star_spec.proofs.TextsKeep.{low_utf8, str_keeps}

-- a call of a value gives what the program holds
pub record CallKeeps {H : Type 0} (call : Call H) : Type 0 where
  pub by : (p : Place) (f : Value) (vs : Arguments) → HeldValue f → HeldArguments vs → Keeps HeldValue (call p f vs)

-- ---- members and arguments

and_values_held : (vs : List Value) (rest : Values) → HeldList vs → HeldValues rest → HeldValues (and_values vs rest)
and_values_held [] rest h k = k
and_values_held (v ∷ vs) rest h k = (h.0, and_values_held vs rest h.1 k)

and_fields_held : (fs rest : Fields) → HeldFields fs → HeldFields rest → HeldFields (and_fields fs rest)
and_fields_held no_fields rest h k = k
and_fields_held (a_field x v fs) rest h k = (h.0, h.1, and_fields_held fs rest h.2 k)

with_values_held : (vs : List Value) (rest : Arguments) → HeldList vs → HeldArguments rest → HeldArguments (with_values vs rest)
with_values_held vs (arguments rest fs) h k = (and_values_held vs rest h k.0, k.1)

with_fields_held : (fs : Fields) (rest : Arguments) → HeldFields fs → HeldArguments rest → HeldArguments (with_fields fs rest)
with_fields_held fs (arguments vs rest) h k = (k.0, and_fields_held fs rest h k.1)

pub truth_keeps : {H : Type 0} (v : Value) → Keeps {H = H} Anything (truth_of v)
truth_keeps v = keeps_reads (λ store. truth_in store v) (λ store h. tt)

-- ---- dicts

key_keeps : {H : Type 0} (p : Place) (o : Option FaultKind) → Keeps {H = H} Anything (need_key p o)
key_keeps p None = keeps_give tt tt
key_keeps p (Some k) = keeps_fail k p []

display_keeps : {H : Type 0} (p : Place) (ps : List (Value × Value)) (k v : Value) → HeldPairs ps → HeldValue k → HeldValue v → Keeps {H = H} HeldPairs (display_pair p ps k v)
display_keeps p ps k v h key value = keeps_then (key_keeps p (key_offence max_depth k)) (λ u g. keeps_if (is_some (place_of_key k ps)) (λ e. keeps_fail kind.ValueKind p []) (λ e. keeps_give (put_pair k v ps) (put_pair_held k v ps key value h)))

turn_keeps : {H : Type 0} (p : Place) (ps : List (Value × Value)) (k v : Value) → HeldPairs ps → HeldValue k → HeldValue v → Keeps {H = H} HeldPairs (turn_pair p ps k v)
turn_keeps p ps k v h key value = keeps_then (measured_keeps 5 p k) (λ u g. keeps_give (put_pair k v ps) (put_pair_held k v ps key value h))

abbrev HeldSomeFields : Option Fields → Type 0
HeldSomeFields None = Unit {0}
HeldSomeFields (Some fs) = HeldFields fs

front_held : (k v : Value) (o : Option Fields) → HeldValue k → HeldValue v → HeldSomeFields o → HeldSomeFields (field_in_front k v o)
front_held (text_value x) v None h k g = tt
front_held (text_value x) v (Some fs) h k g = (h, k, g)
front_held _ v o h k g = tt

fields_held : (ps : List (Value × Value)) → HeldPairs ps → HeldSomeFields (as_fields ps)
fields_held [] h = tt
fields_held (p ∷ ps) h = front_held p.0 p.1 (as_fields ps) h.0 h.1 (fields_held ps h.3)

fields_found : (o : Option Fields) (fs : Fields) → HeldSomeFields o → o ≡ Some fs → HeldFields fs
fields_found None fs h e = cc
fields_found (Some gs) fs h e = let same : gs ≡ fs = cc in rw (← same) h

spread_keeps : {H : Type 0} (p : Place) (v : Value) → Keeps {H = H} HeldFields (spread_fields p v)
spread_keeps p (dict_value r) = keeps_then (pairs_keep r) (λ ps h. keeps_or_fail kind.ValueKind p (as_fields ps) (λ fs e. fields_found (as_fields ps) fs (fields_held ps h) e))
spread_keeps p _ = keeps_fail kind.ValueKind p []

-- ---- names

unset_keeps : {H : Type 0} (p : Place) (x : Name) (o : Option Value) → HeldIfAny o → Keeps {H = H} HeldValue (value_or_unset p x o)
unset_keeps p x None h = keeps_fail kind.NameUnset p x
unset_keeps p x (Some v) h = keeps_give v h

-- those of the language that are values
constant_held : (x : Name) → HeldIfAny (constant x)
constant_held x = one_of (bytes_eq x (codes "None")) (bytes_eq x (codes "True")) (bytes_eq x (codes "False"))
  where
    one_of : (a b c : Bool) → HeldIfAny (if a then Some none_value else if b then Some (bool_value true) else if c then Some (bool_value false) else None)
    one_of true b c = tt
    one_of false true c = tt
    one_of false false true = tt
    one_of false false false = tt

unbound_keeps : {H : Type 0} (p : Place) (x : Name) (o : Option Value) → HeldIfAny o → Keeps {H = H} HeldValue (unbound p x o)
unbound_keeps p x None h = keeps_if (is_among x own_functions) (λ e. keeps_give (native_value (builtin x)) (among_utf8 x own_functions refl e)) (λ e. keeps_fail kind.NameUnknown p x)
unbound_keeps p x (Some v) h = keeps_give v h

pub read_keeps : {H : Type 0} (p : Place) (x : Name) (o : Option ℕ) → Keeps {H = H} HeldValue (read_name p x o)
read_keeps p x None = unbound_keeps p x (constant x) (constant_held x)
read_keeps p x (Some r) = keeps_then (keeps_reads {P = HeldIfAny} (box_at r) (λ store h. box_held (object_at r store) (object_held store r h))) (λ o h. unset_keeps p x o h)

pub fill_keeps : {H : Type 0} (r : ℕ) (v : Value) → HeldValue v → Keeps {H = H} Anything (fill_box r v)
fill_keeps r v h = record { by = λ s held. (tt, change_held (with_contents (of_box (Some v))) r s.store (λ x k. h) held) }

pub write_keeps : {H : Type 0} (p : Place) (x : Name) (v : Value) (o : Option ℕ) → HeldValue v → Keeps {H = H} Anything (write_name p x v o)
write_keeps p x v None h = keeps_fail kind.NameUnknown p x
write_keeps p x v (Some r) h = fill_keeps r v h

box_keeps : {H : Type 0} (x : Name) (env : Env) (o : Option ℕ) → Keeps {H = H} Anything (with_box x env o)
box_keeps x env (Some r) = keeps_give env tt
box_keeps x env None = keeps_then (keeps_new_object (of_box None) tt) (λ r u. keeps_give ((x, r) ∷ env) tt)

pub boxes_keep : {H : Type 0} (xs : List Name) (env : Env) → Keeps {H = H} Anything (with_boxes xs env)
boxes_keep [] env = keeps_give env tt
boxes_keep (x ∷ xs) env = keeps_then (box_keeps x env (box_of x env)) (λ e u. boxes_keep xs e)

-- ---- loops

-- what is built is so, and the value that is returned, if one is
abbrev pub FlowHeld : {K : Type 0} → (K → Type 0) → Flow K → Type 0
FlowHeld P (on k) = P k
FlowHeld P (out breaks k) = P k
FlowHeld P (out continues k) = P k
FlowHeld P (out (returns v) k) = HeldValue v × P k

next_keeps : {H K : Type 0} (P : K → Type 0) (more : Part H K) (f : Flow K) → FlowHeld P f → ((k : K) → P k → Keeps (FlowHeld P) (more k)) → Keeps (FlowHeld P) (next_turn more f)
next_keeps P more (on k) h m = m k h
next_keeps P more (out breaks k) h m = keeps_give (on k) h
next_keeps P more (out continues k) h m = m k h
next_keeps P more (out (returns v) k) h m = keeps_give (out (returns v) k) h

turns_keep : {H K : Type 0} (P : K → Type 0) (p : Place) (turn : Value → Part H K) (vs : List Value) → ((v : Value) → HeldValue v → (k : K) → P k → Keeps (FlowHeld P) (turn v k)) → HeldList vs → (k : K) → P k → Keeps (FlowHeld P) (turns p turn vs k)
turns_keep P p turn [] m h k g = keeps_give (on k) g
turns_keep P p turn (v ∷ vs) m h k g = keeps_then (keeps_paid 1 p (m v h.0 k g)) (λ f e. next_keeps P (turns p turn vs) f e (turns_keep P p turn vs m h.1))

walk_keeps : {H K : Type 0} (P : K → Type 0) (v : Value) (a : Part H K) (k : K) → Keeps (FlowHeld P) (a k) → Keeps (FlowHeld P) (walk v a k)
walk_keeps P v a k h = record { by = λ s held. kept_finally (FlowHeld P) _ (end_loop (walked_in v)) (loops_held _ (walked_in v)) (h.by _ (loops_held _ (walked_in v) s.store held)) }

pub over_keeps : {H K : Type 0} (P : K → Type 0) (p : Place) (members : Computation H (List Value)) (bind : Value → Computation H (Unit {0})) (v : Value) (part : Part H K) → Keeps HeldList members → ((w : Value) → HeldValue w → Keeps Anything (bind w)) → ((k : K) → P k → Keeps (FlowHeld P) (part k)) → (k : K) → P k → Keeps (FlowHeld P) (over_members p members bind v part k)
over_keeps P p members bind v part h b m k g = keeps_then h (λ vs e. walk_keeps P v (turns p (λ w j. bind w >>= λ u. part j) vs) k (turns_keep P p (λ w j. bind w >>= λ u. part j) vs (λ w i j d. keeps_then (b w i) (λ u t. m j d)) e k g))

flow_held : {K : Type 0} (P : K → Type 0) (f : Flow K) → FlowHeld P f → P (built_so_far f)
flow_held P (on k) h = h
flow_held P (out breaks k) h = h
flow_held P (out continues k) h = h
flow_held P (out (returns v) k) h = h.1

-- ---- expressions

-- what a comprehension gathers: members, or pairs
abbrev Gathered : (pairs : Bool) → Type 0
Gathered false = List Value
Gathered true = List (Value × Value)

abbrev HeldGathered : (pairs : Bool) → Gathered pairs → Type 0
HeldGathered false vs = HeldList vs
HeldGathered true ps = HeldPairs ps

module _ {H : Type 0} (call : Call H) (calls : CallKeeps call) where
  mutual
    pub eval_keeps : (e : Expr) (env : Env) → HeldExpr e → Keeps HeldValue (eval call e env)
    eval_keeps (code.int p z) env h = keeps_paid 1 p (keeps_give (int_value z) h)
    eval_keeps (code.text p t) env h = keeps_paid 1 p (keeps_give (text_value t) h)
    eval_keeps (code.name p x) env h = keeps_paid 1 p (read_keeps p x (box_of x env))
    eval_keeps (code.list p es) env h = keeps_paid 1 p (keeps_then (all_keep es env h) new_list_keeps)
    eval_keeps (code.tuple p es) env h = keeps_paid 1 p (keeps_then (all_keep es env h) (λ vs k. keeps_give (tuple_value (values_from vs)) (from_values vs k)))
    eval_keeps (code.dict p es) env h = keeps_paid 1 p (keeps_then (entries_keep p es env [] h tt) new_dict_keeps)
    eval_keeps (code.unary p o a) env h = keeps_paid 1 p (keeps_then (eval_keeps a env h) (unary_held p o))
    eval_keeps (code.binary p o a b) env h = keeps_paid 1 p (keeps_then (eval_keeps a env h.0) (λ x k. keeps_then (eval_keeps b env h.1) (λ y g. operator_held p o x y k g)))
    eval_keeps (code.conjunction p a b) env h = keeps_paid 1 p (keeps_then (eval_keeps a env h.0) (λ x k. keeps_then (truth_keeps x) (λ holds u. keeps_if holds (λ e. eval_keeps b env h.1) (λ e. keeps_give x k))))
    eval_keeps (code.disjunction p a b) env h = keeps_paid 1 p (keeps_then (eval_keeps a env h.0) (λ x k. keeps_then (truth_keeps x) (λ holds u. keeps_if holds (λ e. keeps_give x k) (λ e. eval_keeps b env h.1))))
    eval_keeps (code.conditional p c a b) env h = keeps_paid 1 p (keeps_then (eval_keeps c env h.0) (λ x k. keeps_then (truth_keeps x) (λ holds u. keeps_if holds (λ e. eval_keeps a env h.1) (λ e. eval_keeps b env h.2))))
    eval_keeps (code.call p f es) env h = keeps_paid 1 p (keeps_then (eval_keeps f env h.0) (λ g k. keeps_then (arguments_keep es env h.1) (λ vs i. calls.by p g vs k i)))
    eval_keeps (code.named p x e) env h = keeps_ill_formed
    eval_keeps (code.starred p e) env h = keeps_ill_formed
    eval_keeps (code.double_starred p e) env h = keeps_ill_formed
    eval_keeps (code.index p a i) env h =
        keeps_paid 1 p (keeps_then (eval_keeps a env h.0) (λ x k. keeps_then (eval_keeps i env h.1) (λ y g. index_keeps p x y k g)))
    eval_keeps (code.slice p a l g d) env h =
        keeps_paid 1 p (keeps_then (eval_keeps a env h.0) (λ x k. keeps_then (optional_keeps l env h.1) (λ y u.
        keeps_then (optional_keeps g env h.2) (λ z v. keeps_then (optional_keeps d env h.3) (λ w t.
        slice_keeps p x (record { from = unwrap_or y none_value; to = unwrap_or z none_value; step = unwrap_or w none_value }) k)))))
    eval_keeps (code.attribute p a x) env h = keeps_paid 1 p (keeps_then (eval_keeps a env h) (λ v k. attribute_keeps p v x k))
    eval_keeps (code.lambda p n ps e) env h = keeps_paid 1 p (keeps_then (defaults_keep ps env h.0) (λ ds k. keeps_then (keeps_new_object (of_function _) (low_utf8 (codes "lambda") refl, k)) (λ r u. keeps_give (function_value r) tt)))
    eval_keeps (code.list_comprehension p e cs) env h =
        keeps_paid 1 p (keeps_then (comprehend_keeps false p _ cs env h.1 (λ scope vs k. keeps_then (eval_keeps e scope h.0) (λ v g. keeps_give (on (vs ++ v ∷ [])) (more_held vs (v ∷ []) k (g, tt)))) [] tt)
        (λ f k. new_list_keeps (built_so_far f) (flow_held HeldList f k)))
    eval_keeps (code.dict_comprehension p a b cs) env h =
        keeps_paid 1 p (keeps_then (comprehend_keeps true p _ cs env h.2 (λ scope ps k. keeps_then (eval_keeps a scope h.0) (λ x g. keeps_then (eval_keeps b scope h.1) (λ y i. keeps_then (turn_keeps p ps x y k g i) (λ all j. keeps_give (on all) j)))) [] tt)
        (λ f k. new_dict_keeps (built_so_far f) (flow_held HeldPairs f k)))
    eval_keeps (code.text_template p ps) env h = keeps_paid 1 p (keeps_then (pieces_keep p ps env h) (λ t k. keeps_give (text_value t) k))

    all_keep : (es : Exprs) (env : Env) → HeldExprs es → Keeps HeldList (eval_all call es env)
    all_keep no_exprs env h = keeps_give [] tt
    all_keep (an_expr e es) env h = keeps_then (eval_keeps e env h.0) (λ v k. keeps_then (all_keep es env h.1) (λ vs g. keeps_give (v ∷ vs) (k, g)))

    pub arguments_keep : (es : Exprs) (env : Env) → HeldExprs es → Keeps HeldArguments (eval_arguments call es env)
    arguments_keep no_exprs env h = keeps_give (arguments no_values no_fields) (tt, tt)
    arguments_keep (an_expr (code.named p x e) es) env h = keeps_then (eval_keeps e env h.0.1) (λ v k. keeps_then (arguments_keep es env h.1) (λ rest g. keeps_give _ (with_fields_held (a_field x v no_fields) rest (h.0.0, k, tt) g)))
    arguments_keep (an_expr (code.starred p e) es) env h = keeps_then (eval_keeps e env h.0) (λ v k. keeps_then (members_taken_keep p v k) (λ vs i. keeps_then (arguments_keep es env h.1) (λ rest g. keeps_give _ (with_values_held vs rest i g))))
    arguments_keep (an_expr (code.double_starred p e) es) env h = keeps_then (eval_keeps e env h.0) (λ v k. keeps_then (spread_keeps p v) (λ fs i. keeps_then (arguments_keep es env h.1) (λ rest g. keeps_give _ (with_fields_held fs rest i g))))
    arguments_keep (an_expr e es) env h = keeps_then (eval_keeps e env h.0) (λ v k. keeps_then (arguments_keep es env h.1) (λ rest g. keeps_give _ (with_values_held (v ∷ []) rest (k, tt) g)))

    optional_keeps : (o : OptionalExpr) (env : Env) → HeldOptional o → Keeps HeldIfAny (eval_optional call o env)
    optional_keeps absent env h = keeps_give None tt
    optional_keeps (present e) env h = keeps_then (eval_keeps e env h) (λ v k. keeps_give (Some v) k)

    entries_keep : (p : Place) (es : Entries) (env : Env) (ps : List (Value × Value)) → HeldEntries es → HeldPairs ps → Keeps HeldPairs (eval_entries call p es env ps)
    entries_keep p no_entries env ps h g = keeps_give ps g
    entries_keep p (an_entry a b es) env ps h g = keeps_then (eval_keeps a env h.0) (λ x k. keeps_then (eval_keeps b env h.1) (λ y i. keeps_then (display_keeps p ps x y g k i) (λ all j. entries_keep p es env all h.2 j)))

    pieces_keep : (p : Place) (ps : Pieces) (env : Env) → HeldPieces ps → Keeps IsUtf8 (eval_pieces call p ps env)
    pieces_keep p no_pieces env h = keeps_give [] IsUtf8-nil
    pieces_keep p (text_piece t ps) env h = keeps_then (pieces_keep p ps env h.1) (λ more k. keeps_give (t ++ more) (IsUtf8-append t more h.0 k))
    pieces_keep p (expr_piece e ps) env h = keeps_then (eval_keeps e env h.0) (λ v k. keeps_then (str_keeps p v k) (λ t g. keeps_then (pieces_keep p ps env h.1) (λ more i. keeps_give (t ++ more) (IsUtf8-append t more g i))))

    comprehend_keeps : (b : Bool) (p : Place) (element : Env → Part H (Gathered b)) (cs : Clauses) (env : Env) → HeldClauses cs → ((scope : Env) (k : Gathered b) → HeldGathered b k → Keeps (FlowHeld (HeldGathered b)) (element scope k)) → (k : Gathered b) → HeldGathered b k → Keeps (FlowHeld (HeldGathered b)) (comprehend call p element cs env k)
    comprehend_keeps b p element no_clauses env h m k g = keeps_ill_formed
    comprehend_keeps b p element (if_clause e cs) env h m k g = keeps_ill_formed
    comprehend_keeps b p element (for_clause x e cs) env h m k g =
        keeps_then (eval_keeps e env h.1) (λ v i. keeps_then (boxes_keep (target_names x ++ clauses_names cs) []) (λ own u.
        over_keeps (HeldGathered b) p (members_of p v) (λ w. assign_to call p x w (own ++ env)) v (clauses_in_turn call p element cs (own ++ env)) (members_keep p v i) (λ w j. assign_keeps p x w (own ++ env) h.0 j) (clauses_keep b p element cs (own ++ env) h.2 m) k g))

    clauses_keep : (b : Bool) (p : Place) (element : Env → Part H (Gathered b)) (cs : Clauses) (env : Env) → HeldClauses cs → ((scope : Env) (k : Gathered b) → HeldGathered b k → Keeps (FlowHeld (HeldGathered b)) (element scope k)) → (k : Gathered b) → HeldGathered b k → Keeps (FlowHeld (HeldGathered b)) (clauses_in_turn call p element cs env k)
    clauses_keep b p element no_clauses env h m k g = m env k g
    clauses_keep b p element (for_clause x e cs) env h m k g =
        keeps_then (eval_keeps e env h.1) (λ v i. over_keeps (HeldGathered b) p (members_of p v) (λ w. assign_to call p x w env) v (clauses_in_turn call p element cs env) (members_keep p v i) (λ w j. assign_keeps p x w env h.0 j) (clauses_keep b p element cs env h.2 m) k g)
    clauses_keep b p element (if_clause e cs) env h m k g = keeps_then (eval_keeps e env h.0) (λ v i. keeps_then (truth_keeps v) (λ holds u. keeps_if holds (λ d. clauses_keep b p element cs env h.1 m k g) (λ d. keeps_give (on k) g)))

    pub defaults_keep : (ps : Parameters) (env : Env) → HeldParameters ps → Keeps HeldList (default_values call ps env)
    defaults_keep no_parameters env h = keeps_give [] tt
    defaults_keep (required x ps) env h = defaults_keep ps env h
    defaults_keep (defaulted x e ps) env h = keeps_then (eval_keeps e env h.0) (λ v k. keeps_then (defaults_keep ps env h.1) (λ vs g. keeps_give (v ∷ vs) (k, g)))
    defaults_keep (bare_star ps) env h = defaults_keep ps env h
    defaults_keep (starred_parameter x ps) env h = defaults_keep ps env h
    defaults_keep (double_starred_parameter x ps) env h = defaults_keep ps env h

    pub assign_keeps : (p : Place) (x : Expr) (v : Value) (env : Env) → HeldExpr x → HeldValue v → Keeps Anything (assign_to call p x v env)
    assign_keeps p (code.name q x) v env h k = write_keeps q x v (box_of x env) k
    assign_keeps p (code.list q es) v env h k = keeps_then (members_keep p v k) (λ vs i. keeps_then (keeps_need kind.ValueKind p _) (λ u t. each_keeps p es vs env h i))
    assign_keeps p (code.tuple q es) v env h k = keeps_then (members_keep p v k) (λ vs i. keeps_then (keeps_need kind.ValueKind p _) (λ u t. each_keeps p es vs env h i))
    assign_keeps p (code.index q a i) v env h k = keeps_then (eval_keeps a env h.0) (λ x g. keeps_then (eval_keeps i env h.1) (λ y j. set_index_keeps q x y v j k))
    assign_keeps p _ v env h k = keeps_ill_formed

    each_keeps : (p : Place) (es : Exprs) (vs : List Value) (env : Env) → HeldExprs es → HeldList vs → Keeps Anything (assign_each call p es vs env)
    each_keeps p no_exprs vs env h k = keeps_give tt tt
    each_keeps p (an_expr e es) [] env h k = keeps_give tt tt
    each_keeps p (an_expr e es) (v ∷ vs) env h k = keeps_then (assign_keeps p e v env h.0 k.0) (λ u t. each_keeps p es vs env h.1 k.1)

  pub augment_keeps : (p : Place) (o : BinaryOperator) (q : Place) (x e : Expr) (env : Env) → HeldExpr x → HeldExpr e → Keeps Anything (augment_to call p o q x e env)
  augment_keeps p o q (code.name r x) e env h k = keeps_then (read_keeps r x (box_of x env)) (λ old g. keeps_then (eval_keeps e env k) (λ v i. keeps_then (assignment_held q o old v g i) (λ w j. write_keeps r x w (box_of x env) j)))
  augment_keeps p o q (code.index r a i) e env h k =
      keeps_then (eval_keeps a env h.0) (λ x g. keeps_then (eval_keeps i env h.1) (λ y j. keeps_then (index_keeps r x y g j) (λ old u.
      keeps_then (eval_keeps e env k) (λ v t. keeps_then (assignment_held q o old v u t) (λ w d. set_index_keeps r x y w j d)))))
  augment_keeps p o q _ e env h k = keeps_ill_formed
