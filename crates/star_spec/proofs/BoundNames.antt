-- The names that arguments are bound to, and how many values and boxes there are for them.
use Rattle.std.proofs.Common.{◌≡◌, ℕ, suc, Bool, true, false, List, [], ◌∷◌, length, Option, Some, None, if◌then◌else◌, refl, sym, ap, ◌∙◌, arith, map as each}
use Rattle.std.proofs.lemmas.List.{length-map}
use Rattle.ytt_base.specs.declared.fault.FaultKind.TheVariants as kind
use Rattle.ytt_base.specs.declared.fault.Place.{Place}
use Rattle.code_spec.specs.Allowed.{parameter_names}
use Rattle.code_spec.specs.Code.{Name, Parameters, no_parameters, required, defaulted, bare_star, starred_parameter, double_starred_parameter}
use Rattle.value_spec.specs.Outcomes.{State, Ending, done, bad, asks, then_do, give, on_store, or_fail}
use Rattle.value_spec.specs.Store.{with_object}
use Rattle.value_spec.specs.Values.{Value, tuple_value, Values, no_values, a_value, Fields, no_fields, a_field, Arguments, arguments, Env, of_box}
use Rattle.value_spec.specs.Binding.{Given, given, rest_given, all_bound, bound, bound_values, field_of, in_front, rest_in_front, has_twice, or_default, unless_named, value_given, values_given, without_field}
use Rattle.star_spec.specs.Binding.{boxes_for}

abbrev pub given_names : List (Name × Given) → List Name
given_names bs = each (λ (b : Name × Given). b.0) bs

front_name : (x : Name) (o : Option Value) (r : Option (List (Name × Given))) (bs : List (Name × Given)) (names : List Name) → in_front x o r ≡ Some bs →
    ((more : List (Name × Given)) → r ≡ Some more → given_names more ≡ names) → given_names bs ≡ x ∷ names
front_name x None r bs names h k = cc
front_name x (Some v) None bs names h k = cc
front_name x (Some v) (Some more) bs names h k = let same : ((x, given v) ∷ more) ≡ bs = cc in ap given_names (sym same) ∙ ap (λ l. x ∷ l) (k more refl)

rest_name : (x : Name) (fs : Fields) (r : Option (List (Name × Given))) (bs : List (Name × Given)) (names : List Name) → rest_in_front x fs r ≡ Some bs →
    ((more : List (Name × Given)) → r ≡ Some more → given_names more ≡ names) → given_names bs ≡ x ∷ names
rest_name x fs None bs names h k = cc
rest_name x fs (Some more) bs names h k = let same : ((x, rest_given fs) ∷ more) ≡ bs = cc in ap given_names (sym same) ∙ ap (λ l. x ∷ l) (k more refl)

names_bound : (ps : Parameters) (ds : List Value) (vs : Values) (fs : Fields) (bs : List (Name × Given)) → bound ps ds vs fs ≡ Some bs → given_names bs ≡ parameter_names ps
names_bound no_parameters ds no_values no_fields bs h = let same : [] ≡ bs = cc in ap given_names (sym same)
names_bound no_parameters ds no_values (a_field x v fs) bs h = cc
names_bound no_parameters ds (a_value v vs) no_fields bs h = cc
names_bound no_parameters ds (a_value v vs) (a_field x w fs) bs h = cc
names_bound (required x ps) ds (a_value v vs) fs bs h = front_name x (unless_named x v fs) (bound ps ds vs fs) bs (parameter_names ps) h (names_bound ps ds vs fs)
names_bound (required x ps) ds no_values fs bs h =
    front_name x (field_of x fs) (bound ps ds no_values (without_field x fs)) bs (parameter_names ps) h (names_bound ps ds no_values (without_field x fs))
names_bound (defaulted x e ps) [] vs fs bs h = cc
names_bound (defaulted x e ps) (d ∷ ds) (a_value v vs) fs bs h = front_name x (unless_named x v fs) (bound ps ds vs fs) bs (parameter_names ps) h (names_bound ps ds vs fs)
names_bound (defaulted x e ps) (d ∷ ds) no_values fs bs h =
    front_name x (or_default (field_of x fs) (Some d)) (bound ps ds no_values (without_field x fs)) bs (parameter_names ps) h (names_bound ps ds no_values (without_field x fs))
names_bound (bare_star ps) ds (a_value v vs) fs bs h = cc
names_bound (bare_star ps) ds no_values fs bs h = names_bound ps ds no_values fs bs h
names_bound (starred_parameter x ps) ds vs fs bs h = front_name x (Some (tuple_value vs)) (bound ps ds no_values fs) bs (parameter_names ps) h (names_bound ps ds no_values fs)
names_bound (double_starred_parameter x ps) ds (a_value v vs) fs bs h = cc
names_bound (double_starred_parameter x ps) ds no_values fs bs h = rest_name x fs (bound ps ds no_values no_fields) bs (parameter_names ps) h (names_bound ps ds no_values no_fields)

once_bound : (b : Bool) (ps : Parameters) (ds : List Value) (vs : Values) (fs : Fields) (bs : List (Name × Given)) → (if b then None else bound ps ds vs fs) ≡ Some bs → given_names bs ≡ parameter_names ps
once_bound true ps ds vs fs bs h = cc
once_bound false ps ds vs fs bs h = names_bound ps ds vs fs bs h

pub all_names_bound : (ps : Parameters) (ds : List Value) (vs : Arguments) (bs : List (Name × Given)) → all_bound ps ds vs ≡ Some bs → given_names bs ≡ parameter_names ps
all_names_bound ps ds (arguments vs fs) bs h = once_bound (has_twice fs) ps ds vs fs bs h

-- each parameter gets something
pub given_count : (ps : Parameters) (ds : List Value) (vs : Arguments) (bs : List (Name × Given)) → all_bound ps ds vs ≡ Some bs → length bs ≡ length (parameter_names ps)
given_count ps ds vs bs h = sym (length-map bs (λ (b : Name × Given). b.0)) ∙ ap length (all_names_bound ps ds vs bs h)

module _ {H : Type 0} where
  pub same_end : {A : Type 0} (a b : A) (s t : State H) → done a s ≡ done b t → a ≡ b
  same_end a b s t e = cc

  -- ---- values

  one_more : (v : Value) (n : ℕ) (values : List Value) (r : State H) (rest : Ending H (List Value)) → then_do rest (λ vs. give (v ∷ vs)) ≡ done values r →
      ((vs : List Value) (u : State H) → rest ≡ done vs u → length vs ≡ n) → length values ≡ suc n
  one_more v n values r (done vs u) e more = ap length (sym (same_end (v ∷ vs) values u r e)) ∙ ap suc (more vs u refl)
  one_more v n values r (bad f u) e more = cc
  one_more v n values r (asks q u k) e more = cc

  one_given : (g : Given) (n : ℕ) (values : List Value) (s r : State H) (rest : State H → Ending H (List Value)) → then_do (value_given g s) (λ v. λ u. then_do (rest u) (λ vs. give (v ∷ vs))) ≡ done values r →
      ((before : State H) (vs : List Value) (u : State H) → rest before ≡ done vs u → length vs ≡ n) → length values ≡ suc n
  one_given (given v) n values s r rest e more = one_more v n values r (rest s) e (more s)
  one_given (rest_given fs) n values s r rest e more = one_more _ n values r (rest _) e (more _)

  -- what each gets is one value
  pub values_count : (bs : List (Name × Given)) (values : List Value) (s r : State H) → values_given bs s ≡ done values r → length values ≡ length bs
  values_count [] values s r e = ap length (sym (same_end [] values s r e))
  values_count (b ∷ bs) values s r e = one_given b.1 (length bs) values s r (values_given bs) e (λ before vs u. values_count bs vs before u)

  counted_values : (p : Place) (o : Option (List (Name × Given))) (n : ℕ) (values : List Value) (s r : State H) → then_do (or_fail kind.ArgBind p o s) values_given ≡ done values r →
      ((bs : List (Name × Given)) → o ≡ Some bs → length bs ≡ n) → length values ≡ n
  counted_values p None n values s r e count = cc
  counted_values p (Some bs) n values s r e count = values_count bs values s r e ∙ count bs refl

  -- a call binds one value to each parameter
  pub bound_count : (p : Place) (ps : Parameters) (ds : List Value) (vs : Arguments) (values : List Value) (s r : State H) → bound_values p ps ds vs s ≡ done values r →
      length values ≡ length (parameter_names ps)
  bound_count p ps ds vs values s r e = counted_values p (all_bound ps ds vs) (length (parameter_names ps)) values s r e (given_count ps ds vs)

  -- ---- boxes

  behind_box : (x : Name) (r : ℕ) (names : List Name) (own : Env) (t : State H) (rest : Ending H Env) → then_do rest (λ env. give ((x, r) ∷ env)) ≡ done own t →
      ((env : Env) (u : State H) → rest ≡ done env u → each (λ (b : Name × ℕ). b.0) env ≡ names) → each (λ (b : Name × ℕ). b.0) own ≡ x ∷ names
  behind_box x r names own t (done env u) e more = ap (each (λ (b : Name × ℕ). b.0)) (sym (same_end ((x, r) ∷ env) own u t e)) ∙ ap (λ l. x ∷ l) (more env u refl)
  behind_box x r names own t (bad f u) e more = cc
  behind_box x r names own t (asks q u k) e more = cc

  -- where there is a value for each name, these are the names that get boxes, in their order
  pub names_boxed : (xs : List Name) (vs : List Value) (own : Env) (s t : State H) → length vs ≡ length xs → boxes_for xs vs s ≡ done own t → each (λ (b : Name × ℕ). b.0) own ≡ xs
  names_boxed [] vs own s t n e = ap (each (λ (b : Name × ℕ). b.0)) (sym (same_end [] own s t e))
  names_boxed (x ∷ xs) [] own s t n e = cc
  names_boxed (x ∷ xs) (v ∷ vs) own s t n e =
      behind_box x (length s.store) xs own t (boxes_for xs vs (on_store (with_object (of_box (Some v))) s)) e
      (λ env u. names_boxed xs vs env (on_store (with_object (of_box (Some v))) s) u (omega arith))
