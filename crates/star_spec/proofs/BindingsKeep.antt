-- The values that the parameters of a call get are what the program holds, where its arguments and its defaults are.
use Rattle.std.proofs.Common.{◌≡◌, ℕ, zero, suc, Bool, true, false, if◌then◌else◌, List, [], ◌∷◌, Option, Some, None, refl, bytes_eq}
use Rattle.std.proofs.lemmas.Bool.{or_from, or_parts}
use Rattle.ytt_base.specs.declared.fault.FaultKind.TheVariants as kind
use Rattle.ytt_base.specs.declared.fault.Place.{Place}
use Rattle.builtin_spec.specs.Binding.{Own, own_in, taking}
use Rattle.code_spec.specs.Code.{Name, Parameters, no_parameters, required, defaulted, bare_star, starred_parameter, double_starred_parameter}
use Rattle.star_spec.specs.Held.{HeldValue, HeldValues, HeldFields, HeldList, has_equal_key, HeldPairs, HeldArguments}
use Rattle.text_spec.specs.Signatures.{value_at}
use Rattle.value_spec.specs.Binding.{field_of, without_field, has_field, has_twice, or_default, Given, given, rest_given, in_front, rest_in_front, unless_named, bound, all_bound, text_pairs, value_given, values_given, bound_values, none_for_each, parameters_named}
use Rattle.value_spec.specs.Outcomes.{Computation}
use Rattle.value_spec.specs.Values.{Value, text_value, tuple_value, dict_value, Values, no_values, a_value, Fields, no_fields, a_field, Arguments, arguments, of_dict}
use Rattle.star_spec.proofs.Keeping.{IfFound, found_if, found_one, Keeps, keeps_then, keeps_give, keeps_or_fail, keeps_new_object}

abbrev HeldGiven : Given → Type 0
HeldGiven (given v) = HeldValue v
HeldGiven (rest_given fs) = HeldFields fs × (has_twice fs ≡ false)

abbrev AllGiven : List (Name × Given) → Type 0
AllGiven [] = Unit {0}
AllGiven (b ∷ bs) = HeldGiven b.1 × AllGiven bs

front_held : (x : Name) (o : Option Value) (b : Option (List (Name × Given))) → IfFound HeldValue o → IfFound AllGiven b → IfFound AllGiven (in_front x o b)
front_held x None b h k = tt
front_held x (Some v) None h k = tt
front_held x (Some v) (Some bs) h k = (h, k)

rest_held : (x : Name) (fs : Fields) (b : Option (List (Name × Given))) → HeldGiven (rest_given fs) → IfFound AllGiven b → IfFound AllGiven (rest_in_front x fs b)
rest_held x fs None h k = tt
rest_held x fs (Some bs) h k = (h, k)

pub field_held : (x : Name) (fs : Fields) → HeldFields fs → IfFound HeldValue (field_of x fs)
field_held x no_fields h = tt
field_held x (a_field y v fs) h = found_if HeldValue (bytes_eq x y) (Some v) (field_of x fs) h.1 (field_held x fs h.2)

fields_if : (b : Bool) (f g : Fields) → HeldFields f → HeldFields g → HeldFields (if b then f else g)
fields_if true f g h k = h
fields_if false f g h k = k

without_held : (x : Name) (fs : Fields) → HeldFields fs → HeldFields (without_field x fs)
without_held x no_fields h = tt
without_held x (a_field y v fs) h = fields_if (bytes_eq x y) fs (a_field y v (without_field x fs)) h.2 (h.0, h.1, without_held x fs h.2)

unless_held : (x : Name) (v : Value) (fs : Fields) → HeldValue v → IfFound HeldValue (unless_named x v fs)
unless_held x v fs h = found_if HeldValue (has_field x fs) None (Some v) tt h

default_held : (o d : Option Value) → IfFound HeldValue o → IfFound HeldValue d → IfFound HeldValue (or_default o d)
default_held None d h k = k
default_held (Some v) d h k = h

still_without : (y x : Name) (fs : Fields) → has_field y fs ≡ false → has_field y (without_field x fs) ≡ false
still_without y x no_fields e = e
still_without y x (a_field z v fs) e = by_test (bytes_eq x z) (still_without y x fs (or_parts (bytes_eq y z) (has_field y fs) e).1)
  where
    by_test : (b : Bool) → has_field y (without_field x fs) ≡ false → has_field y (if b then fs else a_field z v (without_field x fs)) ≡ false
    by_test true g = (or_parts (bytes_eq y z) (has_field y fs) e).1
    by_test false g = or_from (bytes_eq y z) (has_field y (without_field x fs)) (or_parts (bytes_eq y z) (has_field y fs) e).0 g

still_once : (x : Name) (fs : Fields) → has_twice fs ≡ false → has_twice (without_field x fs) ≡ false
still_once x no_fields e = e
still_once x (a_field z v fs) e = by_test (bytes_eq x z) (still_once x fs (or_parts (has_field z fs) (has_twice fs) e).1)
  where
    by_test : (b : Bool) → has_twice (without_field x fs) ≡ false → has_twice (if b then fs else a_field z v (without_field x fs)) ≡ false
    by_test true g = (or_parts (has_field z fs) (has_twice fs) e).1
    by_test false g = or_from (has_field z (without_field x fs)) (has_twice (without_field x fs)) (still_without z x fs (or_parts (has_field z fs) (has_twice fs) e).0) g

bound_held : (ps : Parameters) (ds : List Value) (vs : Values) (fs : Fields) → HeldList ds → HeldValues vs → HeldFields fs → has_twice fs ≡ false → IfFound AllGiven (bound ps ds vs fs)
bound_held no_parameters ds no_values no_fields d h k e = tt
bound_held no_parameters ds no_values (a_field y v fs) d h k e = tt
bound_held no_parameters ds (a_value v vs) fs d h k e = tt
bound_held (required x ps) ds (a_value v vs) fs d h k e = front_held x (unless_named x v fs) (bound ps ds vs fs) (unless_held x v fs h.0) (bound_held ps ds vs fs d h.1 k e)
bound_held (required x ps) ds no_values fs d h k e = front_held x (field_of x fs) _ (field_held x fs k) (bound_held ps ds no_values (without_field x fs) d h (without_held x fs k) (still_once x fs e))
bound_held (defaulted x f ps) [] vs fs d h k e = tt
bound_held (defaulted x f ps) (w ∷ ds) (a_value v vs) fs d h k e = front_held x (unless_named x v fs) (bound ps ds vs fs) (unless_held x v fs h.0) (bound_held ps ds vs fs d.1 h.1 k e)
bound_held (defaulted x f ps) (w ∷ ds) no_values fs d h k e =
    front_held x (or_default (field_of x fs) (Some w)) _ (default_held (field_of x fs) (Some w) (field_held x fs k) d.0) (bound_held ps ds no_values (without_field x fs) d.1 h (without_held x fs k) (still_once x fs e))
bound_held (bare_star ps) ds (a_value v vs) fs d h k e = tt
bound_held (bare_star ps) ds no_values fs d h k e = bound_held ps ds no_values fs d h k e
bound_held (starred_parameter x ps) ds vs fs d h k e = front_held x (Some (tuple_value vs)) (bound ps ds no_values fs) h (bound_held ps ds no_values fs d tt k e)
bound_held (double_starred_parameter x ps) ds (a_value v vs) fs d h k e = tt
bound_held (double_starred_parameter x ps) ds no_values fs d h k e = rest_held x fs (bound ps ds no_values no_fields) (k, e) (bound_held ps ds no_values no_fields d tt tt refl)

bound_if : (b : Bool) (o : Option (List (Name × Given))) → (b ≡ false → IfFound AllGiven o) → IfFound AllGiven (if b then None else o)
bound_if true o h = tt
bound_if false o h = h refl

arguments_bound : (ps : Parameters) (ds : List Value) (vs : Arguments) → HeldList ds → HeldArguments vs → IfFound AllGiven (all_bound ps ds vs)
arguments_bound ps ds (arguments vs fs) d h = bound_if (has_twice fs) (bound ps ds vs fs) (λ e. bound_held ps ds vs fs d h.0 h.1 e)

texts_avoid : (x : Name) (fs : Fields) → has_field x fs ≡ false → has_equal_key (text_value x) (text_pairs fs) ≡ false
texts_avoid x no_fields e = refl
texts_avoid x (a_field y v fs) e = or_from (bytes_eq x y) (has_equal_key (text_value x) (text_pairs fs)) (or_parts (bytes_eq x y) (has_field x fs) e).0 (texts_avoid x fs (or_parts (bytes_eq x y) (has_field x fs) e).1)

texts_held : (fs : Fields) → HeldFields fs → has_twice fs ≡ false → HeldPairs (text_pairs fs)
texts_held no_fields h e = tt
texts_held (a_field x v fs) h e = (h.0, h.1, texts_avoid x fs (or_parts (has_field x fs) (has_twice fs) e).0, texts_held fs h.2 (or_parts (has_field x fs) (has_twice fs) e).1)

given_keeps : {H : Type 0} (g : Given) → HeldGiven g → Keeps {H = H} HeldValue (value_given g)
given_keeps (given v) h = keeps_give v h
given_keeps (rest_given fs) h = keeps_then (keeps_new_object (of_dict (text_pairs fs)) (texts_held fs h.0 h.1)) (λ r u. keeps_give (dict_value r) tt)

values_keep : {H : Type 0} (bs : List (Name × Given)) → AllGiven bs → Keeps {H = H} HeldList (values_given bs)
values_keep [] h = keeps_give [] tt
values_keep (b ∷ bs) h = keeps_then (given_keeps b.1 h.0) (λ v k. keeps_then (values_keep bs h.1) (λ vs j. keeps_give (v ∷ vs) (k, j)))

pub bound_keeps : {H : Type 0} (p : Place) (ps : Parameters) (ds : List Value) (vs : Arguments) → HeldList ds → HeldArguments vs → Keeps {H = H} HeldList (bound_values p ps ds vs)
bound_keeps p ps ds vs d h = keeps_then (keeps_or_fail kind.ArgBind p (all_bound ps ds vs) (λ bs e. found_one AllGiven (all_bound ps ds vs) bs (arguments_bound ps ds vs d h) e)) (λ bs k. values_keep bs k)

-- ---- the language's own functions and methods

pub nth_held : (n : ℕ) (vs : List Value) → HeldList vs → HeldValue (value_at n vs)
nth_held n [] h = tt
nth_held zero (v ∷ vs) h = h.0
nth_held (suc n) (v ∷ vs) h = nth_held n vs h.1

pub nones_held : (xs : List Name) → HeldList (none_for_each xs)
nones_held [] = tt
nones_held (x ∷ xs) = (tt, nones_held xs)

-- one that keeps what the program holds
pub record OwnKeeps {H : Type 0} (f : Own H) : Type 0 where
  pub by : (p : Place) (vs : Arguments) → HeldArguments vs → Keeps HeldValue (f p vs)

-- a table of such
pub record AllKeep {H : Type 0} (fs : List (Name × Own H)) : Type 0 where
  pub found : (x : Name) → IfFound OwnKeeps (own_in x fs)

pub none_keep : {H : Type 0} → AllKeep {H = H} []
none_keep = record { found = λ x. tt }

-- one in front of a table
infixr 4 ◌also◌
pub ◌also◌ : {H : Type 0} {x : Name} {f : Own H} {fs : List (Name × Own H)} → OwnKeeps f → AllKeep fs → AllKeep ((x, f) ∷ fs)
◌also◌ {x = x} {f = f} {fs = fs} h k = record { found = λ y. found_if OwnKeeps (bytes_eq y x) (Some f) (own_in y fs) h (k.found y) }

pub taking_keeps : {H : Type 0} (xs ys : List Name) {f : Place → List Value → Computation H Value} → ((p : Place) (vs : List Value) → HeldList vs → Keeps HeldValue (f p vs)) → OwnKeeps (taking xs ys f)
taking_keeps xs ys h = record { by = λ p args k. keeps_then (bound_keeps p (parameters_named xs ys) (none_for_each ys) args (nones_held ys) k) (h p) }

-- one that looks at its arguments too
pub seeing_keeps : {H : Type 0} {f : Arguments → Own H} → ((vs : Arguments) → OwnKeeps (f vs)) → OwnKeeps (λ p vs. f vs p vs)
seeing_keeps h = record { by = λ p vs. (h vs).by p vs }
