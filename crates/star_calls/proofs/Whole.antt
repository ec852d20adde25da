-- How the values of all parameters end.
use Rattle.std.proofs.Common.{◌≡◌, ℕ, true, false, if◌then◌else◌, List, [], ◌∷◌, Result, Err, None, refl, sym, ap, subst, ◌∙◌}
use Rattle.ytt_base.specs.Outcomes.{fault_at}
use Rattle.ytt_base.specs.declared.fault.FaultKind.TheVariants as kind
use Rattle.ytt_base.specs.declared.fault.Place.{Place}
use Rattle.ytt_base.specs.declared.fault.Stop.{Stop}
use Rattle.ytt_base.specs.declared.fault.Stop.TheVariants as stop
use Rattle.code_spec.specs.Code.{Parameters}
use Rattle.value_spec.specs.Values as plain
use Rattle.value_spec.specs.Values.{Fields, no_fields, arguments, values_from}
use Rattle.value_spec.specs.Outcomes.{Ending, State, asks, bad, done, give, or_fail, then_do, ◌>>=◌}
use Rattle.value_spec.proofs.Computations.{then_ext}
use Rattle.value_spec.specs.Binding.{bound, bound_values, has_twice, values_given}
use Rattle.star_steps.specs.Meets.{state_in}
use Rattle.star_values.specs.Owns.{Grows}
use Rattle.star_values.specs.View.{View, fields_in}
use Rattle.star_values.specs.declared.value.NamedValue.{NamedValue}
use Rattle.star_values.specs.declared.value.Value.{Value}
use Rattle.star_values.proofs.Growing.{grows_same}
use Rattle.star_calls.specs.Left.{Fills, GivesAll, completed}

abbrev Ends : Type 0
Ends = Ending (Unit {0}) (List plain.Value)

pub gives_same : (o p : Ends) (r : Result (List Value) Stop) (a b : View) (n : ℕ) → p ≡ o → GivesAll o r a b n → GivesAll p r a b n
gives_same o p r a b n e g = subst (λ o. GivesAll o r a b n) (sym e) g

pub gives_refused : (p : Place) (e : Stop) (a : View) (n : ℕ) (o : Ends) → e ≡ stop.Fault (fault_at kind.ArgBind p) → o ≡ bad (fault_at kind.ArgBind p) (state_in a n) → GivesAll o (Err e) a a n
gives_refused p e a n o is h = subst (λ e. GivesAll o (Err e) a a n) (sym is) (record { meaning = h; owns = tt; grows = grows_same a })

stopped : (e : Stop) (a b : View) (n : ℕ) (o whole after : Ends) → o ≡ whole → Fills (Err e) whole after (state_in b n) → Grows a b → GivesAll o (Err e) a b n
stopped (stop.Fault f) a b n o whole after h w g = record { meaning = h ∙ w; owns = tt; grows = g }
stopped stop.Memory a b n o whole after h w g = record { meaning = tt; owns = tt; grows = g }

-- a parameter is refused
pub gives_stopped : (r : Result (List Value) Stop) (e : Stop) (a b : View) (n : ℕ) (o whole after : Ends) → r ≡ Err e → o ≡ whole → Fills (Err e) whole after (state_in b n) → Grows a b → GivesAll o r a b n
gives_stopped r e a b n o whole after is h w g = subst (λ r. GivesAll o r a b n) (sym is) (stopped e a b n o whole after h w g)

-- ---- nothing is left

pub none_named : (held : List plain.Value) (fs : List NamedValue) → fields_in held fs ≡ no_fields → fs ≡ []
none_named held [] e = refl
none_named held (f ∷ fs) e = cc

-- ---- from the first parameter on

pub twice_refused : (p : Place) (ps : Parameters) (ds : List plain.Value) (vs : plain.Values) (fs : Fields) (s : State (Unit {0})) → has_twice fs ≡ true → bound_values p ps ds (arguments vs fs) s ≡ bad (fault_at kind.ArgBind p) s
twice_refused p ps ds vs fs s e = ap (λ b. then_do (or_fail kind.ArgBind p (if b then None else bound ps ds vs fs) s) values_given) e

then_given : (r : Ends) → r ≡ then_do r give
then_given (done vs s) = refl
then_given (bad f s) = refl
then_given (asks q s k) = λ i. asks q s (λ got t. then_given (k got t) i)

pub once_bound : (p : Place) (ps : Parameters) (ds vs : List plain.Value) (fs : Fields) (s : State (Unit {0})) → has_twice fs ≡ false → bound_values p ps ds (arguments (values_from vs) fs) s ≡ completed p ps (record { positions = vs; defaults = ds; named = fs; got = [] }) s
once_bound p ps ds vs fs s e =
    let o = bound ps ds (values_from vs) fs in
    ap (λ b. then_do (or_fail kind.ArgBind p (if b then None else o) s) values_given) e
    ∙ then_ext (or_fail kind.ArgBind p o s) values_given (λ bs. values_given bs >>= give) (λ bs s. then_given (values_given bs s))
