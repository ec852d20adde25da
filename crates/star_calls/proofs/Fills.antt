-- Whether a parameter was filled, from how the computation of its kind goes.
use Rattle.std.proofs.Common.{◌≡◌, ℕ, List, ◌∷◌, Result, Ok, Err, OnOk, sym, subst}
use Rattle.ytt_base.specs.Outcomes.{fault_at}
use Rattle.ytt_base.specs.declared.fault.FaultKind.TheVariants as kind
use Rattle.ytt_base.specs.declared.fault.Place.{Place}
use Rattle.ytt_base.specs.declared.fault.Stop.{Stop}
use Rattle.ytt_base.specs.declared.fault.Stop.TheVariants as stop
use Rattle.code_spec.specs.Code.{Name}
use Rattle.value_spec.specs.Values as plain
use Rattle.value_spec.specs.Outcomes.{Ending, State, bad}
use Rattle.star_tree.specs.Whole.{Parameter, bare_part, named_part, parameter_of, parameters_from, star_part, stars_part}
use Rattle.star_tree.specs.declared.code.Expr.{the_lemmas}
use Rattle.star_tree.specs.declared.code.Param as param
use Rattle.star_steps.specs.Meets.{state_in}
use Rattle.star_values.specs.View.{View}
use Rattle.star_calls.specs.Left.{Fills, Rest, completed}
use Rattle.std.proofs.Common.{rules}

abbrev Ends : Type 0
Ends = Ending (Unit {0}) (List plain.Value)

pub fills_same : (r : Result (Unit {0}) Stop) (whole other after : Ends) (s : State (Unit {0})) → other ≡ whole → Fills r whole after s → Fills r other after s
fills_same r whole other after s e f = subst (λ w. Fills r w after s) (sym e) f

pub fills_refused : (p : Place) (e : Stop) (whole after : Ends) (s : State (Unit {0})) → e ≡ stop.Fault (fault_at kind.ArgBind p) → whole ≡ bad (fault_at kind.ArgBind p) s → Fills (Err e) whole after s
fills_refused p e whole after s is w = subst (λ e. Fills (Err e) whole after s) (sym is) w

pub same_state : (a b : View) (n : ℕ) → b.store ≡ a.store → state_in b n ≡ state_in a n
same_state a b n e = λ i. record { store = e i; steps = n; host = tt }

pub fills_form : (p : Place) (e q : Parameter) (qs : List Parameter) (l : Rest) (t s : State (Unit {0})) (r : Result (Unit {0}) Stop) (after : Ends) → e ≡ q → Fills r (completed p (parameters_from (q ∷ qs)) l t) after s → Fills r (completed p (parameters_from (e ∷ qs)) l t) after s
fills_form p e q qs l t s r after same f = subst (λ q. Fills r (completed p (parameters_from (q ∷ qs)) l t) after s) (sym same) f

pub when_ok : {A E : Type 0} (r : Result A E) (P : Type 0) → P → OnOk r P
when_ok (Ok x) P p = p
when_ok (Err e) P p = tt

-- ---- the forms of parameters

pub form-Required : (file : ℕ) (x : Name) → parameter_of file (param.Required x) ≡ named_part x
form-Required file x = search (rules, the_lemmas)

pub form-BareStar : (file : ℕ) → parameter_of file param.BareStar ≡ bare_part
form-BareStar file = search (rules, the_lemmas)

pub form-Starred : (file : ℕ) (x : Name) → parameter_of file (param.Starred x) ≡ star_part x
form-Starred file x = search (rules, the_lemmas)

pub form-DoubleStarred : (file : ℕ) (x : Name) → parameter_of file (param.DoubleStarred x) ≡ stars_part x
form-DoubleStarred file x = search (rules, the_lemmas)
