-- Methods that change a list or a dict: they are refused where it can't be changed; what is paid is followed by what changes.
use Rattle.std.proofs.Common.{◌≡◌, ℕ, List, Result, Ok, Err, IfOk, refl, sym, ap, subst, ◌∙◌}
use Rattle.ytt_base.specs.declared.fault.Place.{Place}
use Rattle.ytt_base.specs.declared.fault.Stop.{Stop}
use Rattle.builtin_spec.specs.Lists.{changing}
use Rattle.star_builtins.specs.Changes.{changed_to}
use Rattle.star_steps.specs.Meets.{Gives, Meets, as_is, state_in}
use Rattle.star_steps.proofs.Meeting.{gives_same, gives_stop, meets_stop}
use Rattle.star_text.proofs.Paying.{after_cost}
use Rattle.star_values.specs.Answers.{Answers}
use Rattle.star_values.specs.Owns.{Grows, Owns}
use Rattle.star_values.specs.View.{View, value_of}
use Rattle.star_values.specs.declared.object.ArenaStop.{ArenaStop}
use Rattle.star_values.specs.declared.object.ArenaStop.TheVariants as arena_stop
use Rattle.star_values.specs.declared.value.Value.{Value}
use Rattle.star_values.specs.declared.value.Value.TheVariants as value
use Rattle.text_spec.specs.Answers.{paid_operation}
use Rattle.value_spec.specs.Outcomes.{Computation, Ending, after_act, done, fail, give, refusal_kind, then_do}
use Rattle.value_spec.specs.Store.{Answer, Refusal, did, frozen, index_range, iterating, key_missing, may_change, refused}
use Rattle.value_spec.specs.Values as plain

-- an object that can be changed
pub changes_now : {A : Type 0} (p : Place) (r : ℕ) (m : Computation (Unit {0}) A) (a : View) (n : ℕ) → may_change r a.store ≡ did tt a.store → changing p r m (state_in a n) ≡ m (state_in a n)
changes_now p r m a n may = ap (λ x. then_do (after_act p x (state_in a n)) (λ (u : Unit {0}). m)) may

-- A row that begins with what an operation costs, and goes on from there.
module _ (p : Place) (vs : List plain.Value) (m : Computation (Unit {0}) plain.Value) (a : View) (n : ℕ) (row : Ending (Unit {0}) plain.Value) (begins : row ≡ paid_operation p vs 0 0 m (state_in a n)) where
  abbrev cost : Ending (Unit {0}) (Unit {0})
  cost = paid_operation p vs 0 0 (give (tt {0})) (state_in a n)

  goes : row ≡ then_do cost (λ (u : Unit {0}). m)
  goes = begins ∙ after_cost p vs 0 0 m (state_in a n)

  -- the cost is refused
  pub cost_refused : (e : Stop) (k : ℕ) (result : Result Value Stop) → Meets as_is (Err e) (state_in a k) cost → result ≡ Err e → Gives row result a a k
  cost_refused e k result stop is = gives_stop as_is e a k cost (λ (u : Unit {0}). m) result row goes stop is

  -- the cost is taken, and what follows is given
  pub cost_taken : (b : View) (k : ℕ) (result : Result Value Stop) → cost ≡ done tt (state_in a k) → Gives (m (state_in a k)) result a b k → Gives row result a b k
  cost_taken b k result taken g = gives_same _ row result a b k (goes ∙ ap (λ o. then_do o (λ (u : Unit {0}). m)) taken) g

-- None, or the refusal of a change
module _ (p : Place) (a b : View) (n : ℕ) (answer : Answer plain.Store (Unit {0})) where
  abbrev ending : Ending (Unit {0}) plain.Value
  ending = then_do (after_act p answer (state_in a n)) (λ (u : Unit {0}). give plain.none_value)

  owned : (act : Result (Unit {0}) ArenaStop) → IfOk (changed_to p act) (Owns b)
  owned (Ok u) = tt
  owned (Err e) = tt

  refusal : (why : Refusal) → answer ≡ refused why → b.store ≡ a.store → ending ≡ fail (refusal_kind why) p (state_in b n)
  refusal why e same = λ i. then_do (after_act p (e i) (record { store = sym same i; steps = n; host = tt })) (λ (u : Unit {0}). give plain.none_value)

  met : (act : Result (Unit {0}) ArenaStop) → Answers (λ u. u) act a.store b.store answer → Meets (value_of b) (changed_to p act) (state_in b n) ending
  met (Ok u) e = ap (λ x. then_do (after_act p x (state_in a n)) (λ (u : Unit {0}). give plain.none_value)) e
  met (Err arena_stop.Frozen) e = refusal frozen e.0 e.1
  met (Err arena_stop.Iterating) e = refusal iterating e.0 e.1
  met (Err arena_stop.IndexRange) e = refusal index_range e.0 e.1
  met (Err arena_stop.KeyMissing) e = refusal key_missing e.0 e.1
  met (Err arena_stop.Memory) e = tt

  pub change_given : (act : Result (Unit {0}) ArenaStop) (result : Result Value Stop) → result ≡ changed_to p act → Answers (λ u. u) act a.store b.store answer → Grows a b → Gives ending result a b n
  change_given act result is answers grows = subst (λ r. Gives ending r a b n) (sym is) (record { meaning = met act answers; owns = owned act; grows = grows })

-- ---- none behind a value

module _ (o : Ending (Unit {0}) plain.Value) (a b : View) (n : ℕ) where
  abbrev then_none : Ending (Unit {0}) plain.Value
  then_none = then_do o (λ v. give plain.none_value)

  -- what is given is dropped
  pub none_after : (v : Value) → Gives o (Ok v) a b n → Gives then_none (Ok value.None) a b n
  none_after v g = record { meaning = ap (λ o. then_do o (λ v. give plain.none_value)) g.meaning; owns = tt; grows = g.grows }

  -- a refusal stays one
  pub stop_after : (e : Stop) (result : Result Value Stop) → Gives o (Err e) a b n → result ≡ Err e → Gives then_none result a b n
  stop_after e result g is = subst (λ r. Gives then_none r a b n) (sym is) (record {
    meaning = meets_stop (value_of b) (value_of b) e (state_in b n) o (λ v. give plain.none_value) (Err e) g.meaning refl;
    owns = tt;
    grows = g.grows;
  })
