-- Rules, the checks that hold them, and what their costs stand before.
use Rattle.std.proofs.Common.{◌≡◌, ◌+◌, ◌/◌, ℕ, Bool, true, false, nat_le, List, [], ◌∷◌, Option, Some, None, Result, Ok, Err, arith, refl, sym, ap, subst, ◌∙◌}
use Rattle.ytt_base.specs.declared.fault.FaultKind.TheVariants as kind
use Rattle.ytt_base.specs.declared.fault.Place.{Place}
use Rattle.ytt_base.specs.declared.fault.Stop.{Stop}
use Rattle.ytt_base.specs.declared.text.Memory.{Memory}
use Rattle.code_spec.specs.Code.{Name}
use Rattle.module_spec.specs.Asserting.{length_checked, length_in, unless_not}
use Rattle.object_arena.specs.Made.{Makes}
use Rattle.operator_spec.specs.Operators.{tuple_of}
use Rattle.star_steps.specs.Meets.{Gives, state_in}
use Rattle.star_values.proofs.Growing.{grows_then, owns_all_kept, values_kept}
use Rattle.star_values.specs.Owns.{OwnsAll}
use Rattle.star_values.specs.View.{View, values_of}
use Rattle.star_values.specs.declared.value.Value.{Value as Held}
use Rattle.text_spec.specs.Answers.{all_bytes, all_members, operation_cost, paid_operation}
use Rattle.value_spec.specs.Outcomes.{Computation, State, done, give, or_fail, paid_by, take_if, then_do, ◌>>=◌}
use Rattle.value_spec.specs.Values.{Value, none_value, text_value, tuple_value, values_from}
use Rattle.mod_basic.specs.View.{length_paid}
use Rattle.mod_basic.specs.Walks.{Adds, Here}

-- ---- costs

-- None among the values costs nothing
pub none_costs : {A : Type 0} (p : Place) (vs : List Value) (m : Computation Here A) (s : State Here) → paid_operation p vs 0 0 m s ≡ paid_operation p (none_value ∷ vs) 0 0 m s
none_costs p vs m s =
    let bytes : all_bytes vs ≡ 0 + all_bytes vs = omega arith in
    let members : all_members s.store vs ≡ 0 + all_members s.store vs = omega arith in
    λ i. paid_by ((bytes i + 0) / 16 + (members i + 0)) p m s

paid_if : {A B : Type 0} (b : Bool) (n : ℕ) (p : Place) (m : Computation Here A) (f : A → Computation Here B) (s : State Here) → then_do (take_if b n p s) (λ u. m >>= f) ≡ then_do (then_do (take_if b n p s) (λ u. m)) f
paid_if true n p m f s = refl
paid_if false n p m f s = refl

-- a length that is tested
pub length_parts : (test : ℕ → Bool) (x : Name) (p : Place) (v : Value) (s : State Here) → length_checked test x p v s ≡ then_do (length_paid p v s) (λ n. unless_not p x (test n))
length_parts test x p v s = by (length_in s.store v) where
  by : (o : Option ℕ) →
      then_do (or_fail kind.ValueKind p o s) (λ n. paid_operation p (v ∷ []) 0 0 (unless_not p x (test n))) ≡ then_do (then_do (or_fail kind.ValueKind p o s) (λ n. paid_operation p (v ∷ []) 0 0 (give n))) (λ n. unless_not p x (test n))
  by None = refl
  by (Some n) = let k = operation_cost (v ∷ []) 0 0 s.store in paid_if (nat_le k s.steps) k p (give n) (λ n. unless_not p x (test n)) s

pub length_told : (test : ℕ → Bool) (x : Name) (p : Place) (v : Value) (n : ℕ) (b : Bool) (r : Result Held Stop) (a : View) (m k : ℕ) → length_paid p v (state_in a m) ≡ done n (state_in a k) → b ≡ test n
    → Gives (unless_not p x b (state_in a k)) r a a k → Gives (length_checked test x p v (state_in a m)) r a a k
length_told test x p v n b r a m k paid is g =
    subst (λ o. Gives o r a a k) (sym (length_parts test x p v (state_in a m) ∙ ap (λ o. then_do o (λ n. unless_not p x (test n))) paid ∙ ap (λ b. unless_not p x b (state_in a k)) (sym is))) g

-- ---- rules

-- the name of a rule and what it is made of
pub rule_made : (a b c : View) (x t : List ℕ) (name : Held) (of parts : List Held) (r : Result Held Memory) → t ≡ x → Makes (text_value t) (Ok name) a b → parts ≡ name ∷ of → OwnsAll a of
    → Makes (tuple_value (values_from (values_of b parts))) r b c → Adds (tuple_of (text_value x ∷ values_of a of)) r a c
rule_made a b c x t name of parts (Ok v) e named is owned made = record {
  value = made.value ∙ ap (λ ps. tuple_value (values_from (values_of b ps))) is ∙ (λ i. tuple_of ((named.value ∙ ap text_value e) i ∷ values_kept a b of named.grows owned i));
  owns = made.owns;
  store = made.store ∙ named.store;
  grows = grows_then a b c named.grows made.grows;
}
rule_made a b c x t name of parts (Err e) is_name named is owned made = record { value = tt; owns = tt; store = made.store ∙ named.store; grows = grows_then a b c named.grows made.grows }

pub rule_owned : (a b : View) (t : List ℕ) (name : Held) (of parts : List Held) → parts ≡ name ∷ of → Makes (text_value t) (Ok name) a b → OwnsAll a of → OwnsAll b parts
rule_owned a b t name of parts is named owned = subst (OwnsAll b) (sym is) (named.owns, owns_all_kept a b of named.grows owned)
