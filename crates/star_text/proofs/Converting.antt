-- How the text of `%` goes on behind a conversion.
use Rattle.std.proofs.Common.{◌≡◌, ◌++◌, ◌∙◌, ◌+◌, ◌<◌, ◌==◌, ℕ, suc, Bool, true, false, cond, not, List, [], ◌∷◌, length, take, drop, Result, Ok, Err, ap, rules, append-nil, refl, sym, subst, arith}
use Rattle.std.proofs.lemmas.Bool.{eqb-true}
use Rattle.std.specs.List.{after_first, before_first, position_or_len}
use Rattle.ytt_base.specs.Outcomes.{fault_at}
use Rattle.ytt_base.specs.declared.fault.FaultKind.TheVariants as kind
use Rattle.ytt_base.specs.declared.fault.Fault.{Fault}
use Rattle.ytt_base.specs.declared.fault.Place.{Place}
use Rattle.ytt_base.specs.declared.fault.Stop.{Stop}
use Rattle.ytt_base.specs.declared.fault.Stop.TheVariants as stop
use Rattle.star_shown.specs.Pushes.{behind}
use Rattle.star_steps.specs.Meets.{Gives, Meets, as_is, state_in}
use Rattle.text_spec.specs.Percent as percent
use Rattle.text_spec.specs.Percent.{by_conversion, by_next, converted, filled, text_before}
use Rattle.text_spec.proofs.Filling.{AllPass, is_it, is_plain, onto_before, run_filled}
use Rattle.value_spec.specs.Outcomes.{Computation, Ending, State, asks, bad, done, give, then_do}
use Rattle.value_spec.specs.Values.{Value, text_value}
use Rattle.object_arena.specs.Made.{Makes}
use Rattle.star_values.proofs.Growing.{grows_same}
use Rattle.star_values.specs.View.{View, value_of, values_of}
use Rattle.text_spec.specs.Answers.{paid_operation}
use Rattle.star_values.specs.declared.value.Value.{Value as Held}
use Rattle.star_text.specs.Filling.{GoesOn, IsConversion, conversion_in, is_of_float, takes_value}
use Rattle.star_text.specs.declared.percent.Conversion.{Conversion as Kind}
use Rattle.star_text.specs.declared.percent.Conversion.TheVariants as conversion

abbrev Here : Type 0
Here = State (Unit {0})

abbrev Texts : Type 0
Texts = Computation (Unit {0}) (List ℕ)

-- ---- what stands behind a sign

taken : (p : Place) (c : Kind) (vs : List Value) (k : List Value → Texts) → takes_value c ≡ true → by_conversion p (conversion_in c) vs k ≡ by_next p (conversion_in c) vs k
taken p conversion.Str vs k e = refl
taken p conversion.Repr vs k e = refl
taken p conversion.Decimal vs k e = refl
taken p conversion.Hexadecimal vs k e = refl
taken p conversion.Capitals vs k e = refl
taken p conversion.Octal vs k e = refl
taken p conversion.Percent vs k e = cc
taken p conversion.Float vs k e = cc

is_sign : (p : Place) (c : Kind) (vs : List Value) (k : List Value → Texts) → takes_value c ≡ false → is_of_float c ≡ false → by_conversion p (conversion_in c) vs k ≡ text_before (37 ∷ []) (k vs)
is_sign p conversion.Str vs k e f = cc
is_sign p conversion.Repr vs k e f = cc
is_sign p conversion.Decimal vs k e f = cc
is_sign p conversion.Hexadecimal vs k e f = cc
is_sign p conversion.Capitals vs k e f = cc
is_sign p conversion.Octal vs k e f = cc
is_sign p conversion.Percent vs k e f = refl
is_sign p conversion.Float vs k e f = cc

by_its_conversion : (p : Place) (text more : List ℕ) (c : Kind) (vs : List Value) → IsConversion text c more → filled {H = Unit {0}} p (37 ∷ text) vs ≡ by_conversion p (conversion_in c) vs (filled p more)
by_its_conversion p text more c vs h = ap (λ t. filled p (37 ∷ t) vs) h.1 ∙ ap (λ k. by_conversion p k vs (filled p more)) h.2

pub by_value : (p : Place) (text more : List ℕ) (c : Kind) (vs : List Value) (made : List ℕ) (s : Here) → IsConversion text c more → takes_value c ≡ true → behind made (filled p (37 ∷ text) vs) s ≡ behind made (by_next p (conversion_in c) vs (filled p more)) s
by_value p text more c vs made s h e = ap (λ m. behind made m s) (by_its_conversion p text more c vs h ∙ taken p c vs (filled p more) e)

pub by_sign : (p : Place) (text more : List ℕ) (c : Kind) (vs : List Value) (made new : List ℕ) (s : Here) → IsConversion text c more → takes_value c ≡ false → is_of_float c ≡ false → new ≡ made ++ 37 ∷ [] → behind made (filled p (37 ∷ text) vs) s ≡ behind new (filled p more vs) s
by_sign p text more c vs made new s h e f put =
    ap (λ m. behind made m s) (by_its_conversion p text more c vs h ∙ is_sign p c vs (filled p more) e f)
    ∙ onto_before made (37 ∷ []) (filled p more vs) s
    ∙ ap (λ l. behind l (filled p more vs) s) (sym put)

-- ---- the next value

module _ (p : Place) (c : percent.Conversion) (v : Value) (vs all : List Value) (made : List ℕ) (rest : List Value → Texts) (s : Here) (is : all ≡ v ∷ vs) where
  next_first : behind made (by_next p c all rest) s ≡ then_do (then_do (converted p c v s) (λ t. text_before t (rest vs))) (λ u. give (made ++ u))
  next_first = ap (λ l. behind made (by_next p c l rest) s) is

  pub next_shown : (new : List ℕ) (after : Here) → behind made (converted p c v) s ≡ done new after → behind made (by_next p c all rest) s ≡ behind new (rest vs) after
  next_shown new after h = next_first ∙ by (converted p c v s) h where
    by : (o : Ending (Unit {0}) (List ℕ)) → then_do o (λ t. give (made ++ t)) ≡ done new after → then_do (then_do o (λ t. text_before t (rest vs))) (λ u. give (made ++ u)) ≡ behind new (rest vs) after
    by (done t q) h =
        let text : made ++ t ≡ new = cc in
        let state : q ≡ after = cc in
        onto_before made t (rest vs) q ∙ (λ i. behind (text i) (rest vs) (state i))
    by (bad d q) h = cc
    by (asks w q k) h = cc

  next_bad : (d : Fault) (after : Here) → behind made (converted p c v) s ≡ bad d after → behind made (by_next p c all rest) s ≡ bad d after
  next_bad d after h = next_first ∙ by (converted p c v s) h where
    by : (o : Ending (Unit {0}) (List ℕ)) → then_do o (λ t. give (made ++ t)) ≡ bad d after → then_do (then_do o (λ t. text_before t (rest vs))) (λ u. give (made ++ u)) ≡ bad d after
    by (done t q) h = cc
    by (bad g q) h = cc
    by (asks w q k) h = cc

  pub next_stopped : {A B : Type 0} (x : Stop) (r : Result B Stop) (view : A → List ℕ) (next : B → Ending (Unit {0}) (List ℕ)) (after : Here) → r ≡ Err x → Meets view (Err x) after (behind made (converted p c v) s) → GoesOn r (behind made (by_next p c all rest) s) next after
  next_stopped (stop.Fault d) r view next after e h = subst (λ r. GoesOn r (behind made (by_next p c all rest) s) next after) (sym e) (next_bad d after h)
  next_stopped stop.Memory r view next after e h = subst (λ r. GoesOn r (behind made (by_next p c all rest) s) next after) (sym e) tt

-- ---- up to a sign

one_more : (n : ℕ) → suc n ≡ 1 + n
one_more n = omega arith

two_more : (n : ℕ) → suc (n + 1) ≡ 1 + n + 1
two_more n = omega arith

abbrev is_not : ℕ → ℕ → Bool
is_not x b = not (b == x)

abbrev IsSplit : ℕ → List ℕ → ℕ → ℕ → Type 0
IsSplit x t m n = AllPass (is_not x) (take m t) × (t ≡ take m t ++ x ∷ drop n t)

pub split_at_first : (x : ℕ) (t : List ℕ) → position_or_len (is_it x) t < length t → IsSplit x t (position_or_len (is_it x) t) (position_or_len (is_it x) t + 1)
split_at_first x [] l = absurd (omega (arith, l))
split_at_first x (b ∷ t) l = by (b == x) refl (split_at_first x t) l where
  n : ℕ
  n = position_or_len (is_it x) t

  by : (h : Bool) → b == x ≡ h → (n < length t → IsSplit x t n (n + 1)) → cond (not h) (1 + n) 0 < suc (length t) → IsSplit x (b ∷ t) (cond (not h) (1 + n) 0) (cond (not h) (1 + n) 0 + 1)
  by true e further l = (tt, ap (λ y. y ∷ t) (eqb-true b x e))
  by false e further l =
      let rest = further (omega (arith, l)) in
      subst (λ k. IsSplit x (b ∷ t) (1 + n) k) (two_more n) (subst (λ k. IsSplit x (b ∷ t) k (suc (n + 1))) (one_more n) ((ap not e, rest.0), ap (λ r. b ∷ r) rest.1))

without_sign : (t : List ℕ) → position_or_len (is_it 37) t ≡ length t → AllPass is_plain t
without_sign [] e = tt
without_sign (b ∷ t) e = by (b == 37) refl (without_sign t) e where
  n : ℕ
  n = position_or_len (is_it 37) t

  by : (h : Bool) → b == 37 ≡ h → (n ≡ length t → AllPass is_plain t) → cond (not h) (1 + n) 0 ≡ suc (length t) → AllPass is_plain (b ∷ t)
  by true e further l = absurd (omega (arith, l))
  by false e further l = (ap not e, further (omega (arith, l)))

pub at_sign : (p : Place) (t before after made new : List ℕ) (vs : List Value) (s : Here) → position_or_len (is_it 37) t < length t → before ≡ before_first (is_it 37) t → after ≡ after_first (is_it 37) t → new ≡ made ++ before →
    behind made (filled p t vs) s ≡ behind new (filled p (37 ∷ after) vs) s
at_sign p t before after made new vs s l front rest put =
    let split = split_at_first 37 t l in
    ap (λ x. behind made (filled p x vs) s) (split.1)
    ∙ run_filled p (before_first (is_it 37) t) (37 ∷ after_first (is_it 37) t) vs made s split.0
    ∙ ap (λ x. behind (made ++ x) (filled p (37 ∷ after_first (is_it 37) t) vs) s) (sym front)
    ∙ ap (λ x. behind (made ++ before) (filled p (37 ∷ x) vs) s) (sym rest)
    ∙ ap (λ x. behind x (filled p (37 ∷ after) vs) s) (sym put)

behind_last : (p : Place) (t made : List ℕ) (vs : List Value) (s : Here) → position_or_len (is_it 37) t ≡ length t → behind made (filled p t vs) s ≡ behind (made ++ t) (filled p [] vs) s
behind_last p t made vs s e = ap (λ x. behind made (filled p x vs) s) (sym (append-nil t)) ∙ run_filled p t [] vs made s (without_sign t e)

pub at_the_end : (p : Place) (t made new : List ℕ) (s : Here) → position_or_len (is_it 37) t ≡ length t → new ≡ made ++ t → behind made (filled p t []) s ≡ done new s
at_the_end p t made new s e put = behind_last p t made [] s e ∙ ap (λ x. done x s) (append-nil (made ++ t) ∙ sym put)

pub none_left : (p : Place) (a : View) (t made new : List ℕ) (vs : List Held) (s : Here) → (length vs == 0) ≡ true → position_or_len (is_it 37) t ≡ length t → new ≡ made ++ t → behind made (filled p t (values_of a vs)) s ≡ done new s
none_left p a t made new [] s h e put = behind_last p t made [] s e ∙ ap (λ x. done x s) (append-nil (made ++ t) ∙ sym put)
none_left p a t made new (v ∷ vs) s h e put = absurd (search (rules, h))

pub some_left : (p : Place) (a : View) (t made : List ℕ) (vs : List Held) (s : Here) → (length vs == 0) ≡ false → position_or_len (is_it 37) t ≡ length t → behind made (filled p t (values_of a vs)) s ≡ bad (fault_at kind.ValueKind p) s
some_left p a t made [] s h e = absurd (search (rules, h))
some_left p a t made (v ∷ vs) s h e = behind_last p t made (values_of a (v ∷ vs)) s e

-- ---- refusals

-- it ended as what it goes on with
pub goes_stopped : {A B : Type 0} (x : Stop) (r : Result B Stop) (whole next : Ending (Unit {0}) (List ℕ)) (f : A → Ending (Unit {0}) (List ℕ)) (g : B → Ending (Unit {0}) (List ℕ)) (s : Here) → r ≡ Err x → whole ≡ next → GoesOn (Err x) next f s → GoesOn r whole g s
goes_stopped (stop.Fault d) r whole next f g s e same h = subst (λ r. GoesOn r whole g s) (sym e) (same ∙ h)
goes_stopped stop.Memory r whole next f g s e same h = subst (λ r. GoesOn r whole g s) (sym e) tt

pub meets_stopped : {A B : Type 0} (x : Stop) (r : Result B Stop) (whole next : Ending (Unit {0}) (List ℕ)) (f : A → Ending (Unit {0}) (List ℕ)) (view : B → List ℕ) (s : Here) → r ≡ Err x → whole ≡ next → GoesOn (Err x) next f s → Meets view r s whole
meets_stopped (stop.Fault d) r whole next f view s e same h = subst (λ r. Meets view r s whole) (sym e) (same ∙ h)
meets_stopped stop.Memory r whole next f view s e same h = subst (λ r. Meets view r s whole) (sym e) tt

-- ---- the whole

-- what is filled is paid for, and becomes a value
module _ (p : Place) (vs : List Value) (made : List ℕ) (mid : Here) (row : Ending (Unit {0}) Value) (goes : row ≡ then_do (paid_operation p vs (length made) 0 (give (tt {0})) mid) (λ (u : Unit {0}). give (text_value made))) where
  pub text_unpaid : (a : View) (n : ℕ) (x : Stop) (r : Result Held Stop) → r ≡ Err x → Meets as_is (Err x) (state_in a n) (paid_operation p vs (length made) 0 (give (tt {0})) mid) → Gives row r a a n
  text_unpaid a n x r e h = subst (λ r. Gives row r a a n) (sym e) (record { meaning = unpaid x h; owns = tt; grows = grows_same a }) where
    unpaid : (x : Stop) → Meets as_is (Err x) (state_in a n) (paid_operation p vs (length made) 0 (give (tt {0})) mid) → Meets (value_of a) (Err x) (state_in a n) row
    unpaid (stop.Fault d) h = goes ∙ ap (λ o. then_do o (λ (u : Unit {0}). give (text_value made))) h
    unpaid stop.Memory h = tt

  pub text_made : (a b : View) (n : ℕ) (w : Held) → paid_operation p vs (length made) 0 (give (tt {0})) mid ≡ done (tt {0}) (state_in a n) → Makes (text_value made) (Ok w) a b → Gives row (Ok w) a b n
  text_made a b n w paid makes = record {
    meaning = goes ∙ ap (λ o. then_do o (λ (u : Unit {0}). give (text_value made))) paid ∙ (λ i. done (sym makes.value i) (record { store = sym makes.store i; steps = n; host = tt {0} }));
    owns = makes.owns;
    grows = makes.grows;
  }
