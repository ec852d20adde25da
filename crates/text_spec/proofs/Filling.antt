-- How `%` and `format` go on behind a run of bytes that stand for themselves, and behind what was filled.
use Rattle.std.proofs.Common.{◌≡◌, ℕ, zero, suc, ◌+◌, ◌/◌, ◌%◌, ◌<◌, ◌==◌, ◌||◌, Bool, true, false, cond, not, if◌then◌else◌, List, [], ◌∷◌, ◌++◌, length, take, drop, Some, None, refl, sym, ap, arith, append_assoc, ◌∙◌}
use Rattle.std.proofs.lemmas.Bool.{not-true}
use Rattle.std.proofs.lemmas.List.{append-nil}
use Rattle.std.specs.Fmt.{digit_glyph, digits, digits_onto}
use Rattle.std.specs.List.{after_first, before_first, position_or_len}
use Rattle.ytt_base.specs.declared.fault.FaultKind.TheVariants as kind
use Rattle.ytt_base.specs.declared.fault.Place.{Place}
use Rattle.value_spec.specs.Outcomes.{Computation, Ending, State, asks, bad, done, fail, give, then_do, ◌>>=◌}
use Rattle.value_spec.specs.Values.{Value, Values, Fields}
use Rattle.text_spec.specs.Fields.{Met, begins, cut_at, formatted, onto_first, opened}
use Rattle.text_spec.specs.Percent.{at_end, by_conversion, conversion_of, filled, text_before}

-- ---- the text up to a byte

abbrev pub is_it : ℕ → ℕ → Bool
is_it x b = b == x

one_more : (n : ℕ) → suc n ≡ 1 + n
one_more n = omega arith

two_more : (n : ℕ) → suc (n + 1) ≡ 1 + n + 1
two_more n = omega arith

pub cut_some : (x : ℕ) (t : List ℕ) → position_or_len (is_it x) t < length t → cut_at x t ≡ Some (before_first (is_it x) t, after_first (is_it x) t)
cut_some x [] l = absurd (omega (arith, l))
cut_some x (b ∷ t) l = by (b == x) (cut_some x t) l where
  by : (h : Bool) → (position_or_len (is_it x) t < length t → cut_at x t ≡ Some (before_first (is_it x) t, after_first (is_it x) t)) → cond (not h) (1 + position_or_len (is_it x) t) 0 < suc (length t) →
      (if h then Some ([], t) else onto_first b (cut_at x t)) ≡ Some (take (cond (not h) (1 + position_or_len (is_it x) t) 0) (b ∷ t), drop (cond (not h) (1 + position_or_len (is_it x) t) 0 + 1) (b ∷ t))
  by true more l = refl
  by false more l =
      let n = position_or_len (is_it x) t in
      ap (onto_first b) (more (omega (arith, l))) ∙ (λ i. Some (take (one_more n i) (b ∷ t), drop (two_more n i) (b ∷ t)))

pub cut_none : (x : ℕ) (t : List ℕ) → position_or_len (is_it x) t ≡ length t → cut_at x t ≡ None
cut_none x [] e = refl
cut_none x (b ∷ t) e = by (b == x) (cut_none x t) e where
  by : (h : Bool) → (position_or_len (is_it x) t ≡ length t → cut_at x t ≡ None) → cond (not h) (1 + position_or_len (is_it x) t) 0 ≡ suc (length t) → (if h then Some ([], t) else onto_first b (cut_at x t)) ≡ None
  by true more e = absurd (omega (arith, e))
  by false more e = ap (onto_first b) (more (omega (arith, e)))

-- ---- one text behind another

abbrev Texts : Type 0 → Type 0
Texts H = Computation H (List ℕ)

-- what is made goes on behind what was made
abbrev pub onto : {H : Type 0} → List ℕ → Texts H → Texts H
onto made m = m >>= λ t. give (made ++ t)

ended_twice : {H : Type 0} (a b : List ℕ) (e : Ending H (List ℕ)) → then_do (then_do e (λ t. give (b ++ t))) (λ t. give (a ++ t)) ≡ then_do e (λ t. give ((a ++ b) ++ t))
ended_twice a b (done t s) = ap (λ x. done x s) (sym (append_assoc a b t))
ended_twice a b (bad f s) = refl
ended_twice a b (asks q s k) = λ i. asks q s (λ got t. ended_twice a b (k got t) i)

pub onto_before : {H : Type 0} (a b : List ℕ) (m : Texts H) (s : State H) → onto a (text_before b m) s ≡ onto (a ++ b) m s
onto_before a b m s = ended_twice a b (m s)

-- ---- bytes that stand for themselves

-- each byte passes
abbrev pub AllPass : (ℕ → Bool) → List ℕ → Type 0
AllPass f [] = Unit {0}
AllPass f (b ∷ t) = (f b ≡ true) × AllPass f t

abbrev pub is_plain : ℕ → Bool
is_plain b = not (b == 37)

abbrev pub is_no_brace : ℕ → Bool
is_no_brace b = not (b == 123 || b == 125)

pub one_filled : {H : Type 0} (p : Place) (b : ℕ) (t : List ℕ) (vs : List Value) → is_plain b ≡ true → filled {H = H} p (b ∷ t) vs ≡ text_before (b ∷ []) (filled p t vs)
one_filled {H = H} p b [] vs h = ap (λ k. if k then fail kind.ValueKind p else text_before {H = H} (b ∷ []) (at_end p vs)) (not-true (b == 37) h)
one_filled {H = H} p b (c ∷ t) vs h = ap (λ k. if k then by_conversion p (conversion_of c) vs (filled p t) else text_before {H = H} (b ∷ []) (filled p (c ∷ t) vs)) (not-true (b == 37) h)

pub run_filled : {H : Type 0} (p : Place) (a t : List ℕ) (vs : List Value) (made : List ℕ) (s : State H) → AllPass is_plain a → onto made (filled p (a ++ t) vs) s ≡ onto (made ++ a) (filled p t vs) s
run_filled p [] t vs made s h = ap (λ m. onto m (filled p t vs) s) (sym (append-nil made))
run_filled p (b ∷ a) t vs made s h =
    ap (λ m. onto made m s) (one_filled p b (a ++ t) vs h.0)
    ∙ onto_before made (b ∷ []) (filled p (a ++ t) vs) s
    ∙ run_filled p a t vs (made ++ b ∷ []) s h.1
    ∙ ap (λ m. onto m (filled p t vs) s) (append_assoc made (b ∷ []) a)

-- ---- `format`

module _ {H : Type 0} (p : Place) (vs : Values) (fs : Fields) where
  -- so many bytes are passed over
  pub passed_over : (met : Met) (a t : List ℕ) → formatted {H = H} p vs fs met (length a) (a ++ t) ≡ formatted p vs fs met 0 t
  passed_over met [] t = refl
  passed_over met (b ∷ a) t = passed_over met a t

  pub one_formatted : (met : Met) (b : ℕ) (t : List ℕ) → is_no_brace b ≡ true → formatted {H = H} p vs fs met 0 (b ∷ t) ≡ text_before (b ∷ []) (formatted p vs fs met 0 t)
  one_formatted met b t h =
      ap (λ k. if k then (if begins b t then text_before {H = H} (b ∷ []) (formatted p vs fs met 1 t) else if b == 125 then fail kind.ValueKind p else opened p vs fs met (cut_at 125 t) (λ m k. formatted p vs fs m k t)) else text_before (b ∷ []) (formatted p vs fs met 0 t))
      (not-true (b == 123 || b == 125) h)

  pub run_formatted : (met : Met) (a t made : List ℕ) (s : State H) → AllPass is_no_brace a → onto made (formatted p vs fs met 0 (a ++ t)) s ≡ onto (made ++ a) (formatted p vs fs met 0 t) s
  run_formatted met [] t made s h = ap (λ m. onto m (formatted p vs fs met 0 t) s) (sym (append-nil made))
  run_formatted met (b ∷ a) t made s h =
      ap (λ m. onto made m s) (one_formatted met b (a ++ t) h.0)
      ∙ onto_before made (b ∷ []) (formatted p vs fs met 0 (a ++ t)) s
      ∙ run_formatted met a t (made ++ b ∷ []) s h.1
      ∙ ap (λ m. onto m (formatted p vs fs met 0 t) s) (append_assoc made (b ∷ []) a)

-- ---- digits

-- the digits of a number stand before what follows them
pub digits_before : (k base : ℕ) (capitals : Bool) (n : ℕ) (more : List ℕ) → digits_onto k base capitals n more ≡ digits_onto k base capitals n [] ++ more
digits_before zero base capitals n more = refl
digits_before (suc k) base capitals n more = by (n / base == 0) (digits_before k base capitals (n / base)) where
  glyph : ℕ
  glyph = digit_glyph capitals (n % base)

  by : (h : Bool) → ((more : List ℕ) → digits_onto k base capitals (n / base) more ≡ digits_onto k base capitals (n / base) [] ++ more) →
      (if h then glyph ∷ more else digits_onto k base capitals (n / base) (glyph ∷ more)) ≡ (if h then glyph ∷ [] else digits_onto k base capitals (n / base) (glyph ∷ [])) ++ more
  by true before = refl
  by false before = before (glyph ∷ more) ∙ sym (append_assoc (digits_onto k base capitals (n / base) []) (glyph ∷ []) more) ∙ ap (λ x. x ++ more) (sym (before (glyph ∷ [])))

pub digits_are : (base : ℕ) (capitals : Bool) (n : ℕ) → digits base capitals n ≡ digits_onto 64 base capitals n []
unfolding digits
digits_are base capitals n = refl
