-- A cut of a text between whole characters is a text.
use Rattle.std.proofs.Common.{◌≡◌, ℕ, zero, suc, ◌+◌, ◌-◌, ◌<◌, ◌≤◌, nat_le, Bool, true, false, not, ◌&&◌, ◌||◌, List, [], ◌∷◌, ◌++◌, length, take, drop, get_or, IsUtf8, IsCharBoundary, refl, sym, ap, ◌∙◌, subst, arith, leb-true, leb-false}
use Rattle.std.proofs.lemmas.List.{drop-take, take_all}
use Rattle.std.proofs.lemmas.Str.{IsUtf8-append, IsUtf8-between, IsUtf8-drop, IsUtf8-nil}
use Rattle.std.proofs.Math.ListN.{drop_of_length-le}
use Rattle.std.proofs.Math.Seq.{drop-cons}
use Rattle.std.specs.Prelude.{ℤ, pos, ◌+ℤ◌}
use Rattle.ytt_base.specs.declared.fault.FaultKind.TheVariants as kind
use Rattle.ytt_base.specs.declared.fault.Place.{Place}
use Rattle.ytt_base.specs.Trees.{same_integer}
use Rattle.value_spec.specs.Members.{is_empty}
use Rattle.value_spec.specs.Numbers.{at_least_zero}
use Rattle.index_spec.specs.Index.{is_inner, begins_inner, is_whole, cut_text}
use Rattle.index_spec.specs.Slices.{Places, place_count, picked_bytes, bytes_cut}
use Rattle.star_spec.proofs.Keeping.{Keeps, keeps_then, keeps_give, keeps_fail, keeps_if}

-- ---- where a character begins

begins_character : (b : ℕ) → is_inner b ≡ false → 128 ≤ b → 192 ≤ b
begins_character b e h = grind arith

no_inner : (t : List ℕ) (i : ℕ) → begins_inner (drop i t) ≡ false → i < length t → is_inner (get_or t i 0) ≡ false
no_inner t i e h = ap begins_inner (sym (drop-cons t i 0 h)) ∙ e

boundary : (t : List ℕ) (i : ℕ) → i ≤ length t → begins_inner (drop i t) ≡ false → IsCharBoundary t i
boundary t i h e = (h, λ below from. begins_character (get_or t i 0) (no_inner t i e below) from)

-- ---- cuts

empty_utf8 : (t : List ℕ) → t ≡ [] → IsUtf8 t
empty_utf8 t e = subst IsUtf8 (sym e) IsUtf8-nil

-- an end before the start leaves nothing
none_left : (t : List ℕ) (a b : ℕ) → b < a → drop a (take b t) ≡ []
none_left t zero b h = absurd (omega arith)
none_left t (suc a) zero h = refl
none_left [] (suc a) (suc b) h = refl
none_left (x ∷ t) (suc a) (suc b) h = none_left t a b (omega arith)

-- what is behind a place
rest_utf8 : (t : List ℕ) (a : ℕ) → IsUtf8 t → begins_inner (drop a t) ≡ false → IsUtf8 (drop a t)
rest_utf8 t a h e = by (nat_le a (length t)) refl
  where
    by : (v : Bool) → nat_le a (length t) ≡ v → IsUtf8 (drop a t)
    by true f = IsUtf8-drop t a h (boundary t a (leb-true a (length t) f) e)
    by false f = let past : length t < a = leb-false a (length t) f in empty_utf8 (drop a t) (drop_of_length-le t (omega arith))

within_utf8 : (t : List ℕ) (a b : ℕ) → IsUtf8 t → a ≤ b → b ≤ length t → begins_inner (drop a t) ≡ false → begins_inner (drop b t) ≡ false →
    IsUtf8 (drop a (take b t))
within_utf8 t a b h less within e f =
    let size : a + (b - a) ≡ b = omega arith in
    let cut : take (b - a) (drop a t) ≡ drop a (take b t) = sym (drop-take a (b - a) t) ∙ ap (λ n. drop a (take n t)) size in
    subst IsUtf8 cut (IsUtf8-between t a b h less (boundary t a (omega arith) e) (boundary t b within f))

between_utf8 : (t : List ℕ) (a b : ℕ) → IsUtf8 t → begins_inner (drop a t) ≡ false → begins_inner (drop b t) ≡ false → IsUtf8 (drop a (take b t))
between_utf8 t a b h e f = by (nat_le a b) (nat_le b (length t)) refl refl
  where
    by : (v w : Bool) → nat_le a b ≡ v → nat_le b (length t) ≡ w → IsUtf8 (drop a (take b t))
    by false w g i = empty_utf8 (drop a (take b t)) (none_left t a b (leb-false a b g))
    by true true g i = within_utf8 t a b h (leb-true a b g) (leb-true b (length t) i) e f
    by true false g i =
        let past : length t < b = leb-false b (length t) i in
        subst IsUtf8 (sym (ap (drop a) (take_all b t (omega arith)))) (rest_utf8 t a h e)

cut_utf8 : (t : List ℕ) (a b : ℕ) → IsUtf8 t → is_whole t a b ≡ true → IsUtf8 (drop a (take b t))
cut_utf8 t a b h e = by (drop a (take b t)) (begins_inner (drop a t)) (begins_inner (drop b t)) (between_utf8 t a b h) e
  where
    by : (c : List ℕ) (x y : Bool) → (x ≡ false → y ≡ false → IsUtf8 c) → (is_empty c || (not x && not y)) ≡ true → IsUtf8 c
    by [] x y k e = IsUtf8-nil
    by (u ∷ c) true y k e = cc
    by (u ∷ c) false true k e = cc
    by (u ∷ c) false false k e = k refl refl

-- ---- all cuts

pub cut_keeps : {H : Type 0} (p : Place) (t : List ℕ) (a b : ℕ) → IsUtf8 t → Keeps {H = H} IsUtf8 (cut_text p t a b)
cut_keeps p t a b h = keeps_if (is_whole t a b) (λ e. keeps_give (drop a (take b t)) (cut_utf8 t a b h e)) (λ e. keeps_fail kind.CutsCharacter p [])

picked_keep : {H : Type 0} (p : Place) (t : List ℕ) (n : ℕ) (z step : ℤ) → IsUtf8 t → Keeps {H = H} IsUtf8 (picked_bytes p t n z step)
picked_keep p t zero z step h = keeps_give [] IsUtf8-nil
picked_keep p t (suc n) z step h =
    keeps_then (cut_keeps p t (at_least_zero z) (suc (at_least_zero z)) h)
    (λ c k. keeps_then (picked_keep p t n (z +ℤ step) step h) (λ more g. keeps_give (c ++ more) (IsUtf8-append c more k g)))

pub bytes_keep : {H : Type 0} (p : Place) (t : List ℕ) (q : Places) → IsUtf8 t → Keeps {H = H} IsUtf8 (bytes_cut p t q)
bytes_keep p t q h =
    keeps_if (same_integer q.step (pos 1)) (λ e. cut_keeps p t (at_least_zero q.first) (at_least_zero q.first + place_count q) h)
    (λ e. picked_keep p t (place_count q) q.first q.step h)
