-- The bounds of characters that are left from a place on.
use Rattle.std.proofs.Common.{◌≡◌, ℕ, zero, suc, ◌+◌, ◌-◌, ◌≤◌, Bool, true, false, List, [], ◌∷◌, length, drop, Option, Some, None, if◌then◌else◌, refl, ◌∙◌, add-one, arith}
use Rattle.std.proofs.Math.Seq.{drop-cons}
use Rattle.std.specs.Option.{option_or}
use Rattle.code_spec.specs.Options.{or_else}
use Rattle.index_spec.specs.Index.{begins_inner}
use Rattle.text_spec.specs.Places.{bounds, first_of, last_of}

-- among so many places from one on
abbrev pub left : (count at : ℕ) → List ℕ → List ℕ
left zero i t = []
left (suc n) i t = bounds n i (drop i t)

-- what was found before a place is the first, the last and the number of what is found from one place to another
pub record Found (t : List ℕ) (from to : ℕ) (at : ℕ) (first last : Option ℕ) (count : ℕ) : Type 0 where
  pub the_first : or_else first (first_of (left (to + 1 - at) at t)) ≡ first_of (bounds (to - from) from (drop from t))
  pub the_last : or_else (last_of (left (to + 1 - at) at t)) last ≡ last_of (bounds (to - from) from (drop from t))
  pub the_count : count + length (left (to + 1 - at) at t) ≡ length (bounds (to - from) from (drop from t))
  pub few : count + from ≤ at

next : (t : List ℕ) (i n : ℕ) → i + n ≤ length t → left (suc n) i t ≡ (if begins_inner (drop i t) then left n (suc i) t else i ∷ left n (suc i) t)
next t i zero h = refl
next t i (suc n) h = let e = drop-cons t i 0 (omega arith) in rw e refl

module _ (t : List ℕ) (from to at : ℕ) (first last : Option ℕ) (count : ℕ) (before : at ≤ to) (within : to ≤ length t) (h : Found t from to at first last count) where
  step : (v : Bool) → begins_inner (drop at t) ≡ v → left (to + 1 - at) at t ≡ (if v then left (to + 1 - (at + 1)) (at + 1) t else at ∷ left (to + 1 - (at + 1)) (at + 1) t)
  step v e =
      let one : to + 1 - at ≡ suc (to - at) = omega arith in
      let two : to + 1 - (at + 1) ≡ to - at = omega arith in
      rw (one, two, add-one, ← e) (next t at (to - at) (omega arith))

  pub inside : begins_inner (drop at t) ≡ true → Found t from to (at + 1) first last count
  inside e = let s = step true e in record {
    the_first = rw s at h.the_first;
    the_last = rw s at h.the_last;
    the_count = rw s at h.the_count;
    few = omega (arith, h.few);
  }

  pub outside : begins_inner (drop at t) ≡ false → Found t from to (at + 1) (option_or first (Some at)) (Some at) (count + 1)
  outside e = let s = step false e in record {
    the_first = kept first (first_of (left (to + 1 - (at + 1)) (at + 1) t)) ∙ rw s at h.the_first;
    the_last = newest (last_of (left (to + 1 - (at + 1)) (at + 1) t)) ∙ rw s at h.the_last;
    the_count = omega (arith, rw s at h.the_count);
    few = omega (arith, h.few);
  } where
    kept : (f o : Option ℕ) → or_else (option_or f (Some at)) o ≡ or_else f (Some at)
    kept None o = refl
    kept (Some i) o = refl

    newest : (o : Option ℕ) → or_else o (Some at) ≡ or_else (or_else o (Some at)) last
    newest None = refl
    newest (Some i) = refl
