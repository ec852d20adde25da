-- Where a plain scalar ends on a line.
use Rattle.std.proofs.Common.{◌≡◌, ℕ, ◌+◌, ◌<◌, ◌≤◌, Bool, true, false, ◌&&◌, List, [], ◌∷◌, ◌++◌, length, get_or, take, drop, IsUtf8, refl, ap, arith, append_assoc, append-nil, length-take, add-one, ◌-◌, ◌==◌, suc}
use Rattle.std.proofs.lemmas.Str.{IsCharBoundary-from_take}
use Rattle.std.proofs.lemmas.List.{drop_more, take-take}
use Rattle.std.proofs.Math.ListN.{drop_of_length-le}
use Rattle.std.proofs.Math.Seq.{take-suc}
use Rattle.std.specs.Str.{IsCharBoundary}
use Rattle.yaml_spec.specs.Bytes.{colon, is_white, is_empty, trim_end}
use Rattle.yaml_spec.specs.Plain.{ends_before, ends_with_colon, span}

span-on : (in_flow white : Bool) (b : ℕ) (bs : List ℕ) → ends_before in_flow white b bs ≡ false → span in_flow white (b ∷ bs) ≡ b ∷ span in_flow (is_white b) bs
unfolding span
span-on in_flow white b bs h = rw (span, h) refl

span-off : (in_flow white : Bool) (b : ℕ) (bs : List ℕ) → ends_before in_flow white b bs ≡ true → span in_flow white (b ∷ bs) ≡ []
unfolding span
span-off in_flow white b bs h = rw (span, h) refl

-- a byte more belongs to it
pub span-more : (in_flow white : Bool) (t : List ℕ) (n b : ℕ) → n < length t → b ≡ get_or t n 0 → ends_before in_flow white b (drop (n + 1) t) ≡ false
    → take n t ++ span in_flow white (drop n t) ≡ span in_flow true t → take (n + 1) t ++ span in_flow (is_white b) (drop (n + 1) t) ≡ span in_flow true t
span-more in_flow white t n b within e goes same =
    let rest = drop_more t n 0 within in
    let so_far = rw (rest, ← e, span-on in_flow white b (drop (n + 1) t) goes) at same in
    let more : take (n + 1) t ≡ take n t ++ b ∷ [] = rw (add-one, take-suc t n 0 within, ← e) refl in
    rw (more, append_assoc) so_far

-- it ends before a byte
pub span-ended : (in_flow white : Bool) (t : List ℕ) (n : ℕ) → n < length t → ends_before in_flow white (get_or t n 0) (drop (n + 1) t) ≡ true
    → take n t ++ span in_flow white (drop n t) ≡ span in_flow true t → take n t ≡ span in_flow true t
span-ended in_flow white t n within ends same =
    let rest = drop_more t n 0 within in
    let so_far = rw (rest, span-off in_flow white (get_or t n 0) (drop (n + 1) t) ends, append-nil) at same in
    so_far

-- it takes the whole text
pub span-whole : (in_flow white : Bool) (t : List ℕ) (n : ℕ) → length t ≤ n → take n t ++ span in_flow white (drop n t) ≡ span in_flow true t → take n t ≡ span in_flow true t
unfolding span
span-whole in_flow white t n past same =
    let none : drop n t ≡ [] = drop_of_length-le t past in
    rw (none, append-nil) at same

-- ---- a text without the white space at its end stands at its start

trim_end-take : (t : List ℕ) → take (length (trim_end t)) t ≡ trim_end t
trim_end-take [] = refl
trim_end-take (b ∷ t) = by (is_white b && is_empty (trim_end t)) refl (trim_end-take t) where
  by : (v : Bool) → (is_white b && is_empty (trim_end t)) ≡ v → take (length (trim_end t)) t ≡ trim_end t → take (length (trim_end (b ∷ t))) (b ∷ t) ≡ trim_end (b ∷ t)
  by true e more = rw e refl
  by false e more = rw e (ap (λ u. b ∷ u) more)

trim_end-length : (t : List ℕ) → length (trim_end t) ≤ length t
trim_end-length t = omega (arith, ap length (trim_end-take t), length-take (length (trim_end t)) t)

pub part-take : (t part : List ℕ) (n : ℕ) → n ≤ length t → part ≡ trim_end (take n t) → take (length part) t ≡ part
part-take t part n within h =
    let shorter : length part ≤ n = rw h (omega (arith, trim_end-length (take n t), length-take n t)) in
    rw (← take-take (length part) n t shorter, h) (trim_end-take (take n t))

pub part-cut : (t part : List ℕ) (n : ℕ) → n ≤ length t → IsUtf8 t → IsUtf8 part → part ≡ trim_end (take n t) → IsCharBoundary t (length part)
part-cut t part n within utf8 whole h =
    let same = part-take t part n within h in
    let shorter : length part ≤ length t = omega (arith, ap length same, length-take (length part) t) in
    IsCharBoundary-from_take t (length part) utf8 shorter (rw same whole)

pub ruleset spans = (span-more, span-ended, span-whole, part-take, part-cut)

-- ---- the last byte

pub ends_with_colon-last : (t : List ℕ) → ends_with_colon t ≡ (get_or t (length t - 1) 0 == colon)
ends_with_colon-last [] = refl
ends_with_colon-last (b ∷ []) = refl
ends_with_colon-last (b ∷ c ∷ t) =
    let less : suc (suc (length t)) - 1 ≡ suc (length t) = omega arith in
    let less_too : suc (length t) - 1 ≡ length t = omega arith in
    rw (ends_with_colon-last (c ∷ t), less, less_too) refl

pub ruleset colons = (ends_with_colon-last)
