-- White space at the ends of a text, and where a text may be cut.
use Rattle.std.proofs.Common.{◌≡◌, ℕ, zero, suc, ◌+◌, ◌-◌, ◌<◌, ◌≤◌, Bool, true, false, List, [], ◌∷◌, ◌++◌, length, get_or, take, drop, IsUtf8, refl, sym, subst, inl, inr, arith, length-drop}
use Rattle.std.proofs.lemmas.Bool.{and_right, cases_lt}
use Rattle.std.proofs.lemmas.Bool.Decides.{nat_tests}
use Rattle.std.proofs.lemmas.List.Sums.{prefix_len-le-length, prefix_len_passes, prefix_len_stops}
use Rattle.std.proofs.lemmas.Str.{IsCharBoundary-start, IsCharBoundary-end, IsCharBoundary-before_ascii, IsCharBoundary-after_ascii}
use Rattle.std.proofs.Math.Seq.{take-suc}
use Rattle.std.specs.List.{prefix_len}
use Rattle.std.specs.Str.{IsCharBoundary}
use Rattle.yaml_spec.specs.Bytes.{is_white, is_empty, skip_white, trim_end}

-- behind bytes that pass a test that only ASCII passes the text may be cut
pub cut_behind : (test : ℕ → Bool) (t : List ℕ) (n : ℕ) → n ≤ prefix_len test t → IsUtf8 t → ((b : ℕ) → test b ≡ true → b < 128) → IsCharBoundary t n
cut_behind test t zero h utf8 ascii = IsCharBoundary-start t utf8
cut_behind test t (suc n) h utf8 ascii =
    let last : n + 1 ≡ suc n = omega arith in
    subst (IsCharBoundary t) last (IsCharBoundary-after_ascii t n utf8 (omega (arith, prefix_len-le-length test t)) (ascii _ (prefix_len_passes test t n 0 (omega arith))))

white_ascii : (b : ℕ) → is_white b ≡ true → b < 128
white_ascii b h = grind (arith, nat_tests)

pub cut_behind_white : (t : List ℕ) → IsUtf8 t → IsCharBoundary t (prefix_len is_white t)
cut_behind_white t utf8 = cut_behind is_white t (prefix_len is_white t) (omega arith) utf8 white_ascii

-- where all that fail the test are ASCII, the text may be cut before the first of them
pub cut_before : (test : ℕ → Bool) (t : List ℕ) → ((b : ℕ) → test b ≡ false → b < 128) → IsCharBoundary t (prefix_len test t)
cut_before test t ascii =
    elim (cases_lt (prefix_len test t) (length t)) [
      | inl within ↦ IsCharBoundary-before_ascii t _ within (ascii _ (prefix_len_stops test t 0 within))
      | inr past ↦ subst (IsCharBoundary t) (omega (arith, prefix_len-le-length test t)) (IsCharBoundary-end t)
    ]

pub skip_white-drop : (t : List ℕ) → drop (prefix_len is_white t) t ≡ skip_white t
skip_white-drop [] = refl
skip_white-drop (b ∷ t) = by (is_white b) refl (skip_white-drop t) where
  by : (w : Bool) → is_white b ≡ w → drop (prefix_len is_white t) t ≡ skip_white t → drop (prefix_len is_white (b ∷ t)) (b ∷ t) ≡ skip_white (b ∷ t)
  by true e more = let one : 1 + prefix_len is_white t ≡ suc (prefix_len is_white t) = omega arith in rw (skip_white, e, one) more
  by false e more = rw (skip_white, e) refl

pub skip_white-length : (t : List ℕ) → length (skip_white t) ≤ length t
skip_white-length t = rw (← skip_white-drop t) (omega (arith, length-drop {A = ℕ}))

-- ---- the end

is_empty-middle : (w : List ℕ) (b : ℕ) (t : List ℕ) → is_empty (w ++ b ∷ t) ≡ false
is_empty-middle [] b t = refl
is_empty-middle (x ∷ w) b t = refl

-- what stands up to a byte that is no white space stays
pub trim_end-middle : (w : List ℕ) (b : ℕ) (t : List ℕ) → is_white b ≡ false → trim_end (w ++ b ∷ t) ≡ w ++ b ∷ trim_end t
trim_end-middle [] b t h = rw h refl
trim_end-middle (x ∷ w) b t h = rw (trim_end-middle w b t h, is_empty-middle w b (trim_end t), and_right (is_white x) false refl) refl

-- white space at the end goes
pub trim_end-white : (t : List ℕ) (b : ℕ) → is_white b ≡ true → trim_end (t ++ b ∷ []) ≡ trim_end t
trim_end-white [] b h = rw h refl
trim_end-white (x ∷ t) b h = rw (trim_end-white t b h) refl

pub trim_end-last : (t : List ℕ) (n : ℕ) → 0 < n → n ≤ length t → is_white (get_or t (n - 1) 0) ≡ true → trim_end (take (n - 1) t) ≡ trim_end (take n t)
trim_end-last t zero some within h = absurd (omega arith)
trim_end-last t (suc n) some within h =
    let less : suc n - 1 ≡ n = omega arith in
    rw (less, take-suc t n 0 within) (sym (trim_end-white (take n t) (get_or t n 0) (rw less at h)))

pub trim_end-done : (t : List ℕ) (n : ℕ) → n ≤ length t → (0 < n → is_white (get_or t (n - 1) 0) ≡ false) → trim_end (take n t) ≡ take n t
trim_end-done t zero within h = refl
trim_end-done t (suc n) within h =
    let less : suc n - 1 ≡ n = omega arith in
    let last = rw less at (h (omega arith)) in
    rw (take-suc t n 0 within) (trim_end-middle (take n t) (get_or t n 0) [] last)

-- a text may be cut before white space
pub cut_before_white : (t : List ℕ) (n : ℕ) → n < length t → is_white (get_or t n 0) ≡ true → IsCharBoundary t n
cut_before_white t n within h = IsCharBoundary-before_ascii t n within (white_ascii _ h)
