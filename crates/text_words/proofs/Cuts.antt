-- Runs at the ends of a text, and where a text may be cut.
use Rattle.std.proofs.Common.{◌≡◌, ℕ, zero, suc, ◌+◌, ◌-◌, ◌<◌, ◌≤◌, ◌⊎◌, inl, inr, Bool, true, false, List, [], ◌∷◌, ◌++◌, length, reverse, get_or, take, drop, IsUtf8, refl, sym, ap, subst, ◌∙◌, arith, length-drop}
use Rattle.std.proofs.lemmas.Bool.{cases_lt}
use Rattle.std.proofs.lemmas.Bool.Decides.{nat_tests}
use Rattle.std.proofs.lemmas.List.{get_or-reverse, length-reverse, reverse-append, take-append-drop}
use Rattle.std.proofs.lemmas.List.Sums.{prefix_len-le-length, prefix_len_passes, prefix_len_stops}
use Rattle.std.proofs.lemmas.Str.{IsCharBoundary-start, IsCharBoundary-end, IsCharBoundary-before_ascii, IsCharBoundary-after_ascii}
use Rattle.std.proofs.Math.Seq.{drop-append_seam, take-append_seam}
use Rattle.std.specs.List.{prefix_len}
use Rattle.std.specs.Str.{IsCharBoundary}
use Rattle.text_spec.specs.Classes.{behind, front}
use Rattle.text_words.specs.declared.runs.Run.{Run}
use Rattle.text_words.specs.declared.runs.Run.TheVariants as run
use Rattle.text_words.specs.Tests.{run_test}

-- the two parts of a text at the end of a run
pub record Parts (f : ℕ → Bool) (t : List ℕ) : Type 0 where
  pub part : take (prefix_len f t) t ≡ front f t
  pub rest : drop (prefix_len f t) t ≡ behind f t

pub run_parts : (f : ℕ → Bool) (t : List ℕ) → Parts f t
run_parts f [] = record { part = refl; rest = refl }
run_parts f (b ∷ t) = by (f b) refl (run_parts f t) where
  by : (v : Bool) → f b ≡ v → Parts f t → Parts f (b ∷ t)
  by true e more =
      let one : 1 + prefix_len f t ≡ suc (prefix_len f t) = omega arith in
      record { part = rw (e, one) (ap (λ l. b ∷ l) more.part); rest = rw (e, one) more.rest }
  by false e more = record { part = rw e refl; rest = rw e refl }

-- the two parts of a text where a run at its end begins
pub record PartsBack (f : ℕ → Bool) (t : List ℕ) (n : ℕ) : Type 0 where
  pub part : reverse (drop (length t - n) t) ≡ front f (reverse t)
  pub rest : reverse (take (length t - n) t) ≡ behind f (reverse t)

pub run_parts_back : (f : ℕ → Bool) (t : List ℕ) (n : ℕ) → n ≡ prefix_len f (reverse t) → n ≤ length t → PartsBack f t n
run_parts_back f t n e within =
    let last = reverse (drop (length t - n) t) in
    let more = reverse (take (length t - n) t) in
    let whole : last ++ more ≡ reverse t = sym (reverse-append (take (length t - n) t) (drop (length t - n) t)) ∙ ap reverse (take-append-drop (length t - n) t) in
    let len : length last ≡ prefix_len f (reverse t) = omega (arith, length-reverse (drop (length t - n) t), length-drop (length t - n) t) in
    record {
      part = sym (take-append_seam last more) ∙ (λ i. take (len i) (whole i)) ∙ (run_parts f (reverse t)).part;
      rest = sym (drop-append_seam last more) ∙ (λ i. drop (len i) (whole i)) ∙ (run_parts f (reverse t)).rest;
    }

-- ---- where a text may be cut

-- beside an ASCII byte
cut_beside : (t : List ℕ) (n : ℕ) → IsUtf8 t → n ≤ length t → ((k : ℕ) → n ≡ suc k → n < length t → (get_or t k 0 < 128) ⊎ (get_or t n 0 < 128)) → IsCharBoundary t n
cut_beside t zero utf8 h ascii = IsCharBoundary-start t utf8
cut_beside t (suc k) utf8 h ascii =
    elim (cases_lt (suc k) (length t)) [
      | inl within ↦ elim (ascii k refl within) [
        | inl before ↦ let more : k + 1 ≡ suc k = omega arith in subst (IsCharBoundary t) more (IsCharBoundary-after_ascii t k utf8 (omega arith) before)
        | inr behind ↦ IsCharBoundary-before_ascii t (suc k) within behind
      ]
      | inr past ↦ let all : length t ≡ suc k = omega arith in subst (IsCharBoundary t) all (IsCharBoundary-end t)
    ]

-- of a byte that passes and one that fails, one is ASCII
abbrev IsApart : (ℕ → Bool) → Type 0
IsApart f = (x y : ℕ) → f x ≡ true → f y ≡ false → (x < 128) ⊎ (y < 128)

apart : (r : Run) → IsApart (run_test r)
apart run.Space x y h k = inl (grind (arith, nat_tests))
apart run.Word x y h k = inr (grind (arith, nat_tests))
apart run.Line x y h k = inr (grind (arith, nat_tests))

either : {A B : Type 0} → A ⊎ B → B ⊎ A
either (inl a) = inr a
either (inr b) = inl b

pub cut_front : (r : Run) (t : List ℕ) → IsUtf8 t → IsCharBoundary t (prefix_len (run_test r) t)
cut_front r t utf8 =
    let f = run_test r in
    cut_beside t (prefix_len f t) utf8 (prefix_len-le-length f t)
    (λ k e within. apart r (get_or t k 0) (get_or t (prefix_len f t) 0) (prefix_len_passes f t k 0 (omega arith)) (prefix_len_stops f t 0 within))

pub cut_back : (r : Run) (t : List ℕ) (n : ℕ) → n ≡ prefix_len (run_test r) (reverse t) → IsUtf8 t → IsCharBoundary t (length t - n)
cut_back r t n e utf8 =
    let f = run_test r in
    let len : length (reverse t) ≡ length t = length-reverse t in
    let bound : prefix_len f (reverse t) ≤ length (reverse t) = prefix_len-le-length f (reverse t) in
    cut_beside t (length t - n) utf8 (omega arith)
    (λ k is within.
    let last : length t - 1 - (n - 1) ≡ length t - n = omega arith in
    let next : length t - 1 - n ≡ k = omega arith in
    either (apart r (get_or t (length t - n) 0) (get_or t k 0)
    (ap f (ap (λ j. get_or t j 0) (sym last) ∙ sym (get_or-reverse t (n - 1) 0 (omega arith))) ∙ prefix_len_passes f (reverse t) (n - 1) 0 (omega arith))
    (ap f (ap (λ j. get_or t j 0) (sym next) ∙ sym (get_or-reverse t n 0 (omega arith)) ∙ ap (λ j. get_or (reverse t) j 0) e) ∙ prefix_len_stops f (reverse t) 0 (omega arith))))
