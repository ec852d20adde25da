-- The text of a block scalar, line by line.
use Rattle.std.proofs.Common.{◌≡◌, ◌≢◌, ℕ, zero, suc, ◌+◌, ◌-◌, Bool, true, false, ◌||◌, if◌then◌else◌, List, [], ◌∷◌, ◌++◌, length, refl, sym, ap, ◌∙◌, arith, append_assoc, append-nil}
use Rattle.yaml_spec.specs.Bytes.{line_feed, is_empty}
use Rattle.yaml_spec.specs.Folding.{breaks}
use Rattle.yaml_spec.specs.Blocks.{Chomp, drop_empty_end, literal, folded, folded_rest, starts_white, end_breaks, block_text}
use Rattle.yaml_blocks.specs.declared.blocktext.Break.{Break}
use Rattle.yaml_blocks.specs.declared.blocktext.Break.TheVariants as break
use Rattle.yaml_blocks.specs.BlockLines.{is_start, before, break_after, rest_text}

pub breaks-more : (n : ℕ) → breaks n ++ line_feed ∷ [] ≡ breaks (suc n)
breaks-more zero = refl
breaks-more (suc n) = ap (λ t. line_feed ∷ t) (breaks-more n)

breaks-then : (n : ℕ) (t : List ℕ) → breaks n ++ line_feed ∷ t ≡ breaks (suc n) ++ t
breaks-then n t = sym (append_assoc (breaks n) (line_feed ∷ []) t) ∙ ap (λ x. x ++ t) (breaks-more n)

-- ---- the lines up to the last with content

-- the empty lines at the end, where so many came before
ends_empty : ℕ → List (List ℕ) → ℕ
ends_empty e [] = e
ends_empty e ([] ∷ ts) = ends_empty (suc e) ts
ends_empty e ((b ∷ bs) ∷ ts) = ends_empty 0 ts

ends-empty : (e : ℕ) (ts : List (List ℕ)) → ends_empty e ts ≡ (if is_empty (drop_empty_end ts) then e + length ts else length ts - length (drop_empty_end ts))
unfolding ends_empty
ends-empty e [] = omega arith
ends-empty e ([] ∷ ts) = by (drop_empty_end ts) refl (ends-empty (suc e) ts) where
  by : (ks : List (List ℕ)) → drop_empty_end ts ≡ ks → ends_empty (suc e) ts ≡ (if is_empty (drop_empty_end ts) then suc e + length ts else length ts - length (drop_empty_end ts))
      → ends_empty e ([] ∷ ts) ≡ (if is_empty (drop_empty_end ([] ∷ ts)) then e + length ([] ∷ ts) else length ([] ∷ ts) - length (drop_empty_end ([] ∷ ts)))
  by [] h more = rw h (rw h at more ∙ omega arith)
  by (k ∷ ks) h more = rw h (rw h at more ∙ omega arith)
ends-empty e ((b ∷ bs) ∷ ts) = by (drop_empty_end ts) refl (ends-empty 0 ts) where
  by : (ks : List (List ℕ)) → drop_empty_end ts ≡ ks → ends_empty 0 ts ≡ (if is_empty (drop_empty_end ts) then 0 + length ts else length ts - length (drop_empty_end ts))
      → ends_empty 0 ts ≡ length ((b ∷ bs) ∷ ts) - suc (length (drop_empty_end ts))
  by [] h more = rw h (rw h at more ∙ omega arith)
  by (k ∷ ks) h more = rw h (rw h at more ∙ omega arith)

ends-none : (ts : List (List ℕ)) → ends_empty 0 ts ≡ length ts - length (drop_empty_end ts)
ends-none ts = by (drop_empty_end ts) refl (ends-empty 0 ts) where
  by : (ks : List (List ℕ)) → drop_empty_end ts ≡ ks → ends_empty 0 ts ≡ (if is_empty (drop_empty_end ts) then 0 + length ts else length ts - length (drop_empty_end ts)) → ends_empty 0 ts ≡ length ts - length (drop_empty_end ts)
  by [] h more = rw h (rw h at more ∙ omega arith)
  by (k ∷ ks) h more = rw h (rw h at more)

-- ---- behind a line with content

-- the break behind a line that begins with white space or not
kind : Bool → Bool → Break
kind is_literal white = if is_literal || white then break.Kept else break.Folded

-- what these lines add behind it
after_text : Bool → Bool → ℕ → List (List ℕ) → List ℕ
after_text true white e [] = []
after_text true white e (k ∷ ks) = breaks (suc e) ++ literal (k ∷ ks)
after_text false white e ks = folded_rest white e ks

after-nil : (is_literal white : Bool) (e : ℕ) → after_text is_literal white e [] ≡ []
unfolding after_text
after-nil true white e = refl
after-nil false white e = refl

after-empty : (is_literal white : Bool) (e : ℕ) (k : List ℕ) (ks : List (List ℕ)) → after_text is_literal white e ([] ∷ k ∷ ks) ≡ after_text is_literal white (suc e) (k ∷ ks)
unfolding after_text
after-empty true white e k ks = breaks-then (suc e) (literal (k ∷ ks))
after-empty false white e k ks = refl

after-line : (is_literal white : Bool) (e b : ℕ) (bs : List ℕ) (ks : List (List ℕ))
    → after_text is_literal white e ((b ∷ bs) ∷ ks) ≡ before (kind is_literal white) (starts_white (b ∷ bs)) e ++ ((b ∷ bs) ++ after_text is_literal (starts_white (b ∷ bs)) 0 ks)
unfolding after_text kind
after-line true white e b bs [] = rw (append-nil (b ∷ bs)) refl
after-line true white e b bs (k ∷ ks) = refl
after-line false true e b bs ks = refl
after-line false false e b bs ks = refl

not_start : (is_literal white : Bool) → is_start (kind is_literal white) ≡ false
unfolding kind
not_start true white = refl
not_start false true = refl
not_start false false = refl

rest-after : (is_literal white : Bool) (chomp : Chomp) (e : ℕ) (ts : List (List ℕ))
    → rest_text is_literal chomp (kind is_literal white) e ts ≡ after_text is_literal white e (drop_empty_end ts) ++ end_breaks chomp false (ends_empty e ts)
unfolding ends_empty kind
rest-after is_literal white chomp e [] = rw (not_start is_literal white, after-nil is_literal white e) refl
rest-after is_literal white chomp e ([] ∷ ts) = rest-after is_literal white chomp (suc e) ts ∙ ap (λ t. t ++ end_breaks chomp false (ends_empty (suc e) ts)) (by (drop_empty_end ts) refl) where
  by : (ks : List (List ℕ)) → drop_empty_end ts ≡ ks → after_text is_literal white (suc e) (drop_empty_end ts) ≡ after_text is_literal white e (drop_empty_end ([] ∷ ts))
  by [] h = rw (h, after-nil is_literal white (suc e), after-nil is_literal white e) refl
  by (k ∷ ks) h = rw h (sym (after-empty is_literal white e k ks))
rest-after is_literal white chomp e ((b ∷ bs) ∷ ts) =
    ap (λ x. before (kind is_literal white) (starts_white (b ∷ bs)) e ++ ((b ∷ bs) ++ x)) (rest-after is_literal (starts_white (b ∷ bs)) chomp 0 ts)
    ∙ ap (λ x. before (kind is_literal white) (starts_white (b ∷ bs)) e ++ x) (sym (append_assoc (b ∷ bs) (after_text is_literal (starts_white (b ∷ bs)) 0 (drop_empty_end ts)) (end_breaks chomp false (ends_empty 0 ts))))
    ∙ sym (append_assoc (before (kind is_literal white) (starts_white (b ∷ bs)) e) ((b ∷ bs) ++ after_text is_literal (starts_white (b ∷ bs)) 0 (drop_empty_end ts)) (end_breaks chomp false (ends_empty 0 ts)))
    ∙ ap (λ t. t ++ end_breaks chomp false (ends_empty 0 ts)) (sym (after-line is_literal white e b bs (drop_empty_end ts)))

-- ---- from the start

styled : Bool → List (List ℕ) → List ℕ
styled is_literal ks = if is_literal then literal ks else folded ks

start_text : Bool → ℕ → List (List ℕ) → List ℕ
start_text is_literal n [] = []
start_text is_literal n (k ∷ ks) = breaks n ++ styled is_literal (k ∷ ks)

start-empty : (is_literal : Bool) (n : ℕ) (k : List ℕ) (ks : List (List ℕ)) → start_text is_literal n ([] ∷ k ∷ ks) ≡ start_text is_literal (suc n) (k ∷ ks)
unfolding start_text styled
start-empty true n k ks = breaks-then n (literal (k ∷ ks))
start-empty false n k ks = breaks-then n (folded (k ∷ ks))

start-line : (is_literal : Bool) (n b : ℕ) (bs : List ℕ) (ks : List (List ℕ)) → start_text is_literal n ((b ∷ bs) ∷ ks) ≡ breaks n ++ ((b ∷ bs) ++ after_text is_literal (starts_white (b ∷ bs)) 0 ks)
unfolding start_text styled after_text
start-line true n b bs [] = rw (append-nil (b ∷ bs)) refl
start-line true n b bs (k ∷ ks) = refl
start-line false n b bs ks = refl

after-start : (is_literal : Bool) (t : List ℕ) → break_after is_literal t ≡ kind is_literal (starts_white t)
unfolding kind
after-start is_literal t = refl

rest-start : (is_literal : Bool) (chomp : Chomp) (n : ℕ) (ts : List (List ℕ))
    → rest_text is_literal chomp break.Start n ts ≡ start_text is_literal n (drop_empty_end ts) ++ end_breaks chomp (is_empty (drop_empty_end ts)) (ends_empty n ts)
unfolding ends_empty start_text kind
rest-start is_literal chomp n [] = refl
rest-start is_literal chomp n ([] ∷ ts) = by (drop_empty_end ts) refl (rest-start is_literal chomp (suc n) ts) where
  by : (ks : List (List ℕ)) → drop_empty_end ts ≡ ks → rest_text is_literal chomp break.Start (suc n) ts ≡ start_text is_literal (suc n) (drop_empty_end ts) ++ end_breaks chomp (is_empty (drop_empty_end ts)) (ends_empty (suc n) ts)
      → rest_text is_literal chomp break.Start (suc n) ts ≡ start_text is_literal n (drop_empty_end ([] ∷ ts)) ++ end_breaks chomp (is_empty (drop_empty_end ([] ∷ ts))) (ends_empty (suc n) ts)
  by [] h more = rw h (rw h at more)
  by (k ∷ ks) h more = rw h (rw h at more ∙ ap (λ t. t ++ end_breaks chomp false (ends_empty (suc n) ts)) (sym (start-empty is_literal n k ks)))
rest-start is_literal chomp n ((b ∷ bs) ∷ ts) =
    ap (λ x. breaks n ++ ((b ∷ bs) ++ x)) (rest-after is_literal (starts_white (b ∷ bs)) chomp 0 ts)
    ∙ ap (λ x. breaks n ++ x) (sym (append_assoc (b ∷ bs) (after_text is_literal (starts_white (b ∷ bs)) 0 (drop_empty_end ts)) (end_breaks chomp false (ends_empty 0 ts))))
    ∙ sym (append_assoc (breaks n) ((b ∷ bs) ++ after_text is_literal (starts_white (b ∷ bs)) 0 (drop_empty_end ts)) (end_breaks chomp false (ends_empty 0 ts)))
    ∙ ap (λ t. t ++ end_breaks chomp false (ends_empty 0 ts)) (sym (start-line is_literal n b bs (drop_empty_end ts)))

start-none : (is_literal : Bool) (ks : List (List ℕ)) → start_text is_literal 0 ks ≡ styled is_literal ks
unfolding start_text styled
start-none true [] = refl
start-none false [] = refl
start-none is_literal (k ∷ ks) = refl

-- line by line the text is that of the lines
pub block_text-rest : (is_literal : Bool) (chomp : Chomp) (ts : List (List ℕ)) → rest_text is_literal chomp break.Start 0 ts ≡ block_text is_literal chomp ts
unfolding block_text styled
block_text-rest is_literal chomp ts = rest-start is_literal chomp 0 ts ∙ rw (start-none is_literal (drop_empty_end ts), ends-none ts) refl

-- ---- one line more

pub rest-empty : (t : List ℕ) (is_literal : Bool) (chomp : Chomp) (b : Break) (e : ℕ) (content : List ℕ) (ts : List (List ℕ)) → length content ≡ 0
    → t ++ rest_text is_literal chomp b e (content ∷ ts) ≡ t ++ rest_text is_literal chomp b (e + 1) ts
rest-empty t is_literal chomp b e [] ts h = let more : e + 1 ≡ suc e = omega arith in rw more refl
rest-empty t is_literal chomp b e (x ∷ xs) ts h = absurd (omega arith)

pub rest-line : (t : List ℕ) (is_literal : Bool) (chomp : Chomp) (b : Break) (e : ℕ) (content : List ℕ) (ts : List (List ℕ)) → length content ≢ 0
    → t ++ rest_text is_literal chomp b e (content ∷ ts) ≡ ((t ++ before b (starts_white content) e) ++ content) ++ rest_text is_literal chomp (break_after is_literal content) 0 ts
rest-line t is_literal chomp b e [] ts h = absurd (h refl)
rest-line t is_literal chomp b e (x ∷ xs) ts h =
    rw (append_assoc (t ++ before b (starts_white (x ∷ xs)) e) (x ∷ xs), append_assoc t (before b (starts_white (x ∷ xs)) e)) refl
