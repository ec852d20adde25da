-- The lines below a plain scalar, one by one.
use Rattle.std.proofs.Common.{◌≡◌, ℕ, suc, ◌+◌, ◌-◌, ◌<◌, ◌≤◌, Bool, true, false, List, [], ◌∷◌, ◌++◌, length, get_or, drop, map as each, replicate, sum_by, Some, None, Result, Ok, Err, refl, sym, ap, ◌∙◌, arith, length-drop, append_assoc, drop_of_length-le}
use Rattle.std.proofs.lemmas.List.{drop_more}
use Rattle.std.proofs.lemmas.List.Sums.{sum_by-cons}
use Rattle.ytt_base.specs.declared.fault.FaultKind.TheVariants as kind
use Rattle.ytt_base.specs.declared.line.Line as held
use Rattle.ytt_base.specs.Outcomes.{Outcome, ◌>>=◌, and_then}
use Rattle.yaml_spec.specs.Bytes.{is_blank, skip_white}
use Rattle.yaml_spec.specs.Flow.{size}
use Rattle.yaml_spec.specs.Folding.{Part, Fold, fold_parts, whole_line}
use Rattle.yaml_spec.specs.Held.{plain_line, plain_lines}
use Rattle.yaml_spec.specs.Lines.{Line}
use Rattle.yaml_spec.specs.Plain.{part, behind, hangs, breaks_scalar, ends_scalar, further, start_fault, typed, plain_lines as read_lines}
use Rattle.yaml_spec.specs.Scalars.{plain}
use Rattle.ytt_base.specs.Trees.{Scalar, Tree, scalar}
use Rattle.ytt_base.specs.declared.fault.Place.{Place}
use Rattle.ytt_base.specs.declared.fault.FaultKind.{FaultKind}
use Rattle.yaml_plain.specs.Trees.{as_tree}
use Rattle.yaml_spec.specs.Quotes.{Cursor}
use Rattle.yaml_spec.specs.Refusals.{refused}
use Rattle.yaml_quotes.specs.declared.folding.Folded.{Folded}
use Rattle.yaml_quotes.specs.Joining.{with_parts}
use Rattle.yaml_text.proofs.Whites.{skip_white-length}
use Rattle.yaml_plain.specs.Lines.{Further, empty, ends, wrong, goes_on, further_line, further_from, text_from, typed_text, typed_from}

-- a place behind a part of this line
abbrev pub behind_part : Line → List ℕ → List Line → Cursor
behind_part l b ls = record { place = l.place; text = b; below = ls }

-- the parts with empty lines and a part before them
abbrev with_part : ℕ → List ℕ → List (List ℕ) × Cursor → Outcome (List (List ℕ) × Cursor)
with_part n p r = Ok ((replicate n [] ++ p ∷ []) ++ r.0, r.1)

-- what a scalar goes on with, by what a line below it is
abbrev goes : Bool → ℕ → ℕ → Cursor → Line → List Line → Further → Outcome (List (List ℕ) × Cursor)
goes in_flow least n stop l ls empty = further in_flow least (suc n) stop ls
goes in_flow least n stop l ls ends = Ok ([], stop)
goes in_flow least n stop l ls wrong = refused kind.YamlForm l.place
goes in_flow least n stop l ls (goes_on p b) =
    elim (is_blank b) [
      | true ↦ further in_flow least 0 (behind_part l b ls) ls >>= with_part n p
      | false ↦ Ok (replicate n [] ++ p ∷ [], behind_part l b ls)
    ]

further-by : (in_flow : Bool) (least n : ℕ) (stop : Cursor) (l : Line) (ls : List Line) → further in_flow least n stop (l ∷ ls) ≡ goes in_flow least n stop l ls (further_line in_flow least l.text)
unfolding further
further-by in_flow least n stop l ls = by (is_blank l.text) (ends_scalar in_flow least l.text) (breaks_scalar in_flow (skip_white l.text)) refl refl refl where
  by : (b e w : Bool) → is_blank l.text ≡ b → ends_scalar in_flow least l.text ≡ e → breaks_scalar in_flow (skip_white l.text) ≡ w
      → further in_flow least n stop (l ∷ ls) ≡ goes in_flow least n stop l ls (further_line in_flow least l.text)
  by true e w p q r = rw (further, further_line, p) refl
  by false true w p q r = rw (further, further_line, p, q) refl
  by false false true p q r = rw (further, further_line, p, q, r) refl
  by false false false p q r = rw (further, further_line, p, q, r) refl

-- what is behind a part is no longer than its line
further_line-length : (in_flow : Bool) (least : ℕ) (t p b : List ℕ) → further_line in_flow least t ≡ goes_on p b → length b ≤ length t
further_line-length in_flow least t p b h = by (is_blank t) (ends_scalar in_flow least t) (breaks_scalar in_flow (skip_white t)) refl refl refl h where
  by : (v e w : Bool) → is_blank t ≡ v → ends_scalar in_flow least t ≡ e → breaks_scalar in_flow (skip_white t) ≡ w → further_line in_flow least t ≡ goes_on p b → length b ≤ length t
  by true e w x y z g = cc
  by false true w x y z g = cc
  by false false true x y z g = cc
  by false false false x y z g =
      let same : behind in_flow (skip_white t) ≡ b = cc in
      rw (← same) (omega (arith, length-drop {A = ℕ}, skip_white-length t))

-- ---- the parts so far

-- the text so far with the last part and those that follow
abbrev pub folded_from : Folded → List ℕ → List (List ℕ) × Cursor → Outcome (List ℕ × Cursor)
folded_from folded last r = Ok (with_parts folded (each whole_line (last ∷ r.0)), r.1)

abbrev pub bytes_of : List Line → ℕ
bytes_of ls = sum_by (λ (l : Line). length l.text) ls

bytes-more : (l : Line) (ls : List Line) → bytes_of (l ∷ ls) ≡ length l.text + bytes_of ls
bytes-more l ls = sum_by-cons (λ (k : Line). length k.text) l ls

-- At these lines, behind so many empty ones, the parts so far are folded but the last, and what is left gives what the whole scalar gives.
pub record IsGoing (in_flow : Bool) (least : ℕ) (first : List ℕ) (here : Cursor) (n : ℕ) (folded : Folded) (last : List ℕ) (end : Cursor) (rest : List Line) : Type 0 where
  pub same : (further in_flow least n end rest >>= folded_from folded last) ≡ further_from in_flow least first here
  pub within : size end ≤ size here
  pub left : bytes_of rest < size here

pub going-start : (in_flow : Bool) (least : ℕ) (first : List ℕ) (here : Cursor) (folded : Folded) → ((ps : List Part) → with_parts folded ps ≡ fold_parts ps)
    → IsGoing in_flow least first here 0 folded first here here.below
unfolding further_from
going-start in_flow least first here folded new = record {
  same = by (further in_flow least 0 here here.below);
  within = omega arith;
  left = omega arith;
} where
  by : (o : Outcome (List (List ℕ) × Cursor)) → (o >>= folded_from folded first) ≡ ◌>>=◌ {B = List ℕ × Cursor} o (λ r. Ok (Fold (first ∷ r.0), r.1))
  by (Ok r) = ap (λ (t : List ℕ). Ok (t, r.1)) (new (each whole_line (first ∷ r.0)))
  by (Err e) = refl

pub going-over : {in_flow : Bool} {least : ℕ} {first : List ℕ} {here : Cursor} {n : ℕ} {folded : Folded} {last : List ℕ} {end : Cursor} → IsGoing in_flow least first here n folded last end []
    → further_from in_flow least first here ≡ Ok (with_parts folded (whole_line last ∷ []), end)
unfolding further
going-over g = sym g.same

module _ {in_flow : Bool} {least : ℕ} {first : List ℕ} {here : Cursor} {n : ℕ} {folded : Folded} {last : List ℕ} {end : Cursor} (l : Line) (ls : List Line) (g : IsGoing in_flow least first here n folded last end (l ∷ ls)) where
  at_line : (f : Further) → further_line in_flow least l.text ≡ f → (goes in_flow least n end l ls f >>= folded_from folded last) ≡ further_from in_flow least first here
  at_line f e = rw (further-by in_flow least n end l ls, e) at g.same

  pub going-empty : further_line in_flow least l.text ≡ empty → IsGoing in_flow least first here (suc n) folded last end ls
  going-empty e = record { same = at_line empty e; within = g.within; left = omega (arith, g.left, bytes-more l ls) }

  pub going-ends : further_line in_flow least l.text ≡ ends → further_from in_flow least first here ≡ Ok (with_parts folded (whole_line last ∷ []), end)
  going-ends e = sym (at_line ends e)

  pub going-wrong : further_line in_flow least l.text ≡ wrong → further_from in_flow least first here ≡ refused kind.YamlForm l.place
  going-wrong e = sym (at_line wrong e)

  -- the line goes on with this part, behind which stands this
  module _ (p b : List ℕ) (e : further_line in_flow least l.text ≡ goes_on p b) where
    pub behind-within : size (behind_part l b ls) ≤ size here
    behind-within = omega (arith, further_line-length in_flow least l.text p b e, bytes-more l ls, g.left)

    -- the part before it is folded, with the empty lines between
    module _ (new : Folded) (add : (next : List ℕ) (ps : List (List ℕ)) → with_parts folded (each whole_line (last ∷ (replicate n [] ++ next ∷ ps))) ≡ with_parts new (each whole_line (next ∷ ps))) where
      pub going-last : is_blank b ≡ false → further_from in_flow least first here ≡ Ok (with_parts new (whole_line p ∷ []), behind_part l b ls)
      going-last v = sym (rw (v, goes) at (at_line (goes_on p b) e)) ∙ ap (λ (t : List ℕ). Ok (t, behind_part l b ls)) (add p [])

      pub going-more : is_blank b ≡ true → IsGoing in_flow least first here 0 new p (behind_part l b ls) ls
      going-more v = record {
        same = by (further in_flow least 0 (behind_part l b ls) ls) ∙ rw (v, goes) at (at_line (goes_on p b) e);
        within = behind-within;
        left = omega (arith, g.left, bytes-more l ls);
      } where
        by : (o : Outcome (List (List ℕ) × Cursor)) → (o >>= folded_from new p) ≡ (o >>= with_part n p >>= folded_from folded last)
        by (Ok r) =
            let same : with_parts folded (each whole_line (last ∷ ((replicate n [] ++ p ∷ []) ++ r.0))) ≡ with_parts new (each whole_line (p ∷ r.0)) = rw (append_assoc (replicate n []) (p ∷ []) r.0) (add p r.0) in
            ap (λ (t : List ℕ). Ok (t, r.1)) (sym same)
        by (Err f) = refl

-- ---- a part and the empty lines behind it

-- the text is the same where a part is folded, and another one follows
pub add-one : (old new : Folded) (p : List ℕ) → ((next : Part) (ps : List Part) → with_parts old (whole_line p ∷ next ∷ ps) ≡ with_parts new (next ∷ ps))
    → (ts : List (List ℕ)) (next : List ℕ) (ps : List (List ℕ)) → with_parts old (each whole_line (p ∷ (ts ++ next ∷ ps))) ≡ with_parts new (each whole_line (ts ++ next ∷ ps))
add-one old new p add [] next ps = add (whole_line next) (each whole_line ps)
add-one old new p add (t ∷ ts) next ps = add (whole_line t) (each whole_line (ts ++ next ∷ ps))

-- one empty line of those that are left
pub one-less : (n k : ℕ) → k < n → replicate {A = List ℕ} (n - k) [] ≡ [] ∷ replicate (n - (k + 1)) []
one-less n k h = let more : n - k ≡ suc (n - (k + 1)) = omega arith in rw more refl

-- ---- lines that are left

-- the line at an index, and those below it
pub lines-at : (lines : List held.Line) (at : ℕ) (l : held.Line) → at < length lines → l ≡ get_or lines at l → plain_lines (drop at lines) ≡ plain_line l ∷ plain_lines (drop (at + 1) lines)
lines-at lines at l within e = rw (drop_more lines at l within, ← e) refl

pub lines-over : (lines : List held.Line) (at : ℕ) → length lines ≤ at → plain_lines (drop at lines) ≡ []
lines-over lines at past = rw (drop_of_length-le lines past) refl

-- ---- the whole scalar

pub plain_lines-fault : (in_flow : Bool) (least : ℕ) (c : Cursor) (k : FaultKind) → start_fault in_flow c.text ≡ Some k → and_then as_tree (read_lines in_flow least c) ≡ refused k c.place
unfolding read_lines
plain_lines-fault in_flow least c k h = rw (h, read_lines) refl

pub plain_lines-hangs : (in_flow : Bool) (least : ℕ) (c : Cursor) → start_fault in_flow c.text ≡ None → hangs in_flow c.text ≡ true → and_then as_tree (read_lines in_flow least c) ≡ refused kind.YamlForm c.place
unfolding read_lines
plain_lines-hangs in_flow least c h v = rw (h, v, read_lines) refl

typed-tree : (p : Place) (r : Result Scalar FaultKind) (c : Cursor) → and_then as_tree (typed p r >>= (λ s. Ok (s, c))) ≡ ◌>>=◌ {B = Tree × Cursor} (typed p r >>= (λ s. Ok (scalar s))) (λ t. Ok (t, c))
typed-tree p (Ok s) c = refl
typed-tree p (Err k) c = refl

-- the scalar of a text
abbrev scalar_from : Place → List ℕ → List (List ℕ) × Cursor → Outcome (Scalar × Cursor)
scalar_from p first r = typed p (plain (Fold (first ∷ r.0))) >>= (λ s. Ok (s, r.1))

further-tree : (p : Place) (first : List ℕ) (o : Outcome (List (List ℕ) × Cursor)) → and_then as_tree (o >>= scalar_from p first) ≡ (◌>>=◌ {B = List ℕ × Cursor} o (λ r. Ok (Fold (first ∷ r.0), r.1)) >>= typed_text p)
further-tree p first (Ok r) = typed-tree p (plain (Fold (first ∷ r.0))) r.1
further-tree p first (Err e) = refl

pub plain_lines-typed : (in_flow : Bool) (least : ℕ) (c : Cursor) → start_fault in_flow c.text ≡ None → hangs in_flow c.text ≡ false
    → and_then as_tree (read_lines in_flow least c) ≡ typed_from in_flow least c.place (part in_flow c.text) (record c { text = behind in_flow c.text })
unfolding read_lines further_from
plain_lines-typed in_flow least c h v = by (is_blank (behind in_flow c.text)) refl where
  by : (b : Bool) → is_blank (behind in_flow c.text) ≡ b → and_then as_tree (read_lines in_flow least c) ≡ typed_from in_flow least c.place (part in_flow c.text) (record c { text = behind in_flow c.text })
  by true e = rw (read_lines, h, v, e, text_from) (further-tree c.place (part in_flow c.text) (further in_flow least 0 (record c { text = behind in_flow c.text }) c.below))
  by false e = rw (read_lines, h, v, e, text_from) (typed-tree c.place (plain (part in_flow c.text)) (record c { text = behind in_flow c.text }))
