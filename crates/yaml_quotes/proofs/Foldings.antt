-- Folding part by part.
use Rattle.std.proofs.Common.{◌≡◌, ℕ, zero, suc, ◌+◌, ◌<◌, Bool, true, false, not, ◌&&◌, ◌==◌, List, [], ◌∷◌, ◌++◌, length, get_or, drop, map, refl, sym, ap, ◌∙◌, arith, append_assoc, append-nil}
use Rattle.std.proofs.lemmas.Bool.Decides.{nat_tests}
use Rattle.std.proofs.lemmas.List.{drop_more}
use Rattle.yaml_spec.specs.Bytes.{line_feed, space, is_empty}
use Rattle.yaml_spec.specs.Folding.{Part, breaks, is_empty_line, fold_rest, fold_parts, whole_line, Fold}
use Rattle.yaml_quotes.specs.declared.folding.Joint.{Joint}
use Rattle.yaml_quotes.specs.declared.folding.Joint.TheVariants as joint
use Rattle.yaml_quotes.specs.declared.folding.Folded.{Folded}
use Rattle.yaml_quotes.specs.Joining.{added, with_parts, part_of, is_start, glue, joint_after}

pub is_empty-length : (t : List ℕ) → (length t == 0) ≡ is_empty t
is_empty-length [] = refl
is_empty-length (b ∷ t) = grind (arith, nat_tests)

breaks-one : (n : ℕ) → breaks (suc n) ++ breaks 1 ≡ breaks (suc (suc n))
breaks-one zero = refl
breaks-one (suc n) = ap (λ t. line_feed ∷ t) (breaks-one n)

-- breaks may be written before what follows them is known
fold_rest-breaks : (j : Bool) (n : ℕ) (q : Part) (ps : List Part) → fold_rest j (suc n) (q ∷ ps) ≡ breaks (suc n) ++ fold_rest true 0 (q ∷ ps)
fold_rest-breaks j n q [] = refl
fold_rest-breaks j n q (r ∷ ps) = by (is_empty_line q) refl (fold_rest-breaks j (suc n) r ps) (fold_rest-breaks true 0 r ps) where
  by : (v : Bool) → is_empty_line q ≡ v → fold_rest j (suc (suc n)) (r ∷ ps) ≡ breaks (suc (suc n)) ++ fold_rest true 0 (r ∷ ps)
      → fold_rest true 1 (r ∷ ps) ≡ breaks 1 ++ fold_rest true 0 (r ∷ ps)
      → fold_rest j (suc n) (q ∷ r ∷ ps) ≡ breaks (suc n) ++ fold_rest true 0 (q ∷ r ∷ ps)
  by true e more one =
      rw (fold_rest, fold_rest, e, more, one) (ap (λ t. t ++ fold_rest true 0 (r ∷ ps)) (sym (breaks-one n)) ∙ append_assoc (breaks (suc n)) (breaks 1) _)
  by false e more one = rw (fold_rest, fold_rest, e) refl

-- an empty line behind the first part
pub added-break : (t : List ℕ) (j : Joint) (p : List ℕ) (joined : Bool) (next : Part) (ps : List Part) → (not (is_start j) && is_empty_line (part_of p joined)) ≡ true
    → t ++ added j (part_of p joined ∷ next ∷ ps) ≡ (t ++ line_feed ∷ []) ++ added joint.Joined (next ∷ ps)
added-break t joint.Start p joined next ps h = cc
added-break t joint.Break p joined next ps h = rw (h, append_assoc t, fold_rest-breaks false 0 next ps) refl
added-break t joint.Joined p joined next ps h = rw (h, append_assoc t, fold_rest-breaks true 0 next ps) refl

added-after : (joined : Bool) (ps : List Part) → added (joint_after joined) ps ≡ fold_rest joined 0 ps
added-after true ps = refl
added-after false ps = refl

-- any other part
pub added-part : (t : List ℕ) (j : Joint) (p : List ℕ) (joined : Bool) (next : Part) (ps : List Part) → (not (is_start j) && is_empty_line (part_of p joined)) ≡ false
    → t ++ added j (part_of p joined ∷ next ∷ ps) ≡ ((t ++ glue j) ++ p) ++ added (joint_after joined) (next ∷ ps)
unfolding fold_parts
added-part t joint.Start p joined next ps h = rw (append-nil t, added-after, append_assoc t p) refl
added-part t joint.Break p joined next ps h = rw (h, added-after, append_assoc (t ++ space ∷ []) p, append_assoc t (space ∷ [])) refl
added-part t joint.Joined p joined next ps h = rw (h, append-nil t, added-after, append_assoc t p) refl

-- the last part
pub added-last : (t : List ℕ) (j : Joint) (p : List ℕ) → t ++ added j (part_of p false ∷ []) ≡ (t ++ glue j) ++ p
unfolding fold_parts
added-last t joint.Start p = rw (append-nil p, append-nil t) refl
added-last t joint.Break p = rw (append_assoc t (space ∷ []) p) refl
added-last t joint.Joined p = rw (append-nil t) refl

-- ---- the loop over lines

-- what is left: these lines and the last
abbrev pub lines_left : List (List ℕ) → List ℕ → List Part
lines_left ts last = map whole_line ts ++ whole_line last ∷ []

pub Fold-none : (parts : List (List ℕ)) → length parts ≡ 0 → Fold parts ≡ []
unfolding fold_parts
Fold-none [] h = refl
Fold-none (t ∷ ts) h = absurd (omega arith)

lines_left-all : (front : List (List ℕ)) (last : List ℕ) → lines_left front last ≡ map whole_line (front ++ last ∷ [])
lines_left-all [] last = refl
lines_left-all (t ∷ front) last = ap (λ ps. whole_line t ∷ ps) (lines_left-all front last)

pub Fold-start : (folded : Folded) (front : List (List ℕ)) (last : List ℕ) (parts : List (List ℕ)) → ((ps : List Part) → with_parts folded ps ≡ fold_parts ps) → parts ≡ front ++ last ∷ []
    → with_parts folded (lines_left front last) ≡ Fold parts
Fold-start folded front last parts new e = new (lines_left front last) ∙ rw (e, lines_left-all front last) refl

-- where a line is added, what its folding says of any lines behind it holds of those that are left
pub Fold-more : (old new : Folded) (front : List (List ℕ)) (i : ℕ) (last : List ℕ) (whole : List ℕ) → i < length front → with_parts old (lines_left (drop i front) last) ≡ whole
    → ((next : Part) (ps : List Part) → with_parts old (part_of (get_or front i []) false ∷ next ∷ ps) ≡ with_parts new (next ∷ ps))
    → with_parts new (lines_left (drop (i + 1) front) last) ≡ whole
Fold-more old new front i last whole within same add =
    sym (by (drop (i + 1) front)) ∙ rw (drop_more front i [] within) at same where
      by : (ts : List (List ℕ)) → with_parts old (part_of (get_or front i []) false ∷ lines_left ts last) ≡ with_parts new (lines_left ts last)
      by [] = add (whole_line last) []
      by (t ∷ ts) = add (whole_line t) (lines_left ts last)
