-- The lines of a string: where one ends, and how many breaks stand at the end.
use Rattle.std.proofs.Common.{◌≡◌, ◌≢◌, ℕ, suc, ◌+◌, ◌<◌, Bool, true, false, not, ◌&&◌, ◌==◌, if◌then◌else◌, List, [], ◌∷◌, ◌++◌, length, get_or, Option, Some, None, Bor, MatchOption, IfSome, refl, ap, ◌∙◌, arith, ne_eqb}
use Rattle.std.proofs.lemmas.Bool.Decides.{nat_tests}
use Rattle.std.proofs.lemmas.List.{length-append}
use Rattle.yaml_spec.specs.Bytes.{line_feed, is_empty, is_white, first}
use Rattle.yaml_spec.specs.Lines.{start_line}
use Rattle.yaml_spec.specs.Text.{pieces, final_breaks, are_trimmed, last}

-- ---- the first line

-- no break stands in the text
abbrev pub NoBreak : List ℕ → Type 0
NoBreak bs = (i : ℕ) → i < length bs → get_or bs i 0 ≢ 10

no_first : (b : ℕ) (bs : List ℕ) → NoBreak (b ∷ bs) → (b == line_feed) ≡ false
no_first b bs h = ne_eqb b 10 (h 0 (omega arith))

no_more : (b : ℕ) (bs : List ℕ) → NoBreak (b ∷ bs) → NoBreak bs
no_more b bs h = λ i k. h (suc i) (omega arith)

pieces-one : (bs : List ℕ) → NoBreak bs → pieces bs ≡ bs ∷ []
pieces-one [] h = refl
pieces-one (b ∷ bs) h = rw (no_first b bs h, pieces, pieces-one bs (no_more b bs h)) refl

pieces-split : (a bs : List ℕ) → NoBreak a → pieces (a ++ (10 ∷ bs)) ≡ a ∷ pieces bs
pieces-split [] bs h = refl
pieces-split (b ∷ a) bs h = rw (no_first b a h, pieces, pieces-split a bs (no_more b a h)) refl

-- what a cut at the first break gives
abbrev pub Parts : Type 0
Parts = Bor (List ℕ) × Bor (List ℕ)

abbrev pub CutAtBreak : List ℕ → Option Parts → Type 0
CutAtBreak bs r = MatchOption r (NoBreak bs) (λ x. (bs ≡ x.0.now ++ (10 ∷ x.1.now)) × NoBreak x.0.now)

pub cut-pieces : (bs : List ℕ) (r : Option Parts) → CutAtBreak bs r → MatchOption r (pieces bs ≡ bs ∷ []) (λ x. pieces bs ≡ x.0.now ∷ pieces x.1.now)
cut-pieces bs None h = pieces-one bs h
cut-pieces bs (Some x) h = ap pieces h.0 ∙ pieces-split x.0.now x.1.now h.1

pub cut-shorter : (bs : List ℕ) (r : Option Parts) → CutAtBreak bs r → IfSome r (λ x. length x.1.now < length bs)
cut-shorter bs None h = tt
cut-shorter bs (Some x) h = let e = simp length-append at (ap length h.0) in omega arith

-- ---- breaks at the end

abbrev by_break : ℕ → Bool → List (List ℕ) → List (List ℕ)
by_break b t ps = elim t as (λ _. List (List ℕ)) [ true ↦ [] ∷ ps | false ↦ start_line b ps ]

some_break : (b : ℕ) (t : Bool) (ps : List (List ℕ)) → is_empty (by_break b t ps) ≡ false
some_break b true ps = refl
some_break b false [] = refl
some_break b false (q ∷ ps) = refl

pub pieces_some : (bs : List ℕ) → is_empty (pieces bs) ≡ false
pieces_some [] = refl
pieces_some (b ∷ bs) = some_break b (b == line_feed) (pieces bs)

break-behind : (b : ℕ) (t : Bool) (ps : List (List ℕ)) → is_empty ps ≡ false → by_break b t (ps ++ [] ∷ []) ≡ by_break b t ps ++ [] ∷ []
break-behind b true ps h = refl
break-behind b false [] h = absurd (cc)
break-behind b false (q ∷ ps) h = refl

-- a break at the end
pieces-break : (t : List ℕ) → pieces (t ++ 10 ∷ []) ≡ pieces t ++ [] ∷ []
pieces-break [] = refl
pieces-break (b ∷ t) = ap (by_break b (b == line_feed)) (pieces-break t) ∙ break-behind b (b == line_feed) (pieces t) (pieces_some t)

one_more : (b : Bool) (f : ℕ) → (if b then suc (suc f) else suc f) ≡ suc (if b then suc f else f)
one_more true f = refl
one_more false f = refl

same_test : (f n m : ℕ) → m ≡ suc n → (suc f + 1 == suc m) ≡ (f + 1 == suc n)
same_test f n m h = grind (arith, nat_tests)

breaks-snoc : (ps : List (List ℕ)) → final_breaks (ps ++ [] ∷ []) ≡ suc (final_breaks ps)
breaks-snoc [] = refl
breaks-snoc (l ∷ ls) =
    let e : length (ls ++ [] ∷ []) ≡ suc (length ls) = simp length-append (omega arith) in
    rw (breaks-snoc ls, same_test (final_breaks ls) (length ls) (length (ls ++ [] ∷ [])) e) (one_more (is_empty l && (final_breaks ls + 1 == length (l ∷ ls))) (final_breaks ls))

pub final-break : (t : List ℕ) (b : ℕ) → b ≡ 10 → final_breaks (pieces (t ++ b ∷ [])) ≡ suc (final_breaks (pieces t))
final-break t b h = rw (h, pieces-break t) (breaks-snoc (pieces t))

no_breaks : (b : Bool) (f : ℕ) → (if b then suc f else f) ≡ 0 → f ≡ 0
no_breaks true f h = absurd (omega arith)
no_breaks false f h = h

none-behind : (x : ℕ) (t : Bool) (ps : List (List ℕ)) → is_empty ps ≡ false → final_breaks ps ≡ 0 → final_breaks (by_break x t ps) ≡ 0
none-behind x t [] h e = absurd (cc)
none-behind x true (q ∷ qs) h e =
    let k : (0 + 1 == length ([] ∷ q ∷ qs)) ≡ false = ne_eqb 1 (length ([] ∷ q ∷ qs)) (omega arith) in
    rw (e, k) refl
none-behind x false (q ∷ qs) h e = no_breaks _ (final_breaks qs) e

-- no break at the end
pub final-other : (t : List ℕ) (b : ℕ) → b ≢ 10 → final_breaks (pieces (t ++ b ∷ [])) ≡ 0
final-other [] b h = rw (ne_eqb b 10 h, pieces) refl
final-other (x ∷ t) b h = none-behind x (x == line_feed) (pieces (t ++ b ∷ [])) (pieces_some (t ++ b ∷ [])) (final-other t b h)

pub ruleset finals = (final-break, final-other)

-- ---- white space at the ends of the lines

pub trimmed-cons : (l : List ℕ) (ls ps : List (List ℕ)) → ps ≡ l ∷ ls → are_trimmed ps ≡ (not (is_white (first l)) && not (is_white (last l)) && are_trimmed ls)
trimmed-cons l ls ps h = rw h

and_true : (b : Bool) → (b && true) ≡ b
and_true true = refl
and_true false = refl

pub trimmed-one : (l : List ℕ) (ps : List (List ℕ)) → ps ≡ l ∷ [] → are_trimmed ps ≡ (not (is_white (first l)) && not (is_white (last l)))
trimmed-one l ps h = rw h (and_true (not (is_white (first l)) && not (is_white (last l))))

pub ruleset trims = (trimmed-cons, trimmed-one)
