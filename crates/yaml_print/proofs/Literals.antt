-- The lines of a literal, one after another.
use Rattle.std.proofs.Common.{◌≡◌, ℕ, true, false, ◌==◌, List, [], ◌∷◌, ◌++◌, length, refl, ap, ◌∙◌, arith}
use Rattle.std.proofs.lemmas.Bool.Decides.{nat_tests}
use Rattle.yaml_print.proofs.Pieces.{pieces_some}
use Rattle.yaml_print.proofs.Putting.{puts_none, puts_then}
use Rattle.yaml_print.specs.Puts.{Puts}
use Rattle.yaml_print.specs.Start.{Start}
use Rattle.yaml_spec.specs.Bytes.{is_empty}
use Rattle.yaml_spec.specs.Text.{literal_line, literal_lines, pieces}

pub none_empty : (l : List ℕ) → (length l == 0) ≡ false → is_empty l ≡ false
none_empty [] h = absurd (cc)
none_empty (b ∷ bs) h = refl

lines_cons : (n : ℕ) (l : List ℕ) (ps : List (List ℕ)) → is_empty ps ≡ false → literal_lines n (l ∷ ps) ≡ literal_line n l ++ literal_lines n ps
lines_cons n l [] h = absurd (cc)
lines_cons n l (p ∷ ps) h = refl

-- Once the lines of the rest are put too, those of the text are.
pub record Leads {W : Type 0} (has : Start → W → List ℕ → Type 0) (before now : W) (n : ℕ) (text rest : List ℕ) : Type 0 where
  pub on : (end : W) → Puts has now end (literal_lines n (pieces rest)) → Puts has before end (literal_lines n (pieces text))

-- before the first line
pub leads_none : {W : Type 0} {has : Start → W → List ℕ → Type 0} {a : W} (n : ℕ) (text : List ℕ) → Leads has a a n text text
leads_none n text = record { on = λ end h. h }

-- one more line
pub leads_more : {W : Type 0} {has : Start → W → List ℕ → Type 0} {a b c : W} (n : ℕ) (text rest line below : List ℕ) → Leads has a b n text rest → pieces rest ≡ line ∷ pieces below
    → Puts has b c (literal_line n line) → Leads has a c n text below
leads_more n text rest line below w e h = record {
  on = λ end k. w.on end (rw (e, lines_cons n line (pieces below) (pieces_some below)) (puts_then h k));
}

-- the last line, which is not empty
last_line : (n : ℕ) (l : List ℕ) → is_empty l ≡ false → literal_lines n (l ∷ []) ≡ literal_line n l
last_line n [] h = absurd (cc)
last_line n (b ∷ bs) h = refl

pub leads_last : {W : Type 0} {has : Start → W → List ℕ → Type 0} {a b c : W} (n : ℕ) (text rest : List ℕ) → Leads has a b n text rest → pieces rest ≡ rest ∷ [] → (length rest == 0) ≡ false
    → Puts has b c (literal_line n rest) → Puts has a c (literal_lines n (pieces text))
leads_last n text rest w e h k = let f : literal_lines n (pieces rest) ≡ literal_line n rest = ap (literal_lines n) e ∙ last_line n rest (none_empty rest h) in w.on _ (rw f k)

-- nothing behind the last break
no_last : (n : ℕ) (l : List ℕ) → (length l == 0) ≡ true → literal_lines n (l ∷ []) ≡ []
no_last n [] h = refl
no_last n (b ∷ bs) h = absurd (grind (arith, nat_tests))

pub leads_end : {W : Type 0} {has : Start → W → List ℕ → Type 0} {a b : W} (n : ℕ) (text rest : List ℕ) → Leads has a b n text rest → pieces rest ≡ rest ∷ [] → (length rest == 0) ≡ true
    → Puts has a b (literal_lines n (pieces text))
leads_end n text rest w e h = let f : literal_lines n (pieces rest) ≡ [] = ap (literal_lines n) e ∙ no_last n rest h in w.on _ (rw f puts_none)

pub ruleset lines = (leads_none, leads_more, leads_last, leads_end)
