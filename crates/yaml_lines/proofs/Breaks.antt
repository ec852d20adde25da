-- Where the first line of a text ends.
use Rattle.std.proofs.Common.{◌≡◌, ◌≢◌, ℕ, suc, zero, ◌+◌, ◌-◌, ◌<◌, Bool, true, false, ◌&&◌, ◌==◌, List, [], ◌∷◌, ◌++◌, length, get_or, take, drop, refl, ap, ◌∙◌, arith, eq-eqb, ne_eqb, add-one, eqb, ⊎_elim}
use Rattle.std.proofs.lemmas.Bool.{and_right}
use Rattle.std.proofs.lemmas.Bool.Decides.{eqb_tells}
use Rattle.std.proofs.lemmas.List.{take_rest}
use Rattle.yaml_spec.specs.Bytes.{first}
use Rattle.yaml_spec.specs.Lines.{cut, start_line}
use Rattle.yaml_lines.specs.Ends.{without_return}

abbrev NoBreak : List ℕ → ℕ → Type 0
NoBreak text i = (k : ℕ) → k < i → get_or text k 0 ≡ 10 → ⊥

abbrev step : Bool → Bool → ℕ → List (List ℕ) → List (List ℕ)
step is_feed is_return b more = elim is_feed [ true ↦ [] ∷ more | false ↦ elim is_return [ true ↦ more | false ↦ start_line b more ] ]

cut-step : (b : ℕ) (bs : List ℕ) → cut (b ∷ bs) ≡ step (b == 10) (b == 13 && first bs == 10) b (cut bs)
unfolding cut
cut-step b bs = refl

at_break : (b : ℕ) (bs : List ℕ) → b ≡ 10 → cut (b ∷ bs) ≡ [] ∷ cut bs
at_break b bs e = cut-step b bs ∙ ap (λ v. step v (b == 13 && first bs == 10) b (cut bs)) (eq-eqb b 10 e)

-- a carriage return before a line feed
at_return : (b c : ℕ) (bs : List ℕ) → (b ≡ 10 → ⊥) → eqb b 13 ≡ true → c ≡ 10 → cut (b ∷ c ∷ bs) ≡ cut (c ∷ bs)
at_return b c bs n e f =
    cut-step b (c ∷ bs) ∙ ap (λ v. step v (b == 13 && c == 10) b (cut (c ∷ bs))) (ne_eqb b 10 n)
    ∙ ap (λ v. step false (v && c == 10) b (cut (c ∷ bs))) e ∙ ap (λ v. step false v b (cut (c ∷ bs))) (eq-eqb c 10 f)

past : (b : ℕ) (bs : List ℕ) → (b ≡ 10 → ⊥) → (b == 13 && first bs == 10) ≡ false → cut (b ∷ bs) ≡ start_line b (cut bs)
past b bs n e =
    cut-step b bs ∙ ap (λ v. step v (b == 13 && first bs == 10) b (cut bs)) (ne_eqb b 10 n) ∙ ap (λ v. step false v b (cut bs)) e

before_break : (b c : ℕ) (bs : List ℕ) → (b ≡ 10 → ⊥) → c ≡ 10 → cut (b ∷ c ∷ bs) ≡ without_return (b ∷ []) ∷ cut bs
before_break b c bs n e =
    ⊎_elim
    (λ (r : (eqb b 13 ≡ true) × (b ≡ 13)). at_return b c bs n r.0 e ∙ at_break c bs e ∙ rw r.0 refl)
    (λ (r : (eqb b 13 ≡ false) × (b ≢ 13)). past b (c ∷ bs) n (rw r.0 refl) ∙ ap (start_line b) (at_break c bs e) ∙ rw r.0 refl)
    (eqb_tells b 13)

pub lines-cut : (text : List ℕ) (i : ℕ) → i < length text → NoBreak text i → get_or text i 0 ≡ 10
    → cut text ≡ without_return (take i text) ∷ cut (drop (suc i) text)
lines-cut [] i lt none at = absurd (omega arith)
lines-cut (b ∷ bs) zero lt none at = at_break b bs at
lines-cut (b ∷ []) (suc i) lt none at = absurd (omega arith)
lines-cut (b ∷ c ∷ bs) (suc zero) lt none at = before_break b c bs (none 0 (omega arith)) at
lines-cut (b ∷ c ∷ bs) (suc (suc i)) lt none at =
    past b (c ∷ bs) (none 0 (omega arith)) (and_right (b == 13) _ (ne_eqb c 10 (none 1 (omega arith))))
    ∙ ap (start_line b) (lines-cut (c ∷ bs) (suc i) (omega arith) (λ k h. none (suc k) (omega arith)) at)

pub cut-empty : (text : List ℕ) → length text ≡ 0 → cut text ≡ []
unfolding cut
cut-empty [] h = refl
cut-empty (b ∷ bs) h = absurd (omega arith)

pub lines-whole : (text : List ℕ) → 0 < length text → NoBreak text (length text) → cut text ≡ text ∷ []
lines-whole [] lt none = absurd (omega arith)
lines-whole (b ∷ []) lt none = past b [] (none 0 (omega arith)) (and_right (b == 13) _ refl) ∙ ap (start_line b) (cut-empty [] refl)
lines-whole (b ∷ c ∷ bs) lt none =
    past b (c ∷ bs) (none 0 (omega arith)) (and_right (b == 13) _ (ne_eqb c 10 (none 1 (omega arith))))
    ∙ ap (start_line b) (lines-whole (c ∷ bs) (omega arith) (λ k h. none (suc k) (omega arith)))

-- the same as the code writes what stands behind the break
pub lines-split : (text : List ℕ) (i : ℕ) → i < length text → NoBreak text i → get_or text i 0 ≡ 10
    → cut text ≡ without_return (take i text) ∷ cut (take (length text - (i + 1)) (drop (i + 1) text))
lines-split text i lt none at = rw (take_rest, add-one) (lines-cut text i lt none at)

pub last-line : (text rest : List ℕ) → 0 < length text → NoBreak text (length text) → length rest ≡ 0 → cut text ≡ text ∷ cut rest
last-line text rest lt none h = lines-whole text lt none ∙ rw (cut-empty rest h) refl

pub ruleset ends = (lines-cut, lines-whole, last-line)

-- ---- the carriage return at the end

pub without_return-return : (bs : List ℕ) (b : ℕ) → b ≡ 13 → without_return (bs ++ b ∷ []) ≡ bs
without_return-return [] b e = rw (eq-eqb b 13 e) refl
without_return-return (c ∷ []) b e = rw (eq-eqb b 13 e) refl
without_return-return (c ∷ d ∷ bs) b e = ap (λ t. c ∷ t) (without_return-return (d ∷ bs) b e)

pub without_return-other : (bs : List ℕ) (b : ℕ) → (b ≡ 13 → ⊥) → without_return (bs ++ b ∷ []) ≡ bs ++ b ∷ []
without_return-other [] b n = rw (ne_eqb b 13 n) refl
without_return-other (c ∷ []) b n = rw (ne_eqb b 13 n) refl
without_return-other (c ∷ d ∷ bs) b n = ap (λ t. c ∷ t) (without_return-other (d ∷ bs) b n)

pub without_return-nothing : (bs : List ℕ) → length bs ≡ 0 → without_return bs ≡ bs
without_return-nothing [] h = refl
without_return-nothing (b ∷ bs) h = absurd (omega arith)

pub ruleset returns = (without_return-return, without_return-other, without_return-nothing)
