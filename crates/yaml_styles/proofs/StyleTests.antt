-- The tests of the first byte of a text, of its last and of each character.
use Rattle.std.proofs.Common.{◌≡◌, ℕ, List, [], ◌∷◌, ◌++◌, length, refl, ap, ◌∙◌, arith, ◌<◌, false, ◌||◌, eqb}
use Rattle.std.specs.List.{list_any}
use Rattle.std.proofs.lemmas.Bool.Decides.{nat_tests}
use Rattle.yaml_spec.specs.Bytes.{is_one_of}
use Rattle.yaml_spec.specs.Text.{has_pair, last}

same-eqb : (a b : ℕ) → eqb a b ≡ eqb b a
same-eqb a b = grind (arith, nat_tests)

pub is_one_of-list_any : (xs : List ℕ) (b : ℕ) → is_one_of xs b ≡ list_any (λ y. eqb y b) xs
is_one_of-list_any [] b = refl
is_one_of-list_any (x ∷ xs) b = ap (λ v. v || is_one_of xs b) (same-eqb b x) ∙ ap (λ v. eqb x b || v) (is_one_of-list_any xs b)

pub last-snoc : (bs : List ℕ) (b : ℕ) → last (bs ++ b ∷ []) ≡ b
last-snoc [] b = refl
last-snoc (c ∷ []) b = refl
last-snoc (c ∷ d ∷ bs) b = last-snoc (d ∷ bs) b

pub last-nothing : (bs : List ℕ) → length bs ≡ 0 → last bs ≡ 0
last-nothing [] h = refl
last-nothing (b ∷ bs) h = absurd (omega arith)

-- fewer than two bytes are no pair
pub no_pair : (a b : ℕ) (bs : List ℕ) → length bs < 2 → has_pair a b bs ≡ false
no_pair a b [] h = refl
no_pair a b (x ∷ []) h = refl
no_pair a b (x ∷ y ∷ bs) h = absurd (omega arith)

pub ruleset marks = (is_one_of-list_any)

pub ruleset lasts = (last-snoc, last-nothing)
