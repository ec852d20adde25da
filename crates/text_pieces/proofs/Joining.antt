-- Texts in one, as std joins them, and how long they are.
use Rattle.std.proofs.Common.{◌≡◌, ℕ, ◌-◌, List, [], ◌∷◌, ◌++◌, length, refl, ap, ◌∙◌, append_assoc, arith, Bor}
use Rattle.std.proofs.lemmas.List.{length-append}
use Rattle.std.specs.List.{flat_map, join_by}
use Rattle.text_spec.specs.Cutting.{joined_by, more_joined}
use Rattle.text_spec.specs.Texts.{texts_of}

more_so : (x : List ℕ) (ts : List (Bor (List ℕ))) → flat_map (λ t. x ++ t.now) ts ≡ more_joined x (texts_of ts)
more_so x [] = refl
more_so x (t ∷ ts) = ap (λ l. (x ++ t.now) ++ l) (more_so x ts) ∙ append_assoc x t.now (more_joined x (texts_of ts))

pub joined_so : (x : List ℕ) (ts : List (Bor (List ℕ))) → join_by (λ t. t.now) x ts ≡ joined_by x (texts_of ts)
joined_so x [] = refl
joined_so x (t ∷ ts) = ap (λ l. t.now ++ l) (more_so x ts)

pub joined_length : (x : List ℕ) (ts : List (List ℕ)) → length (joined_by x ts) ≡ length (more_joined x ts) - length x
joined_length x [] = omega arith
joined_length x (t ∷ ts) = omega (arith, length-append x (t ++ more_joined x ts))

pub ruleset joins = (joined_so, joined_length)
