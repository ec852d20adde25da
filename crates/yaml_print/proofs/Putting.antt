-- Texts put one behind another.
use Rattle.std.proofs.Common.{◌≡◌, ℕ, ◌+◌, ◌<◌, ◌≤◌, None, List, [], ◌∷◌, ◌++◌, length, get_or, take, ap, sym, ◌∙◌, append_assoc, append-nil}
use Rattle.std.specs.List.{flat_map}
use Rattle.std.proofs.lemmas.Grind.{flat_map-append}
use Rattle.std.proofs.lemmas.List.{take_all, take_more}
use Rattle.yaml_print.specs.Puts.{Puts}
use Rattle.yaml_print.specs.Start.{Start}

-- nothing is put
pub puts_none : {W : Type 0} {has : Start → W → List ℕ → Type 0} {a : W} → Puts has a a []
puts_none = record { behind = λ start u r. rw append-nil r }

-- a text and another behind it
pub puts_then : {W : Type 0} {has : Start → W → List ℕ → Type 0} {a b c : W} {s t : List ℕ} → Puts has a b s → Puts has b c t → Puts has a c (s ++ t)
puts_then h k = record { behind = λ start u r. rw append_assoc at (k.behind start _ (h.behind start u r)) }

-- the same where the first text is one byte or two, in the text as it computes
pub puts_then-byte : {W : Type 0} {has : Start → W → List ℕ → Type 0} {a b c : W} {x : ℕ} {t : List ℕ} → Puts has a b (x ∷ []) → Puts has b c t → Puts has a c (x ∷ t)
puts_then-byte h k = puts_then h k

pub puts_then-two : {W : Type 0} {has : Start → W → List ℕ → Type 0} {a b c : W} {x y : ℕ} {t : List ℕ} → Puts has a b (x ∷ y ∷ []) → Puts has b c t → Puts has a c (x ∷ y ∷ t)
puts_then-two h k = puts_then h k

pub ruleset putting = (puts_none, puts_then, puts_then-byte, puts_then-two)

-- ---- the members of a list, one behind another

flat_map-next : {X : Type 0} (f : X → List ℕ) (xs : List X) (i : ℕ) (x : X) → i < length xs → x ≡ get_or xs i x → flat_map f (take (i + 1) xs) ≡ flat_map f (take i xs) ++ f x
flat_map-next f xs i x h e =
    ap (flat_map f) (take_more xs i x h ∙ ap (λ y. take i xs ++ y ∷ []) (sym e)) ∙ flat_map-append f (take i xs) (x ∷ []) ∙ ap (λ t. flat_map f (take i xs) ++ t) (append-nil (f x))

-- one member more
pub puts_next : {W X : Type 0} {has : Start → W → List ℕ → Type 0} {a b c : W} (f : X → List ℕ) (xs : List X) (i : ℕ) (x : X) → Puts has a b (flat_map f (take i xs)) → Puts has b c (f x)
    → i < length xs → x ≡ get_or xs i x → Puts has a c (flat_map f (take (i + 1) xs))
puts_next f xs i x h k l e = rw (flat_map-next f xs i x l e) (puts_then h k)

-- all of them
pub puts_all : {W X : Type 0} {has : Start → W → List ℕ → Type 0} {a b : W} (f : X → List ℕ) (xs : List X) (i : ℕ) → Puts has a b (flat_map f (take i xs)) → length xs ≤ i → Puts has a b (flat_map f xs)
puts_all f xs i h l = rw take_all at h

-- ---- a start of which nothing is told

abbrev pub any_start : Start
any_start = record { held = None; faults = 0; out = 0; buffer = 0 }
