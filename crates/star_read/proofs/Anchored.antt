-- The text's end stands last in what is still to be read, until it is read.
use Rattle.std.proofs.Common.{◌≡◌, ℕ, [], ◌∷◌, Option, Some, None, refl}
use Rattle.std.specs.Prelude.{zero, suc, Bool, true, false, if◌then◌else◌}
use Rattle.std.specs.Option.{option_and_then, option_map}
use Rattle.ll.specs.Grammar.{terminal, rule, Grammar, Symbols}
use Rattle.ll.specs.Machine.{Item, want, close, Stack, State, Tables, state, wants, opened, allowed, step, finished, Unfinished}

abbrev IsLast : (g : Grammar) → Item g.Terminal g.Rule g.Choice → Type 0
IsLast g (close c) = ⊥
IsLast g (want (rule r)) = ⊥
IsLast g (want (terminal a)) = Unit {0}

abbrev pub Anchored : (g : Grammar) → Stack g → Type 0
Anchored g [] = Unit {0}
Anchored g (x ∷ []) = IsLast g x
Anchored g (x ∷ y ∷ rest) = Anchored g (y ∷ rest)

abbrev pub AnchoredAt : (g : Grammar) → Option (State g) → Type 0
AnchoredAt g None = Unit {0}
AnchoredAt g (Some s) = Anchored g s.stack

module _ (g : Grammar) (t : Tables g) where
  under : (x : Item g.Terminal g.Rule g.Choice) (rest : Stack g) → Anchored g (x ∷ rest) → Anchored g rest
  under x [] a = tt
  under x (y ∷ rest) a = a

  over : (xs : Symbols g) (y : Item g.Terminal g.Rule g.Choice) (rest : Stack g) → Anchored g (y ∷ rest) → Anchored g (wants g xs (y ∷ rest))
  over [] y rest a = a
  over (x ∷ []) y rest a = a
  over (x ∷ z ∷ xs) y rest a = over (z ∷ xs) y rest a

  opens : (c : g.Choice) (r : g.Rule) (rest : Stack g) → Anchored g (want (rule r) ∷ rest) → Anchored g (opened g c rest)
  opens c r [] a = absurd a
  opens c r (y ∷ rest) a = on (g.silent c)
    where
      on : (b : Bool) → Anchored g (wants g (g.body c) (if b then y ∷ rest else close c ∷ y ∷ rest))
      on true = over (g.body c) y rest a
      on false = over (g.body c) (close c) (y ∷ rest) a

  pub steps : (n : ℕ) (k : g.Token) (stack : Stack g) (v : g.Value) → Anchored g stack → AnchoredAt g (step g t n k stack v)
  steps zero k stack v a = tt
  steps (suc n) k [] v a = tt
  steps (suc n) k (close c ∷ rest) v a = steps n k rest (g.finish c v) (under (close c) rest a)
  steps (suc n) k (want (terminal x) ∷ rest) v a = on (g.shift x k v)
    where
      on : (o : Option g.Value) → AnchoredAt g (option_map (state g rest) o)
      on None = tt
      on (Some u) = under (want (terminal x)) rest a
  steps (suc n) k (want (rule r) ∷ rest) v a = on (allowed g t v (t.predict r (t.class k))) (λ c. steps n k (opened g c rest) v (opens c r rest a))
    where
      on : (o : Option g.Choice) → ((c : g.Choice) → AnchoredAt g (step g t n k (opened g c rest) v)) → AnchoredAt g (option_and_then (λ c. step g t n k (opened g c rest) v) o)
      on None f = tt
      on (Some c) f = f c

  pub is_unfinished : (x : Item g.Terminal g.Rule g.Choice) (rest : Stack g) (v : g.Value) → Anchored g (x ∷ rest) → finished g t (x ∷ rest) v ≡ Unfinished
  is_unfinished (want x) rest v a = refl
  is_unfinished (close c) [] v a = absurd a
  is_unfinished (close c) (y ∷ rest) v a = is_unfinished y rest (g.finish c v) a
