-- How high the least text is that goes on from a state.
use Rattle.std.specs.Prelude.{ℕ, List, [], ◌∷◌}
use Rattle.ll.specs.Grammar.{Symbol, terminal, rule, Grammar}
use Rattle.ll.specs.Machine.{want, close, Stack}
use Rattle.ll.specs.Shapes.{top, apply, run}
use Rattle.ll.specs.declared.shapes.Shape.{Shape}
use Rattle.ll.specs.declared.shapes.Effect.{Effect}

-- The trees on the stack of a value, and what each alternative, token and rule makes of them: a rule the least that it can.
pub record Measure (g : Grammar) : Type 0 where
  pub shapes : g.Value → List Shape
  pub effect : g.Choice → Effect
  pub given : g.Terminal → Effect
  pub least : g.Rule → List Effect

module _ (g : Grammar) (m : Measure g) where
  abbrev pub along : Stack g → List Shape → List Shape
  along [] xs = xs
  along (close c ∷ rest) xs = along rest (apply (m.effect c) xs)
  along (want (terminal a) ∷ rest) xs = along rest (apply (m.given a) xs)
  along (want (rule r) ∷ rest) xs = along rest (run (m.least r) xs)

  abbrev pub weigh : Stack g → g.Value → ℕ
  weigh stack v = (top (along stack (m.shapes v))).high
