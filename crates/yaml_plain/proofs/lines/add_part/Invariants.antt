use Rattle.std.proofs.Common.{◌≡◌, ◌-◌, ℕ, List, [], ◌∷◌, ◌++◌, map as each, replicate}
use Rattle.yaml_spec.specs.Folding.{whole_line}
use Rattle.yaml_quotes.specs.Joining.{with_parts}
use Rattle.yaml_plain.proofs.lines.add_part.Given as goal

abbrev pub invariant-loop-line : goal.invariant-loop-line
invariant-loop-line l =
    (next : List ℕ) (parts : List (List ℕ))
    → with_parts l.fn.folded (each whole_line (l.part ∷ (replicate l.empties [] ++ next ∷ parts))) ≡ with_parts l.folded (each whole_line (replicate (l.empties - l._line) [] ++ next ∷ parts))
