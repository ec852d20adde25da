use Rattle.star_steps.proofs.Names.{◌≡◌, length, View, values_of}
use Rattle.builtin_spec.specs.Sorting.{are_of_one_kind}
use Rattle.star_sorting.proofs.wanted.of_one_kind.Given as goal

-- those that are left decide
abbrev pub invariant-loop-first : goal.invariant-loop-first
invariant-loop-first l = (a : View) → are_of_one_kind (values_of a l.values) ≡ are_of_one_kind (values_of a l.rest)

abbrev pub decreases-loop-first : goal.decreases-loop-first
decreases-loop-first l = length l.rest
