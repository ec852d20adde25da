use Rattle.star_steps.proofs.Names.{◌≡◌, ◌+◌}
use Rattle.builtin_spec.specs.Sorting.{binary_digits}
use Rattle.star_sorting.proofs.wanted.digits_of.Given as goal

abbrev pub invariant-loop-left : goal.invariant-loop-left
invariant-loop-left l = l.digits + binary_digits l.left ≡ binary_digits l.number

abbrev pub decreases-loop-left : goal.decreases-loop-left
decreases-loop-left l = l.left
