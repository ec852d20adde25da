use Rattle.std.proofs.Common.{◌≡◌, length}
use Rattle.value_spec.specs.Binding.{has_twice}
use Rattle.star_values.specs.View.{View, fields_in}
use Rattle.star_calls.proofs.Passed.{is_passed, twice_or_passed}
use Rattle.star_calls.proofs.names.many_have_twice.Given as goal

-- what is left decides, and what was passed
abbrev pub invariant-loop-field : goal.invariant-loop-field
invariant-loop-field l = (a : View) → has_twice (fields_in a.held l.named) ≡ twice_or_passed (is_passed l.names) (fields_in a.held l.rest)

abbrev pub decreases-loop-field : goal.decreases-loop-field
decreases-loop-field l = length l.rest
