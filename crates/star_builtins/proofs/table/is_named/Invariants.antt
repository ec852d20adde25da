use Rattle.std.proofs.Common.{◌≡◌, List, length}
use Rattle.star_values.specs.View.{fields_in}
use Rattle.value_spec.specs.Binding.{has_field}
use Rattle.value_spec.specs.Values as plain
use Rattle.star_builtins.proofs.table.is_named.Given as goal

-- the name is sought among those that are left
abbrev pub invariant-loop-field : goal.invariant-loop-field
invariant-loop-field l = (held : List plain.Value) → has_field l.name (fields_in held l.rest) ≡ has_field l.name (fields_in held l.named)

abbrev pub decreases-loop-field : goal.decreases-loop-field
decreases-loop-field l = length l.rest
