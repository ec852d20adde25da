use Rattle.std.proofs.Common.{◌≡◌, length}
use Rattle.star_values.specs.Owns.{OwnsFields}
use Rattle.star_values.specs.View.{View, fields_in}
use Rattle.value_spec.specs.Binding.{field_of}
use Rattle.star_text.proofs.format.named_value.Given as goal

-- the name is sought among those that are left
abbrev pub invariant-loop-field : goal.invariant-loop-field
invariant-loop-field l = record {
  same : (a : View) → field_of l.name (fields_in a.held l.rest) ≡ field_of l.name (fields_in a.held l.named);
  owned : (a : View) → OwnsFields a l.named → OwnsFields a l.rest;
}

abbrev pub decreases-loop-field : goal.decreases-loop-field
decreases-loop-field l = length l.rest
