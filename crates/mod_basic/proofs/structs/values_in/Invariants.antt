use Rattle.std.proofs.Common.{◌≡◌, ◌++◌, length}
use Rattle.module_spec.specs.Structs.{field_values}
use Rattle.star_steps.specs.Names.{OwnsAll, OwnsFields, fields_in, values_of}
use Rattle.star_values.specs.View.{View}
use Rattle.mod_basic.proofs.structs.values_in.Given as goal

-- those so far, and then those of the rest of the fields
abbrev pub invariant-loop-field : goal.invariant-loop-field
invariant-loop-field l = record {
  values : (a : View) → values_of a l.values ++ field_values (fields_in a.held l.rest) ≡ field_values (fields_in a.held l.fields);
  owns : (a : View) → OwnsFields a l.fields → OwnsAll a l.values × OwnsFields a l.rest;
}

abbrev pub decreases-loop-field : goal.decreases-loop-field
decreases-loop-field l = length l.rest
