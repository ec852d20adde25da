use Rattle.std.proofs.Common.{◌≡◌, ◌++◌, length}
use Rattle.builtin_spec.specs.Dicts.{field_values}
use Rattle.star_steps.specs.Names.{OwnsAll, OwnsFields, fields_in, values_of}
use Rattle.star_values.specs.Owns.{OwnsArguments}
use Rattle.star_values.specs.View.{View}
use Rattle.star_builtins.proofs.pairs.operands_of.Given as goal

-- those so far, and then those of the rest of the names
abbrev pub invariant-loop-field : goal.invariant-loop-field
invariant-loop-field l = record {
  values : (a : View) → values_of a l.all ++ field_values (fields_in a.held l.rest) ≡ values_of a l.args.positional ++ field_values (fields_in a.held l.args.named);
  owns : (a : View) → OwnsArguments a l.args → OwnsAll a l.all × OwnsFields a l.rest;
}

abbrev pub decreases-loop-field : goal.decreases-loop-field
decreases-loop-field l = length l.rest
