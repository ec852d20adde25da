use Rattle.std.proofs.Common.{◌≡◌, ◌++◌, length}
use Rattle.star_steps.proofs.Names.{OwnsAll, values_of}
use Rattle.star_values.specs.Owns.{OwnsArguments, OwnsFields}
use Rattle.star_values.specs.View.{View, fields_in}
use Rattle.text_spec.specs.Fields.{values_of_fields}
use Rattle.star_text.proofs.format.all_values.Given as goal

-- those that were taken, and then those of the rest
abbrev pub invariant-loop-first : goal.invariant-loop-first
invariant-loop-first l = record {
  values : (a : View) → values_of a l.values ++ values_of_fields (fields_in a.held l.rest) ≡ values_of a l.fn.args.positional ++ values_of_fields (fields_in a.held l.fn.args.named);
  owned : (a : View) → OwnsArguments a l.fn.args → OwnsAll a l.values × OwnsFields a l.rest;
}

abbrev pub decreases-loop-first : goal.decreases-loop-first
decreases-loop-first l = length l.rest
