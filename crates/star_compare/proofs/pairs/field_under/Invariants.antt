use Rattle.star_steps.proofs.Names.{◌≡◌, length, value_of_key, text_value, named_values, OwnsFields, View, fields_in}
use Rattle.star_compare.proofs.pairs.field_under.Given as goal

-- what is left of the fields decides
abbrev pub invariant-loop-field : goal.invariant-loop-field
invariant-loop-field l = record {
  same : (a : View) → value_of_key (text_value l.name) (named_values (fields_in a.held l.fields)) ≡ value_of_key (text_value l.name) (named_values (fields_in a.held l.rest));
  owned : (a : View) → OwnsFields a l.fields → OwnsFields a l.rest;
}

abbrev pub decreases-loop-field : goal.decreases-loop-field
decreases-loop-field l = length l.rest
