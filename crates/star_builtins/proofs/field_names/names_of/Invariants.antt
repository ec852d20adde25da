use Rattle.std.proofs.Common.{◌≡◌, ◌++◌, length, map as each}
use Rattle.builtin_spec.specs.Builtins.{names_of}
use Rattle.star_steps.specs.Names.{fields_in, text_value}
use Rattle.star_values.specs.View.{View}
use Rattle.star_builtins.proofs.field_names.names_of.Given as goal

-- the names so far, and then those of the rest
abbrev pub invariant-loop-field : goal.invariant-loop-field
invariant-loop-field l = (a : View) → each text_value l.names ++ names_of (fields_in a.held l.rest) ≡ names_of (fields_in a.held l.fields)

abbrev pub decreases-loop-field : goal.decreases-loop-field
decreases-loop-field l = length l.rest
