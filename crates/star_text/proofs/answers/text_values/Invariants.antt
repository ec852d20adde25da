use Rattle.std.proofs.Common.{◌≡◌, ◌++◌, length}
use Rattle.star_steps.proofs.Names.{Grows, OwnsAll, seen, values_of}
use Rattle.text_spec.specs.Answers.{text_values}
use Rattle.star_text.proofs.answers.text_values.Given as goal

-- the values that were made, and then those of the rest
abbrev pub invariant-loop-first : goal.invariant-loop-first
invariant-loop-first l = record {
  values : values_of (seen l.arena) l.values ++ text_values l.rest ≡ text_values l.texts;
  owns : OwnsAll (seen l.arena) l.values;
  store : (seen l.arena).store ≡ (seen l.fn.arena).store;
  grows : Grows (seen l.fn.arena) (seen l.arena);
}

abbrev pub decreases-loop-first : goal.decreases-loop-first
decreases-loop-first l = length l.rest
