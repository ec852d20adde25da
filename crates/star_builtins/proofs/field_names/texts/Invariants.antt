use Rattle.std.proofs.Common.{◌≡◌, ◌++◌, length, map as each}
use Rattle.star_steps.specs.Names.{Grows, OwnsAll, seen, text_value, values_of}
use Rattle.star_builtins.proofs.field_names.texts.Given as goal

-- what was made, and then the rest of the texts
abbrev pub invariant-loop-first : goal.invariant-loop-first
invariant-loop-first l = record {
  values : values_of (seen l.arena) l.texts ++ each text_value l.rest ≡ each text_value l.names;
  owns : OwnsAll (seen l.arena) l.texts;
  store : (seen l.arena).store ≡ (seen l.fn.arena).store;
  grows : Grows (seen l.fn.arena) (seen l.arena);
}

abbrev pub decreases-loop-first : goal.decreases-loop-first
decreases-loop-first l = length l.rest
