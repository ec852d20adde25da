use Rattle.std.proofs.Common.{◌≡◌, ◌++◌, drop, length, map as each}
use Rattle.builtin_spec.specs.Builtins.{firsts}
use Rattle.star_steps.proofs.Names.{Each, OwnsAll, values_of}
use Rattle.star_values.specs.View.{View}
use Rattle.star_builtins.proofs.sequences.parts_at.Given as goal

-- the members that were taken, and then those of the lists that are left
abbrev pub invariant-loop-first : goal.invariant-loop-first
invariant-loop-first l = record {
  values : (a : View) → values_of a l.parts ++ firsts (each (drop l.place) (each (values_of a) l.rest)) ≡ firsts (each (drop l.place) (each (values_of a) l.lists));
  owns : (a : View) → Each (OwnsAll a) l.lists → OwnsAll a l.parts × Each (OwnsAll a) l.rest;
}

abbrev pub decreases-loop-first : goal.decreases-loop-first
decreases-loop-first l = length l.rest
