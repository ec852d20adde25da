use Rattle.std.proofs.Common.{◌≡◌, ◌++◌, ◌-◌, drop, map as each}
use Rattle.builtin_spec.specs.Builtins.{zipped}
use Rattle.star_steps.proofs.Names.{Grows, OwnsAll, seen, values_of}
use Rattle.star_builtins.proofs.sequences.zipped.Given as goal

-- the tuples that were made, and then those of the members that are left
abbrev pub invariant-loop-place : goal.invariant-loop-place
invariant-loop-place l = record {
  values : values_of (seen l.arena) l.tuples ++ zipped (l.count - l.place) (each (drop l.place) (each (values_of (seen l.fn.arena)) l.lists)) ≡ zipped l.count (each (values_of (seen l.fn.arena)) l.lists);
  owns : OwnsAll (seen l.arena) l.tuples;
  store : (seen l.arena).store ≡ (seen l.fn.arena).store;
  grows : Grows (seen l.fn.arena) (seen l.arena);
}
