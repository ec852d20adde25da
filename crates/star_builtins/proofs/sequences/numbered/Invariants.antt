use Rattle.std.proofs.Common.{◌≡◌, ◌++◌, ◌+◌, ◌+ℤ◌, length, pos}
use Rattle.builtin_spec.specs.Builtins.{numbered}
use Rattle.star_steps.proofs.Names.{Grows, OwnsAll, seen, values_of}
use Rattle.star_builtins.proofs.sequences.numbered.Given as goal

-- what was made, and then the rest with its numbers
abbrev pub invariant-loop-first : goal.invariant-loop-first
invariant-loop-first l = record {
  values : values_of (seen l.arena) l.tuples ++ numbered (l.start +ℤ pos l.place) (values_of (seen l.fn.arena) l.rest) ≡ numbered l.start (values_of (seen l.fn.arena) l.members);
  place : l.place + length l.rest ≡ length l.members;
  rest : OwnsAll (seen l.fn.arena) l.rest;
  owns : OwnsAll (seen l.arena) l.tuples;
  store : (seen l.arena).store ≡ (seen l.fn.arena).store;
  grows : Grows (seen l.fn.arena) (seen l.arena);
}

abbrev pub decreases-loop-first : goal.decreases-loop-first
decreases-loop-first l = length l.rest
