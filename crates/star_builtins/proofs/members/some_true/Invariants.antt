use Rattle.std.proofs.Common.{◌≡◌, length}
use Rattle.builtin_spec.specs.Builtins.{some_true}
use Rattle.star_steps.proofs.Names.{OwnsAll, seen, values_of}
use Rattle.star_builtins.proofs.members.some_true.Given as goal

-- those that are left decide
abbrev pub invariant-loop-rest : goal.invariant-loop-rest
invariant-loop-rest l = record {
  owns : OwnsAll (seen l.arena) l.rest;
  same : some_true (seen l.arena).store (values_of (seen l.arena) l.members) ≡ some_true (seen l.arena).store (values_of (seen l.arena) l.rest);
}

abbrev pub decreases-loop-rest : goal.decreases-loop-rest
decreases-loop-rest l = length l.rest
