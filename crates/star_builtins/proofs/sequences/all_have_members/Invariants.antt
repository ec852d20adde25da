use Rattle.std.proofs.Common.{◌≡◌, length}
use Rattle.builtin_spec.specs.Builtins.{all_have_members}
use Rattle.star_steps.proofs.Names.{seen, values_of}
use Rattle.star_builtins.proofs.sequences.all_have_members.Given as goal

-- those that are left decide
abbrev pub invariant-loop-rest : goal.invariant-loop-rest
invariant-loop-rest l = all_have_members (seen l.arena).store (values_of (seen l.arena) l.values) ≡ all_have_members (seen l.arena).store (values_of (seen l.arena) l.rest)

abbrev pub decreases-loop-rest : goal.decreases-loop-rest
decreases-loop-rest l = length l.rest
