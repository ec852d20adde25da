use Rattle.std.proofs.Common.{◌≡◌, length}
use Rattle.star_spec.specs.Names.{box_of}
use Rattle.star_values.specs.Objects.{env_in, seen}
use Rattle.star_values.specs.Owns.{OwnsEnv}
use Rattle.star_eval.proofs.names.find.Given as goal

abbrev pub invariant-loop-rest : goal.invariant-loop-rest
invariant-loop-rest l =
    (box_of l.name (env_in (seen l.arena).held l.scope) ≡ box_of l.name (env_in (seen l.arena).held l.rest)) × OwnsEnv (seen l.arena) l.rest

abbrev pub decreases-loop-rest : goal.decreases-loop-rest
decreases-loop-rest l = length l.rest
