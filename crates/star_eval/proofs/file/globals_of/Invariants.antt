use Rattle.std.proofs.Common.{◌≡◌, ◌++◌, length}
use Rattle.star_values.specs.Objects.{env_in, seen}
use Rattle.star_values.specs.Owns.{OwnsEnv, OwnsFields}
use Rattle.template_meaning.specs.Files.{globals_in}
use Rattle.star_eval.specs.Finishes.{globals_of}
use Rattle.star_eval.proofs.file.globals_of.Given as goal

abbrev pub invariant-loop-rest : goal.invariant-loop-rest
invariant-loop-rest l =
    (globals_of (seen l.arena) l.globals ++ globals_in (seen l.arena).store (env_in (seen l.arena).held l.rest) ≡ globals_in (seen l.arena).store (env_in (seen l.arena).held l.scope)) × OwnsFields (seen l.arena) l.globals × OwnsEnv (seen l.arena) l.rest

abbrev pub decreases-loop-rest : goal.decreases-loop-rest
decreases-loop-rest l = length l.rest
