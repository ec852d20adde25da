use Rattle.std.proofs.Common.{◌≡◌, ◌+◌, suc, length}
use Rattle.world_spec.specs.Paths.{number_from}
use Rattle.file_load.specs.Programs.{names_in}
use Rattle.file_load.proofs.programs.place_named.Given as goal

abbrev pub invariant-loop-rest : goal.invariant-loop-rest
invariant-loop-rest l =
    (number_from 1 l.name (names_in l.programs) ≡ number_from (suc l.place) l.name (names_in l.rest)) × (l.place + length l.rest ≡ length l.programs)

abbrev pub decreases-loop-rest : goal.decreases-loop-rest
decreases-loop-rest l = length l.rest
