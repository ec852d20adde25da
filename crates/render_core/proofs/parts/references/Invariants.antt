use Rattle.std.proofs.Common.{◌≡◌, ◌++◌, length}
use Rattle.star_functions.specs.Known.{blocks_in}
use Rattle.render_core.proofs.parts.references.Given as goal

abbrev pub invariant-loop-file : goal.invariant-loop-file
invariant-loop-file l = blocks_in l.found ++ l.rest ≡ l.files

abbrev pub decreases-loop-file : goal.decreases-loop-file
decreases-loop-file l = length l.rest
