use Rattle.std.proofs.Common.{◌≡◌, length}
use Rattle.star_blocks.specs.Nested.{ops_of}
use Rattle.template_meaning.specs.Files.{ops_loads}
use Rattle.file_load.proofs.statements.next_load.Given as goal

abbrev pub invariant-loop-first : goal.invariant-loop-first
invariant-loop-first l = ops_loads (ops_of l.file l.block) ≡ ops_loads (ops_of l.file l.rest)

abbrev pub decreases-loop-first : goal.decreases-loop-first
decreases-loop-first l = length l.rest
