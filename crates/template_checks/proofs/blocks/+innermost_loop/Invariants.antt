use Rattle.std.proofs.Common.{length}
use Rattle.template_checks.proofs.blocks.+innermost_loop.Given as goal

abbrev pub decreases-innermost_loop : goal.decreases-innermost_loop
decreases-innermost_loop l = length l.blocks.now
