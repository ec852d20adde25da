use Rattle.std.proofs.Common.{length}
use Rattle.star_build.proofs.blocks.+is_in_loop.Given as goal

abbrev pub decreases-is_in_loop : goal.decreases-is_in_loop
decreases-is_in_loop l = length l.blocks.now
