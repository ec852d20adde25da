use Rattle.std.proofs.Common.{length}
use Rattle.star_build.proofs.blocks.+is_in_function.Given as goal

abbrev pub decreases-is_in_function : goal.decreases-is_in_function
decreases-is_in_function l = length l.blocks.now
