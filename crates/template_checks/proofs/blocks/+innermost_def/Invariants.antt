use Rattle.std.proofs.Common.{length}
use Rattle.template_checks.proofs.blocks.+innermost_def.Given as goal

abbrev pub decreases-innermost_def : goal.decreases-innermost_def
decreases-innermost_def l = length l.blocks.now
