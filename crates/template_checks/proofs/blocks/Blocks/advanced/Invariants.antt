use Rattle.std.proofs.Common.{◌≡◌, take}
use Rattle.template_pass.specs.Levels.{advanced}
use Rattle.template_checks.specs.Held.{blocks_of, opens_of}
use Rattle.template_checks.proofs.blocks.Blocks.advanced.Given as goal

abbrev pub invariant-loop-block : goal.invariant-loop-block
invariant-loop-block l = opens_of l.kept ≡ advanced l.level l.next (blocks_of (take l.block-index l.block-items))
