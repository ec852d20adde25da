use Rattle.std.proofs.Common.{arith}
use Rattle.yaml_blocks.proofs.BlocksRead.{contents-le}
use Rattle.yaml_blocks.proofs.blocks.read_below.Goals as goal

pub returns-clause-within : goal.returns-clause-within
returns-clause-within c = omega (arith, c.in_ok-read_body.ensures.size, contents-le c.in_ok-indent.indent c.args.below.now)
