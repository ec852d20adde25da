use Rattle.star_read.proofs.Stopping.{part_read}
use Rattle.star_read.proofs.reader.read_part.Goals as goal

pub returns : goal.returns
returns c = part_read (Unit {0}) c.args.start c.args.tokens.now c.read_tokens-read.result c.read_tokens-read.new.machine.parts _ c.read_tokens-read.ensures c.last_if.ensures
