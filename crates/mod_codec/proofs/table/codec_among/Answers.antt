use Rattle.std.proofs.Common.{rules}
use Rattle.mod_codec.proofs.Tables.{found}
use Rattle.mod_codec.proofs.table.codec_among.Goals as goal

pub returns-then-eq : goal.returns-then-eq
returns-then-eq c = found c.args.name.now c.args.codecs.now c.loop-codec.codec-index _ c.loop-codec-test.true (search rules) c.loop-codec.invariant
