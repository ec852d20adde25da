use Rattle.std.proofs.Common.{◌≡◌, drop}
use Rattle.module_spec.specs.Answering.{row_in}
use Rattle.mod_codec.specs.View.{named_rows}
use Rattle.mod_codec.proofs.table.codec_among.Given as goal

abbrev pub invariant-loop-codec : goal.invariant-loop-codec
invariant-loop-codec l = row_in l.name (named_rows l.codecs) ≡ row_in l.name (named_rows (drop l.codec-index l.codecs))
