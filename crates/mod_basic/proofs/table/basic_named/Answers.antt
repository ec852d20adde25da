use Rattle.module_spec.specs.Answering.{codec_natives}
use Rattle.mod_basic.proofs.Calling.{basic_rows, named_row}
use Rattle.mod_basic.proofs.table.basic_named.Goals as goal

pub returns : goal.returns
returns c = named_row c.args.name.now basic_rows codec_natives c.basic_among.result c.basic_among.ensures
