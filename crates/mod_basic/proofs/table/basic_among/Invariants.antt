use Rattle.std.proofs.Common.{◌≡◌, drop}
use Rattle.module_spec.specs.Answering.{row_in}
use Rattle.mod_basic.specs.View.{named_rows}
use Rattle.mod_basic.proofs.table.basic_among.Given as goal

abbrev pub invariant-loop-basic : goal.invariant-loop-basic
invariant-loop-basic l = row_in l.name (named_rows l.basics) ≡ row_in l.name (named_rows (drop l.basic-index l.basics))
