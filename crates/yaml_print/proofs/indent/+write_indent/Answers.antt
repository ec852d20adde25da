use Rattle.std.proofs.Common.{sym}
use Rattle.yaml_print.proofs.Indents.{spaces-inside}
use Rattle.yaml_print.proofs.Putting.{puts_then}
use Rattle.yaml_print.proofs.indent.+write_indent.Goals as goal

pub returns-in-Some : goal.returns-in-Some
returns-in-Some g t c = rw (spaces-inside c.args.indent.now c.in-Some.outer (sym c.in-Some.ensures)) (puts_then c.put.ensures c.write_indent.ensures)
