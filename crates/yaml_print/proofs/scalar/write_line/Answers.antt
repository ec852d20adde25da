use Rattle.ytt_base.proofs.Views.{tree_of-Bool, tree_of-Str}
use Rattle.yaml_print.proofs.Putting.{puts_then}
use Rattle.yaml_print.proofs.scalar.write_line.Goals as goal

pub returns-in-Bool : goal.returns-in-Bool
returns-in-Bool g c = rw (c.in-Bool.is, tree_of-Bool) (puts_then c.write_bool.ensures c.put-in-Bool.ensures)

pub returns-in-Str : goal.returns-in-Str
returns-in-Str g c = rw (c.in-Str.is, tree_of-Str) (rw c.as_str.ensures at c.write_string_value.ensures)
