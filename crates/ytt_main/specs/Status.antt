-- The exit statuses of the program.
use Rattle.std.specs.Prelude.{ℕ}
use Rattle.ytt_main.specs.declared.run.Status.{Status}
use Rattle.ytt_main.specs.declared.run.Status.TheVariants as status

abbrev pub code_of : Status → ℕ
code_of status.Done = 0
code_of status.Fault = 1
code_of status.Usage = 2
code_of status.ReadFault = 3
code_of status.WriteFault = 4
code_of status.Memory = 5
