use Rattle.std.proofs.Common.{append-nil}
use Rattle.yaml_print.proofs.Printers.{finished_cut, finished_whole}
use Rattle.yaml_print.proofs.printer.Printer.finish.Goals as goal

pub returns-then-self : goal.returns-then-self
returns-then-self g c = λ start text h. finished_cut _ _ start _ text _ c.if-self.true (rw append-nil at (c.flush.ensures.puts.behind start text h))

pub returns : goal.returns
returns g c = λ start text h. finished_whole _ _ start _ text _ c.if-self.false (c.flush.ensures.empty c.if-self.false) (rw append-nil at (c.flush.ensures.puts.behind start text h))
