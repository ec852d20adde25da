use Rattle.std.proofs.Common.{[], refl, append-nil}
use Rattle.yaml_print.proofs.Printers.{put_cut, put_failed, put_sent}
use Rattle.yaml_print.proofs.printer.Printer.flush.Goals as goal

pub returns-then-self-clause-puts : goal.returns-then-self-clause-puts
returns-then-self-clause-puts g c = put_failed _ _ c.args.self.now [] c.if-self.true

pub returns-in-Ok-clause-puts : goal.returns-in-Ok-clause-puts
returns-in-Ok-clause-puts g c = put_sent _ _ c.args.self.now _ [] c.if-self.false c.if-self.false refl refl (rw append-nil c.in-Ok.ensures.bytes) c.in-Ok.ensures.cause refl

pub returns-in-Err-clause-puts : goal.returns-in-Err-clause-puts
returns-in-Err-clause-puts g c = put_cut _ _ c.args.self.now _ [] c.if-self.false refl refl refl (rw append-nil c.in-Err.ensures.bytes) c.in-Err.ensures.cause
