use Rattle.std.proofs.Common.{refl}
use Rattle.yaml_print.proofs.Printers.{put_cut, put_failed, put_sent}
use Rattle.yaml_print.proofs.printer.Printer.write.Goals as goal

pub returns-then-self : goal.returns-then-self
returns-then-self g c = put_failed _ _ c.args.self.now c.args.bytes.now c.if-self.true

pub returns-in-Ok : goal.returns-in-Ok
returns-in-Ok g c =
    let none = c.requires c.if-self.false in
    put_sent _ _ c.args.self.now _ c.args.bytes.now c.if-self.false c.if-self.false refl refl (rw none c.in-Ok.ensures.bytes) c.in-Ok.ensures.cause none

pub returns-in-Err : goal.returns-in-Err
returns-in-Err g c =
    let none = c.requires c.if-self.false in
    put_cut _ _ c.args.self.now _ c.args.bytes.now c.if-self.false refl refl refl (rw none c.in-Err.ensures.bytes) c.in-Err.ensures.cause
