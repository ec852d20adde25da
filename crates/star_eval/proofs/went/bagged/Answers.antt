use Rattle.std.proofs.Common.{sym, ap}
use Rattle.star_eval.specs.declared.frame.Control.TheVariants as control
use Rattle.star_eval.specs.Frames.{inside}
use Rattle.star_eval.specs.View.{waiting_with}
use Rattle.star_eval.proofs.Going.{goes}
use Rattle.star_eval.proofs.went.bagged.Goals as goal

pub returns : goal.returns
returns c =
    let m = c.args.m.now in
    goes _ c.misplaced-in-Native.result c.misplaced-in-Native.new.m (sym (ap (λ f. inside m (waiting_with m f) (control.Bagged c.args.bag)) c.in-Native.is)) c.misplaced-in-Native.ensures
