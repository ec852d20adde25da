use Rattle.std.proofs.Common.{◌≡◌, IfOk, Result, false, refl, sym, ap, ◌∙◌}
use Rattle.ytt_base.specs.declared.fault.FaultKind.TheVariants as kind
use Rattle.ytt_base.specs.Outcomes.{fault_of}
use Rattle.star_eval.specs.declared.frame.Control.{Control}
use Rattle.star_eval.specs.declared.frame.Control.TheVariants as control
use Rattle.star_eval.specs.declared.frame.Frame.{Frame}
use Rattle.star_eval.specs.declared.frame.Machine.{Machine}
use Rattle.star_eval.specs.declared.frame.Flow.{Flow}
use Rattle.star_eval.specs.Frames.{Goes, flow_of, inside}
use Rattle.star_eval.specs.Meets.{state_of}
use Rattle.star_eval.specs.View.{arena_in, frame_of, nodes_in, setting_of, waiting_under, waiting_with}
use Rattle.star_eval.proofs.Going.{goes}
use Rattle.star_eval.proofs.Sorts.{flow_misplaced, takes_flow}
use Rattle.star_eval.proofs.went.went.Goals as goal

-- a frame that waits for no block
lost : {E : Type 0} (m n : Machine) (f g : Frame) (w : Flow) (r : Result Control E) → f ≡ g → takes_flow (frame_of (arena_in m) m.code g) ≡ false →
    IfOk r (λ c. Goes (arena_in m) n c (inside m (waiting_with m g) (control.Failed (fault_of kind.CodeForm)))) → IfOk r (λ c. Goes (arena_in m) n c (inside m (waiting_with m f) (control.Went w)))
lost m n f g w r is other h =
    let a = arena_in m in
    goes a r n (sym (ap (λ f. inside m (waiting_with m f) (control.Went w)) is ∙ flow_misplaced (setting_of m) (nodes_in m) (waiting_under m g) (state_of m.session) (frame_of a m.code g) (flow_of a w (nodes_in m)) other)) h

pub returns-in-Value : goal.returns-in-Value
returns-in-Value c = lost c.args.m.now c.misplaced.new.m c.args.frame _ c.args.flow c.misplaced.result c.in-Value.is refl c.misplaced.ensures

pub returns-in-Element : goal.returns-in-Element
returns-in-Element c = lost c.args.m.now c.misplaced-in-Element.new.m c.args.frame _ c.args.flow c.misplaced-in-Element.result c.in-Element.is refl c.misplaced-in-Element.ensures

pub returns-in-Clauses : goal.returns-in-Clauses
returns-in-Clauses c = lost c.args.m.now c.misplaced-in-Clauses.new.m c.args.frame _ c.args.flow c.misplaced-in-Clauses.result c.in-Clauses.is refl c.misplaced-in-Clauses.ensures

pub returns-in-Gather : goal.returns-in-Gather
returns-in-Gather c = lost c.args.m.now c.misplaced-in-Gather.new.m c.args.frame _ c.args.flow c.misplaced-in-Gather.result c.in-Gather.is refl c.misplaced-in-Gather.ensures

pub returns-in-Native : goal.returns-in-Native
returns-in-Native c = lost c.args.m.now c.misplaced-in-Native.new.m c.args.frame _ c.args.flow c.misplaced-in-Native.result c.in-Native.is refl c.misplaced-in-Native.ensures
