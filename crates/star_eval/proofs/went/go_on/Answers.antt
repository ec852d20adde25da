use Rattle.std.proofs.Common.{sym, ap, ◌∙◌}
use Rattle.value_spec.specs.Outcomes.{done}
use Rattle.star_eval.specs.declared.frame.InBlock.TheVariants as in_block
use Rattle.star_eval.specs.Frames.{around_flow, flow_of}
use Rattle.star_eval.specs.Meets.{arena_of, state_of}
use Rattle.star_eval.specs.View.{arena_in, block_frame, nodes_in, setting_of, waiting_in}
use Rattle.star_eval.specs.Waiting.{block_ends, unwind_flow}
use Rattle.star_eval.proofs.Going.{goes}
use Rattle.star_eval.proofs.Growing.{kept}
use Rattle.star_eval.proofs.Walks.{flow_kept, flow_owned}
use Rattle.star_eval.proofs.went.go_on.Goals as goal

pub returns-in_ok-end-in-WalkEnd : goal.returns-in_ok-end-in-WalkEnd
returns-in_ok-end-in-WalkEnd c =
    let m = c.args.m.now in
    let a = arena_in m in
    let s = c.end.new.session in
    let e = c.in_ok-end-in-WalkEnd.ensures in
    let k = kept m s e.grows c.requires.sound in
    record {
      same = (λ i. unwind_flow (k.setting i) (k.waiting i) (done (flow_of (arena_of s) c.args.flow (k.nodes i)) (e.state i)))
          ∙ (λ i. around_flow m (waiting_in m) (block_ends (setting_of m) (block_frame a m.code.file (sym c.in-WalkEnd.is i)) (done (flow_kept a (arena_of s) c.args.flow (nodes_in m) e.held i) (state_of m.session))));
      sound = k.sound;
      owned = flow_owned a (arena_of s) c.args.flow e.grows c.requires.flow;
      grows = k.grows;
    }

pub returns-in-On-flow : goal.returns-in-On-flow
returns-in-On-flow c =
    let m = c.args.m.now in
    let b = c.in-Turn in
    let is = b.is ∙ ap (in_block.Turn b.place b.target b.body) (sym c.into_inner.ensures) in
    goes _ c.turn.result c.turn.new.m
    (sym (λ i. around_flow m (waiting_in m) (block_ends (setting_of m) (block_frame (arena_in m) m.code.file (is i)) (done (flow_of (arena_in m) (c.in-On-flow.is i) (nodes_in m)) (state_of m.session)))))
    c.turn.ensures

pub returns-in-Continue-flow : goal.returns-in-Continue-flow
returns-in-Continue-flow c =
    let m = c.args.m.now in
    let b = c.in-Turn in
    let is = b.is ∙ ap (in_block.Turn b.place b.target b.body) (sym c.into_inner-in-Continue-flow.ensures) in
    goes _ c.turn-in-Continue-flow.result c.turn-in-Continue-flow.new.m
    (sym (λ i. around_flow m (waiting_in m) (block_ends (setting_of m) (block_frame (arena_in m) m.code.file (is i)) (done (flow_of (arena_in m) (c.in-Continue-flow.is i) (nodes_in m)) (state_of m.session)))))
    c.turn-in-Continue-flow.ensures
