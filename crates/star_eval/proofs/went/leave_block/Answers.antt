use Rattle.std.proofs.Common.{sym, ap, ◌∙◌}
use Rattle.value_spec.specs.Outcomes.{bad}
use Rattle.star_eval.specs.Frames.{around_flow}
use Rattle.star_eval.specs.Meets.{state_of}
use Rattle.star_eval.specs.View.{arena_in, block_frame, setting_of, waiting_in}
use Rattle.star_eval.specs.Waiting.{block_ends, unwind_flow}
use Rattle.star_eval.proofs.Growing.{kept}
use Rattle.star_eval.proofs.went.leave_block.Goals as goal

pub returns-in_ok-end-in-WalkEnd : goal.returns-in_ok-end-in-WalkEnd
returns-in_ok-end-in-WalkEnd c =
    let m = c.args.m.now in
    let e = c.in_ok-end-in-WalkEnd.ensures in
    let k = kept m c.end.new.session e.grows c.requires.sound in
    record {
      same = (λ i. unwind_flow (k.setting i) (k.waiting i) (bad c.args.fault (e.state i)))
          ∙ sym (ap (λ f. around_flow m (waiting_in m) (block_ends (setting_of m) (block_frame (arena_in m) m.code.file f) (bad c.args.fault (state_of m.session)))) c.in-WalkEnd.is);
      sound = k.sound;
      owned = tt;
      grows = k.grows;
    }
