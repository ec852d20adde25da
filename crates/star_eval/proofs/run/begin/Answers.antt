use Rattle.std.proofs.Common.{rules, ◌≡◌, ◌==◌, Some, false, ap, sym, ◌∙◌}
use Rattle.star_blocks.specs.Nested.{statement_of}
use Rattle.star_eval.specs.Doing.{done_after, op_place}
use Rattle.star_eval.specs.Frames.{around_flow}
use Rattle.star_eval.specs.Meets.{state_of}
use Rattle.star_eval.specs.View.{nodes_in, setting_of, waiting_in}
use Rattle.star_eval.proofs.Going.{goes}
use Rattle.star_eval.proofs.Rows.{enough, step_taken}
use Rattle.star_eval.proofs.Says.{placed}
use Rattle.star_eval.proofs.run.begin.Goals as goal

pub returns : goal.returns
returns c =
    let m = c.args.m.now in
    let s = state_of m.session in
    let p = c.place_of-place.result in
    let o = statement_of m.code.file c.args.statement.now in
    let is : op_place o ≡ Some p = sym c.place_of-place.ensures in
    let some : (m.session.work.steps == 0) ≡ false = search rules in
    goes _ c.act.result c.act.new.m
    (ap (around_flow m (waiting_in m)) (sym (step_taken p (done_after (setting_of m) p o (nodes_in m)) s (enough m.session.work.steps some)) ∙ (λ i. placed (setting_of m) o p (nodes_in m) is i s)))
    c.act.ensures
