use Rattle.std.proofs.Common.{◌≡◌, true, if◌then◌else◌, sym, ap, ◌∙◌}
use Rattle.star_blocks.specs.Nested.{arms_of, ops_of}
use Rattle.star_values.proofs.Growing.{grows_same}
use Rattle.value_spec.specs.Members.{truth_in}
use Rattle.star_values.specs.View.{value_of}
use Rattle.star_eval.specs.Frames.{around_flow}
use Rattle.star_eval.specs.Meets.{state_of}
use Rattle.star_eval.specs.View.{arena_in, nodes_in, setting_of, statement_frame, waiting_in}
use Rattle.star_eval.specs.Waiting.{statement_goes}
use Rattle.star_eval.proofs.Going.{goes}
use Rattle.star_eval.specs.Doing.{arms_done, through}
use Rattle.star_eval.proofs.give.give_statement.Goals as goal

pub returns-in-Walk : goal.returns-in-Walk
returns-in-Walk c =
    let m = c.args.m.now in
    let a = arena_in m in
    goes _ c.walk.result c.walk.new.m (sym (ap (λ f. around_flow m (waiting_in m) (statement_goes (setting_of m) (statement_frame a m.code.file f) (value_of a c.args.value) (nodes_in m) (state_of m.session))) c.in-Walk.is)) c.walk.ensures

pub returns-in-AugmentOf : goal.returns-in-AugmentOf
returns-in-AugmentOf c =
    let m = c.args.m.now in
    let a = arena_in m in
    goes _ c.within.result c.within.new.m (sym (ap (λ f. around_flow m (waiting_in m) (statement_goes (setting_of m) (statement_frame a m.code.file f) (value_of a c.args.value) (nodes_in m) (state_of m.session))) c.in-AugmentOf.is)) c.within.ensures

pub returns-in-AugmentIndex : goal.returns-in-AugmentIndex
returns-in-AugmentIndex c =
    let m = c.args.m.now in
    let a = arena_in m in
    goes _ c.augmented_at.result c.augmented_at.new.m (sym (ap (λ f. around_flow m (waiting_in m) (statement_goes (setting_of m) (statement_frame a m.code.file f) (value_of a c.args.value) (nodes_in m) (state_of m.session))) c.in-AugmentIndex.is)) c.augmented_at.ensures

pub returns-in-AssignTo : goal.returns-in-AssignTo
returns-in-AssignTo c =
    let m = c.args.m.now in
    let a = arena_in m in
    goes _ c.target_gets.result c.target_gets.new.m (sym (ap (λ f. around_flow m (waiting_in m) (statement_goes (setting_of m) (statement_frame a m.code.file f) (value_of a c.args.value) (nodes_in m) (state_of m.session))) c.in-AssignTo.is)) c.target_gets.ensures

pub returns-then-truth : goal.returns-then-truth
returns-then-truth c =
    let m = c.args.m.now in
    let a = arena_in m in
    let b = c.in-Branch in
    let v = value_of a c.args.value in
    let k = nodes_in m in
    let s = state_of m.session in
    let holds : true ≡ truth_in a.store v = sym c.if-truth.true ∙ c.truth.ensures in
    let here = through (setting_of m) (ops_of m.code.file b.body.now) in
    let others = arms_done (setting_of m) (arms_of m.code.file b.more.now) in
    record {
      same = (λ i. around_flow m (waiting_in m) ((if holds i then here k else others k) s)) ∙ sym (ap (λ f. around_flow m (waiting_in m) (statement_goes (setting_of m) (statement_frame a m.code.file f) v k s)) b.is);
      sound = c.requires.sound;
      owned = tt;
      grows = grows_same a;
    }
