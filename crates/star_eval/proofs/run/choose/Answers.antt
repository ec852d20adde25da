use Rattle.std.proofs.Common.{rules, ◌≡◌, sym, ap}
use Rattle.code_spec.specs.Blocks.{else_arm, arm}
use Rattle.star_blocks.specs.Nested.{arms_of, ops_of}
use Rattle.star_blocks.specs.declared.block.Arm.{the_lemmas}
use Rattle.star_values.proofs.Growing.{grows_same}
use Rattle.star_eval.specs.Doing.{arms_done}
use Rattle.star_eval.specs.Frames.{around_flow}
use Rattle.star_eval.specs.Meets.{state_of}
use Rattle.star_eval.specs.View.{nodes_in, setting_of, waiting_in, arena_in}
use Rattle.star_tree.specs.Whole.{expr_of}
use Rattle.star_eval.proofs.Going.{goes}
use Rattle.star_eval.proofs.run.choose.Goals as goal

pub returns-in-Some-Else-default : goal.returns-in-Some-Else-default
returns-in-Some-Else-default c =
    let m = c.args.m.now in
    let f = m.code.file in
    let is : arms_of f c.args.arms.now ≡ else_arm (ops_of f c.as_slice.result.now) = search (rules, the_lemmas) in
    record {
      same = ap (λ bs. around_flow m (waiting_in m) (arms_done (setting_of m) bs (nodes_in m) (state_of m.session))) (sym is);
      sound = c.requires;
      owned = tt;
      grows = grows_same (arena_in m);
    }

pub returns-in-Some-Test-default : goal.returns-in-Some-Test-default
returns-in-Some-Test-default c =
    let m = c.args.m.now in
    let f = m.code.file in
    let is : arms_of f c.args.arms.now ≡ arm (expr_of f c.get.result.now) (ops_of f c.as_slice-in-Some-Test-default.result.now) (arms_of f c.in-Some-Test-default.more.now) = search (rules, the_lemmas) in
    goes _ c.within.result c.within.new.m
    (sym (ap (λ bs. around_flow m (waiting_in m) (arms_done (setting_of m) bs (nodes_in m) (state_of m.session))) is))
    c.within.ensures
