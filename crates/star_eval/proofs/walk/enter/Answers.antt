use Rattle.std.proofs.Common.{◌≡◌, ◌++◌, ◌∷◌, [], refl, ap, ◌∙◌}
use Rattle.star_blocks.specs.Nested.{ops_of}
use Rattle.star_tree.specs.Whole.{expr_of}
use Rattle.star_values.specs.View.{value_of}
use Rattle.star_eval.specs.declared.frame.Frame.TheVariants as frame
use Rattle.star_eval.specs.declared.frame.InBlock.TheVariants as in_block_frame
use Rattle.star_eval.specs.Meets.{state_of}
use Rattle.star_eval.specs.View.{arena_in, nodes_in, setting_of}
use Rattle.star_eval.specs.Waiting.{turn_of, unwind_flow}
use Rattle.star_values.proofs.Growing.{grows_same}
use Rattle.star_eval.proofs.Going.{goes}
use Rattle.star_eval.proofs.Walks.{pushed_waits}
use Rattle.star_eval.proofs.walk.enter.Goals as goal

pub returns : goal.returns
returns c =
    let m = c.args.m.now in
    let x = expr_of m.code.file c.args.target.now in
    let os = ops_of m.code.file c.args.body.now in
    let v = value_of (arena_in m) c.args.value in
    let turn = frame.Block (in_block_frame.Turn c.args.place c.args.target c.args.body c.args.source) in
    let more : c.push.new.self ≡ m.frames ++ turn ∷ [] = c.in_ok-push.ensures.ok ∙ ap (λ s. m.frames ++ frame.Block (in_block_frame.Turn c.args.place c.args.target c.args.body s) ∷ []) c.in_ok-source.ensures in
    let waits = pushed_waits m m.session turn c.push.new.self (grows_same (arena_in m)) c.requires.sound c.requires.source more refl in
    goes _ c.bound.result c.bound.new.m (λ i. unwind_flow (setting_of m) (waits i) (turn_of (setting_of m) c.args.place x os v (nodes_in m) (state_of m.session))) c.bound.ensures
