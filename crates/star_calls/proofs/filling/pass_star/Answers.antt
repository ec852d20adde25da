use Rattle.object_arena.specs.Names.{seen}
use Rattle.star_steps.specs.Meets.{state_in}
use Rattle.star_tree.specs.Whole.{parameters_from}
use Rattle.star_calls.specs.Left.{rest_of}
use Rattle.star_calls.proofs.Filled.{star_passed, star_refused}
use Rattle.star_calls.proofs.Fills.{fills_refused}
use Rattle.star_calls.proofs.Taking.{no_positions, some_positions}
use Rattle.star_calls.proofs.filling.pass_star.Goals as goal

pub returns-then-is_empty : goal.returns-then-is_empty
returns-then-is_empty c = λ n qs.
    let a = seen c.args.arena.now in
    star_passed c.args.at (parameters_from qs) (rest_of a c.args.left.now) (state_in a n) (no_positions a c.args.left.now.positions.now c.if-is_empty.ensures)

pub returns : goal.returns
returns c = λ n qs.
    let a = seen c.args.arena.now in
    fills_refused c.args.at c.refusal.result _ _ _ c.refusal.ensures
    (star_refused c.args.at (parameters_from qs) (rest_of a c.args.left.now) (state_in a n) (some_positions a c.args.left.now.positions.now c.if-is_empty.ensures))
