use Rattle.star_steps.proofs.Names.{seen, value_of, as_is, state_in, meets_same}
use Rattle.star_compare.proofs.Levels.{alike_values}
use Rattle.star_compare.proofs.equality.equal.Goals as goal

pub returns : goal.returns
returns c =
    let a = seen c.args.arena.now in
    meets_same as_is c.equal_within.result (state_in a c.equal_within.new.steps) _ _ (alike_values c.args.place (value_of a c.args.left) (value_of a c.args.right) (state_in a c.args.steps.now)) c.equal_within.ensures
