use Rattle.star_steps.proofs.Names.{◌-◌, seen, value_of, as_is, state_in, meets_same}
use Rattle.star_values.specs.declared.value.Value.TheVariants as value
use Rattle.star_compare.proofs.Levels.{ranges_next}
use Rattle.star_compare.proofs.equality.ranges_equal.Goals as goal

pub returns : goal.returns
returns c =
    let a = seen c.args.arena.now in
    meets_same as_is c.numbers_equal.result (state_in a c.numbers_equal.new.steps) _ _
    (ranges_next c.args.at.levels c.args.at.place (value_of a (value.Range c.args.left)) (value_of a (value.Range c.args.right)) c.bounds-first.result c.bounds-second.result (state_in a c.args.steps.now) c.if-at-eq0.false c.bounds-first.ensures c.bounds-second.ensures)
    (c.numbers_equal.ensures (c.args.at.levels - 1))
