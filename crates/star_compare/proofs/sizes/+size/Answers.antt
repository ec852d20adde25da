use Rattle.star_steps.proofs.Names.{◌-◌, seen, values_of, as_is, state_in, meets_same}
use Rattle.star_compare.proofs.Levels.{one_less, sized_next}
use Rattle.star_compare.proofs.sizes.+size.Goals as goal

pub pay_members-returns : goal.pay_members-returns
pay_members-returns t c =
    let a = seen c.args.arena.now in
    meets_same as_is c.pay_each.result (state_in a c.pay_each.new.steps) _ _
    (sized_next c.args.ranks c.args.at.levels (c.args.at.levels - 1) c.args.at.place (values_of a c.args.values.now) (state_in a c.args.steps.now) (one_less c.args.at.levels c.if-at-eq0.false)) c.pay_each.ensures
