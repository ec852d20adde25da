use Rattle.star_steps.proofs.Names.{◌-◌, sym, ◌∙◌, seen, values_of}
use Rattle.star_compare.proofs.Levels.{one_less, ordered_next}
use Rattle.star_compare.proofs.order.+order.Goals as goal

pub members_order-returns : goal.members_order-returns
members_order-returns t c =
    let a = seen c.args.arena.now in
    c.each_order.ensures ∙ sym (ordered_next c.args.levels (c.args.levels - 1) a.store (values_of a c.args.left.now) (values_of a c.args.right.now) (one_less c.args.levels c.if-levels-eq0.false))
