use Rattle.star_steps.proofs.Names.{repeat_row, seen, value_of, Gives, state_in}
use Rattle.star_values.specs.declared.value.Value.TheVariants as value
use Rattle.star_ops.proofs.IntegerRows.{one_passed}
use Rattle.star_ops.proofs.products.repeat.Goals as goal

pub returns-in-List : goal.returns-in-List
returns-in-List c =
    let a = seen c.args.arena.now in
    rw c.in-List.is
    (one_passed (λ z. Gives (repeat_row c.args.place (value_of a (value.List c.in-List.list)) z (state_in a c.args.steps.now)) c.repeat_list.result a (seen c.repeat_list.new.arena) c.repeat_list.new.steps) c.args.times c.ranges.times c.repeat_list.ensures)
