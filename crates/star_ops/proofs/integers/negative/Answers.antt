use Rattle.star_steps.proofs.Names.{FitsSigned, ap, rules, to_z-of_z, value_of, w128}
use Rattle.star_ops.proofs.IntegerRows.{negative_gives}
use Rattle.star_ops.proofs.integers.negative.Goals as goal

pub returns-in-Int : goal.returns-in-Int
returns-in-Int c a n =
    let z = c.in-Int.number in
    let fits : FitsSigned w128 z = search rules in
    negative_gives c.args.place z _ (value_of a c.args.value) c.negated.result c.at_place.result a n (ap (value_of a) c.in-Int.is) (to_z-of_z w128 z fits) c.negated.ensures c.at_place.ensures
