use Rattle.std.proofs.Common.{pos, ◌<ℤ◌, ◌≤ℤ◌, ◌≤◌, arith}
use Rattle.std.proofs.lemmas.Int.{ints}
use Rattle.star_integers.proofs.Shifts.{all_ones, all_zeros}
use Rattle.star_integers.proofs.integers.halved.Goals as goal

pub returns-then-number-lt0-clause-value : goal.returns-then-number-lt0-clause-value
returns-then-number-lt0-clause-value c =
    let negative : c.args.number <ℤ pos 0 = grind (arith, ints, c.if-number-lt0.true) in
    let far : 127 ≤ c.args.places = grind (arith, c.if-places-ge127.true) in
    all_ones c.args.number c.args.places c.ranges.number negative far

pub returns-else-number-lt0-clause-value : goal.returns-else-number-lt0-clause-value
returns-else-number-lt0-clause-value c =
    let positive : pos 0 ≤ℤ c.args.number = grind (arith, ints, c.if-number-lt0.false) in
    let far : 127 ≤ c.args.places = grind (arith, c.if-places-ge127.true) in
    all_zeros c.args.number c.args.places c.ranges.number positive far
