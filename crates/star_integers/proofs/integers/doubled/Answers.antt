use Rattle.std.proofs.Common.{◌-◌, ◌/◌, FitsSigned, rules, arith}
use Rattle.std.specs.Int.{w128}
use Rattle.star_integers.proofs.Shifts.{both_parts, not_zero, part_too_far, too_far}
use Rattle.star_integers.proofs.integers.doubled.Goals as goal

pub returns-then-places-ge128 : goal.returns-then-places-ge128
returns-then-places-ge128 c = too_far c.args.number c.args.places (not_zero c.args.number c.ranges.number c.if-number-eq0.false) (grind (arith, c.if-places-ge128.true))

pub returns-in_err-part : goal.returns-in_err-part
returns-in_err-part c =
    part_too_far c.args.number (c.args.places / 2) c.args.places c.from_residual.result (omega arith) c.ranges.number c.in_err-part.ensures c.from_residual.ensures

pub returns : goal.returns
returns c =
    let fits : FitsSigned w128 c.in_ok-part.part = search rules in
    both_parts c.args.number c.in_ok-part.part (c.args.places / 2) (c.args.places - c.args.places / 2) c.args.places c.times_power-2.result (omega arith) c.ranges.number fits c.in_ok-part.ensures.1 c.times_power-2.ensures
