use Rattle.std.proofs.Common.{FitsSigned, pos, ◌<ℤ◌, rules, arith}
use Rattle.std.specs.Int.{w128}
use Rattle.std.proofs.lemmas.Int.{ints}
use Rattle.star_integers.proofs.Floor.{as_it_is, floor_same, floor_same_positive, leaves_nothing, leaves_something, less_by_one, passed}
use Rattle.star_integers.proofs.integers.floor_divide.Goals as goal
use Rattle.star_integers.proofs.integers.floor_divide.Goals.{else-divisor-lt0-via-then-divisor-lt0+else-rem_euclid-ne0, else-divisor-lt0-via-else-divisor-lt0}

pub returns-then-rem_euclid-ne0 : goal.returns-then-rem_euclid-ne0
returns-then-rem_euclid-ne0 c =
    let a = c.args.dividend in
    let d = c.args.divisor in
    let fits : FitsSigned w128 c.in_ok-quotient.quotient = search rules in
    let negative : d <ℤ pos 0 = grind (arith, ints, c.if-divisor-lt0.true) in
    less_by_one a d c.in_ok-quotient.quotient c.ranges.dividend fits (passed a d _ c.ranges.dividend c.ranges.divisor c.in_ok-quotient.ensures.1) negative
    (leaves_something a d c.rem_euclid.result c.ranges.dividend c.ranges.divisor c.rem_euclid.ensures.value c.if-rem_euclid-ne0.true)

pub returns-else-divisor-lt0 : goal.returns-else-divisor-lt0
returns-else-divisor-lt0 c =
    let a = c.args.dividend in
    let d = c.args.divisor in
    let fits : FitsSigned w128 c.in_ok-quotient.quotient = search rules in
    as_it_is a d c.in_ok-quotient.quotient fits (passed a d _ c.ranges.dividend c.ranges.divisor c.in_ok-quotient.ensures.1)
    (elim c.else-divisor-lt0.branch [
      | else-divisor-lt0-via-then-divisor-lt0+else-rem_euclid-ne0 w ↦
          let range : FitsSigned w128 w.rem_euclid.result = search rules in
          floor_same a d (grind (arith, ints, w.if-divisor-lt0.true)) (leaves_nothing a d w.rem_euclid.result c.ranges.dividend c.ranges.divisor range w.rem_euclid.ensures.value w.if-rem_euclid-ne0.false)
      | else-divisor-lt0-via-else-divisor-lt0 w ↦ floor_same_positive a d (grind (arith, ints, w.if-divisor-lt0.false))
    ])
