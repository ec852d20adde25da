use Rattle.std.proofs.Common.{FitsSigned, pos, ◌<ℤ◌, rules, arith}
use Rattle.std.specs.Int.{w128}
use Rattle.std.proofs.lemmas.Int.{ints}
use Rattle.star_integers.proofs.Floor.{leaves_nothing, rest_exact, rest_kept, rest_lowered, rest_positive}
use Rattle.star_integers.proofs.integers.floor_rest.Goals as goal
use Rattle.star_integers.proofs.integers.floor_rest.Goals.{else-divisor-lt0-via-then-divisor-lt0+else-rest-ne0, else-divisor-lt0-via-else-divisor-lt0}

pub returns-then-rest-ne0-clause-value : goal.returns-then-rest-ne0-clause-value
returns-then-rest-ne0-clause-value c =
    let a = c.args.dividend in
    let d = c.args.divisor in
    let fits : FitsSigned w128 c.rem_euclid-rest.result = search rules in
    let negative : d <ℤ pos 0 = grind (arith, ints, c.if-divisor-lt0.true) in
    rest_lowered a d c.rem_euclid-rest.result c.ranges.dividend c.ranges.divisor fits c.rem_euclid-rest.ensures.value negative c.if-rest-ne0.true

pub returns-else-divisor-lt0-clause-value : goal.returns-else-divisor-lt0-clause-value
returns-else-divisor-lt0-clause-value c =
    let a = c.args.dividend in
    let d = c.args.divisor in
    let r = c.rem_euclid-rest.result in
    let fits : FitsSigned w128 r = search rules in
    rest_kept a d r c.ranges.dividend c.ranges.divisor fits c.rem_euclid-rest.ensures.value
    (elim c.else-divisor-lt0.branch [
      | else-divisor-lt0-via-then-divisor-lt0+else-rest-ne0 w ↦
          rest_exact a d (grind (arith, ints, w.if-divisor-lt0.true)) (leaves_nothing a d r c.ranges.dividend c.ranges.divisor fits c.rem_euclid-rest.ensures.value w.if-rest-ne0.false)
      | else-divisor-lt0-via-else-divisor-lt0 w ↦ rest_positive a d c.requires (grind (arith, ints, w.if-divisor-lt0.false))
    ])
