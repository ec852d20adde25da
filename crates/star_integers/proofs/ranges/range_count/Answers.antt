use Rattle.std.proofs.Common.{arith}
use Rattle.std.proofs.lemmas.Int.{ints}
use Rattle.star_integers.proofs.Progressions.{count_down, count_up, distance_passed, size_passed}
use Rattle.star_integers.proofs.ranges.range_count.Goals as goal

pub returns-then-start-stop : goal.returns-then-start-stop
returns-then-start-stop c =
    let start = c.args.start in
    let stop = c.args.stop in
    let step = c.args.step in
    count_up start stop step c.abs_diff.result c.unsigned_abs.result (grind (arith, ints, c.if-step-gt0.true)) (grind (arith, ints, c.if-start-stop.true))
    (distance_passed stop start c.abs_diff.result c.ranges.stop c.ranges.start c.abs_diff.ensures) (size_passed step c.unsigned_abs.result c.ranges.step c.unsigned_abs.ensures.value)

pub returns-then-stop-start : goal.returns-then-stop-start
returns-then-stop-start c =
    let start = c.args.start in
    let stop = c.args.stop in
    let step = c.args.step in
    let far = c.abs_diff-then-stop-start in
    let by = c.unsigned_abs-then-stop-start in
    count_down start stop step far.result by.result (grind (arith, ints, c.if-step-lt0.true)) (grind (arith, ints, c.if-stop-start.true))
    (distance_passed start stop far.result c.ranges.start c.ranges.stop far.ensures) (size_passed step by.result c.ranges.step by.ensures.value)
