use Rattle.std.proofs.Common.{◌<ℤ◌, ◌≤ℤ◌, true≢false, ◌∙◌, sym, arith}
use Rattle.std.proofs.lemmas.Int.{ints}
use Rattle.star_integers.proofs.Progressions.{distance_passed, is_in_down, is_in_up, not_in_down, not_in_up, size_passed}
use Rattle.star_integers.proofs.ranges.in_range.Goals as goal
use Rattle.star_integers.proofs.ranges.in_range.Goals.{then-start-number, else-start-number, then-stop-number, else-stop-number}

pub returns-then-number-stop : goal.returns-then-number-stop
returns-then-number-stop c =
    let start = c.args.start in
    let stop = c.args.stop in
    let step = c.args.step in
    let number = c.args.number in
    let both : (start ≤ℤ number) × (number <ℤ stop) =
    elim c.if-start-number.branch as (λ x. (start ≤ℤ number) × (number <ℤ stop)) [
      | then-start-number w ↦ (grind (arith, ints, w.if-start-number.true), grind (arith, ints, sym w.value-is ∙ c.if-number-stop.true))
      | else-start-number w ↦ absurd (true≢false (sym c.if-number-stop.true ∙ w.value-is ∙ w.if-start-number.false))
    ] in
    is_in_up start stop step number c.abs_diff.result c.unsigned_abs.result (grind (arith, ints, c.if-step-gt0.true)) both.0 both.1
    (distance_passed number start c.abs_diff.result c.ranges.number c.ranges.start c.abs_diff.ensures) (size_passed step c.unsigned_abs.result c.ranges.step c.unsigned_abs.ensures.value)

pub returns-else-number-stop : goal.returns-else-number-stop
returns-else-number-stop c = c.if-number-stop.false ∙ not_in_up c.args.start c.args.stop c.args.step c.args.number (grind (arith, ints, c.if-step-gt0.true))
    (elim c.if-start-number.branch as (λ x. c.args.start ≤ℤ c.args.number → c.args.number <ℤ c.args.stop → ⊥) [
      | then-start-number w ↦ λ from below. grind (arith, ints, sym w.value-is ∙ c.if-number-stop.false)
      | else-start-number w ↦ λ from below. grind (arith, ints, w.if-start-number.false)
    ])

pub returns-then-number-start : goal.returns-then-number-start
returns-then-number-start c =
    let start = c.args.start in
    let stop = c.args.stop in
    let step = c.args.step in
    let number = c.args.number in
    let far = c.abs_diff-then-number-start in
    let by = c.unsigned_abs-then-number-start in
    let both : (stop <ℤ number) × (number ≤ℤ start) =
    elim c.if-stop-number.branch as (λ x. (stop <ℤ number) × (number ≤ℤ start)) [
      | then-stop-number w ↦ (grind (arith, ints, w.if-stop-number.true), grind (arith, ints, sym w.value-is ∙ c.if-number-start.true))
      | else-stop-number w ↦ absurd (true≢false (sym c.if-number-start.true ∙ w.value-is ∙ w.if-stop-number.false))
    ] in
    is_in_down start stop step number far.result by.result (grind (arith, ints, c.if-step-lt0.true)) both.0 both.1
    (distance_passed start number far.result c.ranges.start c.ranges.number far.ensures) (size_passed step by.result c.ranges.step by.ensures.value)

pub returns-else-number-start : goal.returns-else-number-start
returns-else-number-start c = c.if-number-start.false ∙ not_in_down c.args.start c.args.stop c.args.step c.args.number (grind (arith, ints, c.if-step-lt0.true))
    (elim c.if-stop-number.branch as (λ x. c.args.stop <ℤ c.args.number → c.args.number ≤ℤ c.args.start → ⊥) [
      | then-stop-number w ↦ λ above from. grind (arith, ints, sym w.value-is ∙ c.if-number-start.false)
      | else-stop-number w ↦ λ above from. grind (arith, ints, w.if-stop-number.false)
    ])
