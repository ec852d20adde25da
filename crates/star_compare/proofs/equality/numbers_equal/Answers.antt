use Rattle.star_steps.proofs.Names.{◌≡◌, ◌<◌, true, false, Err, FitsSigned, of_z, w128, ap, subst, ◌∙◌, rules, range_count, seen, as_is, state_in, meets_same}
use Rattle.star_integers.proofs.Progressions.{number_passed, other_integers, same_integers}
use Rattle.star_compare.proofs.Numbers.{numbers_begin, numbers_end, numbers_next, numbers_stop, numbers_unlike}
use Rattle.star_compare.proofs.equality.numbers_equal.Goals as goal

pub returns-then-count-range_count : goal.returns-then-count-range_count
returns-then-count-range_count c = λ k.
    let l = c.args.left in
    let r = c.args.right in
    let counted : c.range_count-count.result ≡ range_count l.0 l.1 l.2 = search rules in
    let other : c.range_count.result ≡ range_count r.0 r.1 r.2 = search rules in
    numbers_unlike k c.args.place l r c.range_count-count.result c.range_count.result (state_in (seen c.args.arena.now) c.args.steps.now) counted other c.if-count-range_count.true

pub loop-number-init : goal.loop-number-init
loop-number-init c = λ k.
    let l = c.args.left in
    let r = c.args.right in
    let counted : c.range_count-count.result ≡ range_count l.0 l.1 l.2 = search rules in
    let other : c.range_count.result ≡ range_count r.0 r.1 r.2 = search rules in
    numbers_begin k c.args.place l r c.range_count-count.result (state_in (seen c.args.arena.now) c.args.steps.now) counted (c.if-count-range_count.false ∙ other)

pub returns-in_err-pay : goal.returns-in_err-pay
returns-in_err-pay c = λ k.
    let stopped : c.from_residual.result ≡ Err c.in_err-pay.field-0.0 = search rules in
    meets_same as_is c.from_residual.result _ _ _ (c.loop-number.invariant k)
    (numbers_stop k c.args.place c.args.left c.args.right c.range_count-count.result c.loop-number.number c.in_err-pay.field-0.0 _ _ c.from_residual.result c.loop-number-test.true c.in_err-pay.ensures stopped)

pub number_at-requires : goal.number_at-requires
number_at-requires c =
    let q = c.args.left in
    let fits : FitsSigned w128 q.0 × FitsSigned w128 q.1 = search rules in
    number_passed q.0 q.1 q.2 c.loop-number.number c.range_count-count.result fits.0 fits.1 c.range_count-count.ensures c.loop-number-test.true

pub number_at-requires-in-loop-number : goal.number_at-requires-in-loop-number
number_at-requires-in-loop-number c =
    let q = c.args.right in
    let fits : FitsSigned w128 q.0 × FitsSigned w128 q.1 = search rules in
    number_passed q.0 q.1 q.2 c.loop-number.number c.range_count.result fits.0 fits.1 c.range_count.ensures (subst (λ n. c.loop-number.number < n) c.if-count-range_count.false c.loop-number-test.true)

pub returns-then-number_at : goal.returns-then-number_at
returns-then-number_at c = λ k.
    let left : FitsSigned w128 c.args.left.0 × FitsSigned w128 c.args.left.2 = search rules in
    let right : FitsSigned w128 c.args.right.0 × FitsSigned w128 c.args.right.2 = search rules in
    c.loop-number.invariant k
    ∙ numbers_next k c.args.place c.args.left c.args.right c.range_count-count.result c.loop-number.number c.number_at.result c.number_at-in-loop-number.result false _ _ c.loop-number-test.true c.in_ok-pay.ensures left right c.number_at.ensures c.number_at-in-loop-number.ensures
    (other_integers c.number_at.result c.number_at-in-loop-number.result (λ e. c.if-number_at.true (ap (of_z w128) e)))

pub loop-number-preserved : goal.loop-number-preserved
loop-number-preserved c = λ k.
    let left : FitsSigned w128 c.args.left.0 × FitsSigned w128 c.args.left.2 = search rules in
    let right : FitsSigned w128 c.args.right.0 × FitsSigned w128 c.args.right.2 = search rules in
    let same : c.number_at.result ≡ c.number_at-in-loop-number.result = search rules in
    c.loop-number.invariant k
    ∙ numbers_next k c.args.place c.args.left c.args.right c.range_count-count.result c.loop-number.number c.number_at.result c.number_at-in-loop-number.result true _ _ c.loop-number-test.true c.in_ok-pay.ensures left right c.number_at.ensures c.number_at-in-loop-number.ensures
    (same_integers c.number_at.result c.number_at-in-loop-number.result same)

pub returns : goal.returns
returns c = λ k. c.loop-number.invariant k ∙ numbers_end k c.args.place c.args.left c.args.right c.range_count-count.result c.loop-number.number _ c.loop-number-test.false
