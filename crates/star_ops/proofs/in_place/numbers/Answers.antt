use Rattle.star_steps.proofs.Names.{◌∙◌, FitsSigned, rules, w128, to_z-of_z, seen}
use Rattle.star_integers.proofs.Progressions.{number_passed}
use Rattle.star_ops.proofs.Members.{number_pushed}
use Rattle.star_ops.proofs.in_place.numbers.Goals as goal

pub number_at-requires : goal.number_at-requires
number_at-requires c =
    let from : FitsSigned w128 c.bounds-from.result.0 = search rules in
    let to : FitsSigned w128 c.bounds-from.result.1 = search rules in
    number_passed c.bounds-from.result.0 c.bounds-from.result.1 c.bounds-from.result.2 c.loop-place.place c.range_count-place-end.result from to c.range_count-place-end.ensures c.loop-place-test.true

pub loop-place-preserved : goal.loop-place-preserved
loop-place-preserved c =
    let fits : FitsSigned w128 c.number_at.result = search rules in
    number_pushed (seen c.args.arena.now) _ _ _ _ _ _ c.in_ok-push.ensures.ok (to_z-of_z w128 c.number_at.result fits ∙ c.number_at.ensures) c.loop-place.invariant.0 c.loop-place.invariant.1
