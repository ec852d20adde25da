use Rattle.std.proofs.Common.{FitsSigned, rules}
use Rattle.std.specs.Int.{w128}
use Rattle.star_integers.proofs.Progressions.{number_passed}
use Rattle.star_eval.proofs.numbers.Numbers.of.Goals as goal

pub invariant_of-result : goal.invariant_of-result
invariant_of-result c =
    let from : FitsSigned w128 c.args.from = search rules in
    let to : FitsSigned w128 c.args.to = search rules in
    record {
      counted = c.range_count.ensures;
      within = λ i below. number_passed c.args.from c.args.to c.args.step i c.range_count.result from to c.range_count.ensures below;
    }
