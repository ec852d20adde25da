use Rattle.star_steps.proofs.Names.{◌∙◌}
use Rattle.star_index.proofs.Names.{FitsSigned, number_passed, place_below, rules, sym, w128}
use Rattle.star_index.proofs.indexes.number_in.Goals as goal

pub number_at-requires : goal.number_at-requires
number_at-requires c =
    let from : FitsSigned w128 c.args.range.0 = search rules in
    let to : FitsSigned w128 c.args.range.1 = search rules in
    number_passed c.args.range.0 c.args.range.1 c.args.range.2 c.in-Some.at c.range_count.result from to c.range_count.ensures
    (place_below c.range_count.result _ c.in-Some.at (sym c.place_among.ensures ∙ c.in-Some.is))
