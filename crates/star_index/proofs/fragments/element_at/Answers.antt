use Rattle.star_steps.proofs.Names.{◌≡◌, ◌∙◌}
use Rattle.star_index.proofs.Names.{FitsSigned, Some, ap, child_count, body_there, children_at, element_row, gives_same, place_among, place_below, rules, seen, state_in, sym, to_z-of_z, value_of, w128}
use Rattle.star_index.proofs.fragments.element_at.Goals as goal

pub returns-in-Some : goal.returns-in-Some
returns-in-Some c =
    let a = seen c.args.arena.now in
    let cs = children_at a c.args.whole in
    let z = c.in-Int.index in
    let fits : FitsSigned w128 z = search rules in
    let is : place_among (child_count cs) z ≡ Some c.in-Some.at = (λ i. place_among (sym c.fragment_length.ensures i) (sym (to_z-of_z w128 z fits) i)) ∙ sym c.place_among.ensures ∙ c.in-Some.is in
    let there = body_there c.in-Some.at cs (place_below (child_count cs) z c.in-Some.at is) in
    gives_same _ _ c.member_value.result a (seen c.member_value.new.arena) c.member_value.new.steps
    (element_row c.args.place cs (state_in a c.args.steps.now) (value_of a c.args.index) z c.in-Some.at there.0 (ap (value_of a) c.in-Int.is) is there.1)
    (c.member_value.ensures there.0 there.1)
