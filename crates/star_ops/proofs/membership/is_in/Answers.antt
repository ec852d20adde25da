use Rattle.star_steps.proofs.Names.{FitsSigned, rules, w128, int_value, contained_in, seen, value_of, Meets, as_is, state_in, meets_same}
use Rattle.star_values.specs.declared.value.Value.TheVariants as value
use Rattle.star_ops.proofs.IntegerRows.{one_passed}
use Rattle.star_ops.proofs.membership.is_in.Goals as goal

pub returns-in-Text-Text : goal.returns-in-Text-Text
returns-in-Text-Text c =
    let a = seen c.args.arena.now in
    rw (c.in-Text-Text.is-0, c.in-Text-Text.is-1)
    (meets_same as_is c.part_found.result (state_in a c.part_found.new.steps) _ _
    (λ i. contained_in c.args.place (c.text-in-Text-Text.ensures i) (c.text.ensures i) (state_in a c.args.steps.now))
    (rw c.as_str.ensures at (rw c.as_str-bytes.ensures at c.part_found.ensures)))

pub returns-in-Range-Int : goal.returns-in-Range-Int
returns-in-Range-Int c =
    let a = seen c.args.arena.now in
    let fits : FitsSigned w128 c.in-Range-Int.number = search rules in
    rw (c.in-Range-Int.is-0, c.in-Range-Int.is-1)
    (one_passed (λ z. Meets as_is c.number_found.result (state_in a c.number_found.new.steps) (contained_in c.args.place (int_value z) (value_of a (value.Range c.in-Range-Int.range)) (state_in a c.args.steps.now))) c.in-Range-Int.number fits c.number_found.ensures)
