use Rattle.star_steps.proofs.Names.{◌∙◌, FitsSigned, ap, length-map, rules, seen, sym, to_z-of_z, value_of, values_of, w128}
use Rattle.star_ops.proofs.Repeats.{tuple_repeated, tuple_stopped}
use Rattle.star_ops.proofs.products.repeat_tuple.Goals as goal

pub returns-in_err-pay_members : goal.returns-in_err-pay_members
returns-in_err-pay_members c =
    let a = seen c.args.arena.now in
    let z = c.args.times in
    let fits : FitsSigned w128 z = search rules in
    tuple_stopped c.args.place _ (values_of a c.tuple_members-one.result.now) z _ _ a c.args.steps.now c.pay_members.new.steps c.in_err-pay_members.field-0.0 c.from_residual.result c.tuple_members-one.ensures.members (to_z-of_z w128 z fits) (sym (length-map c.tuple_members-one.result.now (value_of a))) c.in_err-pay_members.ensures (search rules)

pub returns : goal.returns
returns c =
    let a = seen c.args.arena.now in
    let z = c.args.times in
    let fits : FitsSigned w128 z = search rules in
    tuple_repeated c.args.place _ (values_of a c.tuple_members-one.result.now) (values_of a c.as_slice.result.now) z _ _ c.from_zero.result a (seen c.new_tuple.new.self) c.args.steps.now c.pay_members.new.steps c.in_ok-new_tuple.field-0 c.tuple_members-one.ensures.members (to_z-of_z w128 z fits) (sym (length-map c.tuple_members-one.result.now (value_of a)))
    c.in_ok-pay_members.ensures c.from_zero.ensures (ap (values_of a) c.as_slice.ensures ∙ c.in_ok-all.ensures.values) c.in_ok-new_tuple.ensures.made
