use Rattle.std.proofs.Common.{get_or, [], ◌∷◌, ap, refl, rules}
use Rattle.star_steps.proofs.Names.{FitsSigned, w128}
use Rattle.star_steps.specs.Names.{acting, seen, value_of}
use Rattle.star_values.specs.declared.value.Value.TheVariants as value
use Rattle.value_spec.specs.Store.{list_remove}
use Rattle.value_spec.specs.Values as plain
use Rattle.star_builtins.proofs.Changing.{cost_refused, cost_taken}
use Rattle.star_builtins.proofs.Listing.{pop_begins}
use Rattle.star_builtins.proofs.lists.pop_at.Goals as goal

pub returns-in_err-pay_operation-in-Some : goal.returns-in_err-pay_operation-in-Some
returns-in_err-pay_operation-in-Some c =
    let a = seen c.args.arena.now in
    let p = c.args.at in
    let r = c.args.list.at in
    let place = c.in-Some.place in
    let z = c.in-Int.number in
    let fits : FitsSigned w128 z = search rules in
    let vs = plain.list_value r ∷ value_of a (get_or c.list-members.result.now place value.None) ∷ [] in
    let begins = pop_begins p r (value_of a c.args.place) z place a c.args.steps.now c.list-members.result.now c.in_default.ensures.meaning (ap (value_of a) c.in-Int.is) fits c.list-members.ensures.members c.in-Some.ensures.value (c.in-Some.ensures.bound place refl) in
    cost_refused p vs (acting p (list_remove r place)) a c.args.steps.now _ begins c.in_err-pay_operation-in-Some.field-0.0 c.pay_operation.new.steps c.from_residual.result (c.in_err-pay_operation-in-Some.ensures 0 0 refl refl) (search rules)

pub returns-in_ok-pay_operation-in-Some : goal.returns-in_ok-pay_operation-in-Some
returns-in_ok-pay_operation-in-Some c =
    let a = seen c.args.arena.now in
    let p = c.args.at in
    let r = c.args.list.at in
    let place = c.in-Some.place in
    let z = c.in-Int.number in
    let fits : FitsSigned w128 z = search rules in
    let vs = plain.list_value r ∷ value_of a (get_or c.list-members.result.now place value.None) ∷ [] in
    let begins = pop_begins p r (value_of a c.args.place) z place a c.args.steps.now c.list-members.result.now c.in_default.ensures.meaning (ap (value_of a) c.in-Int.is) fits c.list-members.ensures.members c.in-Some.ensures.value (c.in-Some.ensures.bound place refl) in
    cost_taken p vs (acting p (list_remove r place)) a c.args.steps.now _ begins (seen c.remove_at.new.arena) c.pay_operation.new.steps c.remove_at.result (c.in_ok-pay_operation-in-Some.ensures 0 0 refl refl) (c.remove_at.ensures c.pay_operation.new.steps)
