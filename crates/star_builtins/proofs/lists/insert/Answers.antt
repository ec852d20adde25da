use Rattle.std.proofs.Common.{◌≡◌, length, [], ◌∷◌, ap, refl, rules, sym, subst, ◌∙◌}
use Rattle.std.proofs.lemmas.List.{length-map}
use Rattle.star_steps.proofs.Names.{FitsSigned, w128, to_z-of_z}
use Rattle.star_steps.specs.Names.{list_at, seen, value_of}
use Rattle.star_values.specs.Answers.{Answers}
use Rattle.text_spec.specs.Methods.{place_of}
use Rattle.value_spec.specs.Store.{list_insert}
use Rattle.value_spec.specs.Values as plain
use Rattle.star_builtins.proofs.Changing.{change_given, cost_refused, cost_taken}
use Rattle.star_builtins.proofs.Listing.{insert_begins, inserting}
use Rattle.star_builtins.proofs.lists.insert.Goals as goal

pub returns-in_err-pay_operation-in-Int : goal.returns-in_err-pay_operation-in-Int
returns-in_err-pay_operation-in-Int c =
    let a = seen c.args.arena.now in
    let x = value_of a c.args.member in
    let begins = insert_begins c.args.at c.args.list.at (value_of a c.args.place) x c.in-Int.number a c.args.steps.now c.in_default.ensures.meaning (ap (value_of a) c.in-Int.is) in
    cost_refused c.args.at (plain.list_value c.args.list.at ∷ x ∷ []) (inserting c.args.at c.args.list.at c.in-Int.number x) a c.args.steps.now _ begins
    c.in_err-pay_operation-in-Int.field-0.0 c.pay_operation.new.steps c.from_residual.result (c.in_err-pay_operation-in-Int.ensures 0 0 refl refl) (search rules)

pub returns-in_ok-pay_operation-in-Int : goal.returns-in_ok-pay_operation-in-Int
returns-in_ok-pay_operation-in-Int c =
    let a = seen c.args.arena.now in
    let b = seen c.list_insert-done.new.self in
    let x = value_of a c.args.member in
    let begins = insert_begins c.args.at c.args.list.at (value_of a c.args.place) x c.in-Int.number a c.args.steps.now c.in_default.ensures.meaning (ap (value_of a) c.in-Int.is) in
    let fits : FitsSigned w128 c.in-Int.number = search rules in
    let place : c.place_of-place.result ≡ place_of (length (list_at c.args.list.at a.store)) c.in-Int.number =
    c.place_of-place.ensures.value ∙ ap (place_of (length c.list.result.now)) (to_z-of_z w128 c.in-Int.number fits) ∙ ap (λ k. place_of k c.in-Int.number) (sym (length-map c.list.result.now (value_of a)) ∙ sym (ap length c.list.ensures.members)) in
    let act = subst (λ k. Answers (λ u. u) c.list_insert-done.result a.store b.store (list_insert c.args.list.at k x a.store)) place c.list_insert-done.ensures.meaning in
    cost_taken c.args.at (plain.list_value c.args.list.at ∷ x ∷ []) (inserting c.args.at c.args.list.at c.in-Int.number x) a c.args.steps.now _ begins b c.pay_operation.new.steps c.changed.result
    (c.in_ok-pay_operation-in-Int.ensures 0 0 refl refl)
    (change_given c.args.at a b c.pay_operation.new.steps (list_insert c.args.list.at (place_of (length (list_at c.args.list.at a.store)) c.in-Int.number) x a.store) c.list_insert-done.result c.changed.result c.changed.ensures act c.list_insert-done.ensures.grows)
