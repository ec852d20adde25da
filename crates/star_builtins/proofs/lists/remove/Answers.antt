use Rattle.std.proofs.Common.{◌≡◌, ◌+◌, Some, ap, arith, refl, rules, option_map, ◌∙◌}
use Rattle.builtin_spec.specs.Lists.{equal_from}
use Rattle.star_steps.proofs.Meeting.{gives_same}
use Rattle.star_steps.specs.Names.{acting, done, paid_by, seen, state_in, value_of, values_of}
use Rattle.value_spec.specs.Store.{list_remove}
use Rattle.star_builtins.proofs.Changing.{none_after, stop_after}
use Rattle.star_builtins.proofs.Listing.{remove_begins, removed, search_done, search_failed, search_refused}
use Rattle.star_builtins.proofs.lists.remove.Goals as goal

pub returns-in_err-find : goal.returns-in_err-find
returns-in_err-find c =
    let a = seen c.args.arena.now in
    let p = c.args.at in
    let m = c.pay_operation.new.steps in
    let k = c.find.new.steps in
    let vs = values_of a c.list.result.now in
    let begins = remove_begins p c.args.list.at (value_of a c.args.member) a c.args.steps.now m vs c.in_default.ensures.meaning (c.in_ok-pay_operation.ensures 0 0 refl refl) c.list.ensures.members in
    let o = equal_from (paid_by 0 p) p (value_of a c.args.member) vs 0 (state_in a m) in
    search_refused p a _ o (removed p c.args.list.at) begins (option_map (λ i. 0 + i)) c.in_err-find.field-0.0 k c.from_residual-in_err-find.result (c.in_err-find.ensures 0) (search rules)

pub returns-in-None : goal.returns-in-None
returns-in-None c =
    let a = seen c.args.arena.now in
    let p = c.args.at in
    let m = c.pay_operation.new.steps in
    let k = c.find.new.steps in
    let vs = values_of a c.list.result.now in
    let begins = remove_begins p c.args.list.at (value_of a c.args.member) a c.args.steps.now m vs c.in_default.ensures.meaning (c.in_ok-pay_operation.ensures 0 0 refl refl) c.list.ensures.members in
    let o = equal_from (paid_by 0 p) p (value_of a c.args.member) vs 0 (state_in a m) in
    let none = c.in_ok-find.ensures 0 ∙ ap (λ o. done (option_map (λ i. 0 + i) o) (state_in a k)) c.in-None.is in
    search_failed p a _ o (removed p c.args.list.at) begins k c.refusal.result none c.refusal.ensures

pub returns-in_err-remove_at-in-Some : goal.returns-in_err-remove_at-in-Some
returns-in_err-remove_at-in-Some c =
    let a = seen c.args.arena.now in
    let p = c.args.at in
    let m = c.pay_operation.new.steps in
    let k = c.find.new.steps in
    let vs = values_of a c.list.result.now in
    let begins = remove_begins p c.args.list.at (value_of a c.args.member) a c.args.steps.now m vs c.in_default.ensures.meaning (c.in_ok-pay_operation.ensures 0 0 refl refl) c.list.ensures.members in
    let o = equal_from (paid_by 0 p) p (value_of a c.args.member) vs 0 (state_in a m) in
    let zero : 0 + c.in-Some.place ≡ c.in-Some.place = omega arith in
    let found = c.in_ok-find.ensures 0 ∙ ap (λ o. done (option_map (λ i. 0 + i) o) (state_in a k)) c.in-Some.is ∙ ap (λ i. done (Some i) (state_in a k)) zero in
    let b = seen c.remove_at.new.arena in
    let act = acting p (list_remove c.args.list.at c.in-Some.place) (state_in a k) in
    let result = c.from_residual-in_err-remove_at-in-Some.result in
    gives_same _ _ result a b k (search_done p a _ o (removed p c.args.list.at) begins c.in-Some.place k found)
    (stop_after act a b k c.in_err-remove_at-in-Some.field-0.0 result (c.in_err-remove_at-in-Some.ensures k) (search rules))

pub returns-in_ok-remove_at-in-Some : goal.returns-in_ok-remove_at-in-Some
returns-in_ok-remove_at-in-Some c =
    let a = seen c.args.arena.now in
    let p = c.args.at in
    let m = c.pay_operation.new.steps in
    let k = c.find.new.steps in
    let vs = values_of a c.list.result.now in
    let begins = remove_begins p c.args.list.at (value_of a c.args.member) a c.args.steps.now m vs c.in_default.ensures.meaning (c.in_ok-pay_operation.ensures 0 0 refl refl) c.list.ensures.members in
    let o = equal_from (paid_by 0 p) p (value_of a c.args.member) vs 0 (state_in a m) in
    let zero : 0 + c.in-Some.place ≡ c.in-Some.place = omega arith in
    let found = c.in_ok-find.ensures 0 ∙ ap (λ o. done (option_map (λ i. 0 + i) o) (state_in a k)) c.in-Some.is ∙ ap (λ i. done (Some i) (state_in a k)) zero in
    let b = seen c.remove_at.new.arena in
    let act = acting p (list_remove c.args.list.at c.in-Some.place) (state_in a k) in
    gives_same _ _ _ a b k (search_done p a _ o (removed p c.args.list.at) begins c.in-Some.place k found)
    (none_after act a b k c.in_ok-remove_at-in-Some.field-0 (c.in_ok-remove_at-in-Some.ensures k))
