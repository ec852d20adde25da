use Rattle.star_steps.proofs.Names.{◌≡◌, true, Err, sym, ap, ◌∙◌, rules, order, done, then_do, seen, value_of, as_is, state_in, meets_same, meets_stop}
use Rattle.star_compare.specs.Alike.{comparison_of}
use Rattle.star_compare.proofs.Comparing.{comparing_steps, order_is}
use Rattle.star_compare.proofs.order.compare.Goals as goal

pub returns-in_err-pay_sizes : goal.returns-in_err-pay_sizes
returns-in_err-pay_sizes c =
    let a = seen c.args.arena.now in
    let is : c.comparable.result ≡ true = search rules in
    let stopped : c.from_residual.result ≡ Err c.in_err-pay_sizes.field-0.0 = search rules in
    meets_same comparison_of _ _ _ _ (comparing_steps c.args.place (value_of a c.args.left) (value_of a c.args.right) (state_in a c.args.steps.now) (sym (c.comparable.ensures a) ∙ is))
    (meets_stop as_is comparison_of c.in_err-pay_sizes.field-0.0 _ _ _ _ c.in_err-pay_sizes.ensures stopped)

pub returns : goal.returns
returns c =
    let a = seen c.args.arena.now in
    let v = value_of a c.args.left in
    let w = value_of a c.args.right in
    let is : c.comparable.result ≡ true = search rules in
    comparing_steps c.args.place v w (state_in a c.args.steps.now) (sym (c.comparable.ensures a) ∙ is)
    ∙ ap (λ o. then_do o (λ u r. done (order r.store v w) r)) c.in_ok-pay_sizes.ensures
    ∙ ap (λ x. done x (state_in a c.pay_sizes.new.steps)) (sym (c.order.ensures ∙ order_is a.store v w))
