use Rattle.star_steps.proofs.Names.{◌≡◌, Err, refl, rules, sym, subst, max_depth, body_paid, seen, body_in, fresh_body, Meets, as_is, state_in, gives_stop, Owns, value_of}
use Rattle.star_fragments.specs.Fresh.{Builds}
use Rattle.star_fragments.proofs.Held.{sized, value_built}
use Rattle.star_fragments.proofs.members.member_value.Goals as goal

pub returns-in_err-pay_node : goal.returns-in_err-pay_node
returns-in_err-pay_node c = λ b e.
    let a = seen c.args.arena.now in
    let s = state_in a c.args.steps.now in
    let stopped : c.from_residual.result ≡ Err c.in_err-pay_node.field-0.0 = search rules in
    gives_stop as_is c.in_err-pay_node.field-0.0 a c.pay_node.new.steps (body_paid c.args.place max_depth b s) (λ u. fresh_body b) c.from_residual.result _ refl
    (subst (Meets as_is (Err c.in_err-pay_node.field-0.0) (state_in a c.pay_node.new.steps)) (sym (sized a c.args.place b c.held_at-held.result.now _ _ s e c.held_at-held.ensures.here (c.node_of_value.ensures a.held))) c.in_err-pay_node.ensures) stopped

pub returns : goal.returns
returns c = λ b e.
    let a = seen c.args.arena.now in
    value_built a c.args.place b c.held_at-held.result.now _ _ (state_in a c.args.steps.now) e c.held_at-held.ensures.here (c.node_of_value.ensures a.held) c.in_ok-copy.copy c.in_ok-pay_node.field-0 c.in_ok-value.value (seen c.made.new.arena) c.pay_node.new.steps c.in_ok-pay_node.ensures c.in_ok-copy.ensures
    (subst (λ r. Builds value_of Owns (fresh_body (body_in a.held c.in_ok-copy.copy)) r a (seen c.made.new.arena)) c.in_ok-value.was c.made.ensures)
