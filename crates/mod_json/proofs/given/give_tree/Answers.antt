use Rattle.std.proofs.Common.{◌≡◌, ◌+◌, ◌/◌, length, Err, ap, subst, sym, ◌∙◌, rules}
use Rattle.star_fragments.specs.Fresh.{Builds, value_made}
use Rattle.star_steps.specs.Meets.{Meets, as_is, state_in}
use Rattle.star_values.specs.Objects.{seen}
use Rattle.star_values.specs.Owns.{Owns}
use Rattle.star_values.specs.View.{text_in, value_of}
use Rattle.value_spec.specs.Outcomes.{done, take_steps}
use Rattle.ytt_base.specs.View.{tree_of}
use Rattle.mod_json.specs.View.{text_at}
use Rattle.mod_json.proofs.Giving.{given_done, given_stop}
use Rattle.mod_json.proofs.given.give_tree.Goals as goal

pub returns-in_err-pay : goal.returns-in_err-pay
returns-in_err-pay c =
    let a = seen c.args.arena.now in
    let t = text_at a c.args.text in
    let s = state_in a c.args.steps.now in
    let u = state_in a c.pay.new.steps in
    let stopped : c.from_residual.result ≡ Err c.in_err-pay.field-0.0 = search rules in
    let len : length c.as_str.result.now ≡ length t = ap length (c.as_str.ensures ∙ sym (ap text_in c.text.ensures)) in
    given_stop c.args.at t (tree_of c.args.tree.now) a c.args.steps.now c.pay.new.steps c.in_err-pay.field-0.0 c.from_residual.result
    (subst (λ n. Meets {A = Unit {0}} as_is (Err c.in_err-pay.field-0.0) u (take_steps n c.args.at s)) (λ i. (len i + c.bytes_of.ensures.bytes i) / 16 + c.members_of.ensures.members i) c.in_err-pay.ensures) stopped

pub returns : goal.returns
returns c =
    let a = seen c.args.arena.now in
    let b = seen c.fresh_value.new.arena in
    let t = text_at a c.args.text in
    let s = state_in a c.args.steps.now in
    let u = state_in a c.pay.new.steps in
    let len : length c.as_str.result.now ≡ length t = ap length (c.as_str.ensures ∙ sym (ap text_in c.text.ensures)) in
    given_done c.args.at t (tree_of c.args.tree.now) a c.args.steps.now c.pay.new.steps c.in_ok-fresh_value.field-0 b
    (subst (λ n. take_steps n c.args.at s ≡ done tt u) (λ i. (len i + c.bytes_of.ensures.bytes i) / 16 + c.members_of.ensures.members i) c.in_ok-pay.ensures)
    (subst (λ r. Builds value_of Owns (value_made c.args.tree.now) r a b) c.in_ok-fresh_value.was c.fresh_value.ensures)
