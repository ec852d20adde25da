use Rattle.std.proofs.Common.{◌≡◌, Err, ap, map as each, rules, subst, sym, ◌∙◌}
use Rattle.star_steps.proofs.Names.{OwnsAll, done, seen, state_in, values_of}
use Rattle.star_steps.specs.Meets.{Gives}
use Rattle.star_values.specs.View.{arguments_in}
use Rattle.text_spec.specs.Methods.{method_row}
use Rattle.star_text.specs.View.{made_of, method_of}
use Rattle.star_text.proofs.Paying.{answered, unanswered, unbound}
use Rattle.star_text.proofs.method.call.Goals as goal

pub returns-in_err-values : goal.returns-in_err-values
returns-in_err-values c = λ t e.
    let a = seen c.args.arena.now in
    let m = method_of c.args.method in
    let args = arguments_in a.held c.args.args in
    let n = c.args.steps.now in
    let x = c.in_err-values.field-0.0 in
    let takes = c.signature_of-signature in
    let given : c.from_residual.result ≡ Err x = search rules in
    subst (λ r. Gives (method_row c.args.place m t args (state_in a n)) r a a n) (sym given)
    (unbound c.args.place m t args a n (each (λ w. w.now) takes.result.needed.now) (each (λ w. w.now) takes.result.optional.now) takes.ensures.needed takes.ensures.optional (values_of a) x (c.in_err-values.ensures n).meaning)

pub answered-requires-clause-values : goal.answered-requires-clause-values
answered-requires-clause-values c = subst (OwnsAll (seen c.args.arena.now)) (sym c.as_slice.ensures) (c.in_ok-values.ensures 0).owns

pub returns-in_err-answer : goal.returns-in_err-answer
returns-in_err-answer c = λ t e.
    let a = seen c.args.arena.now in
    let m = method_of c.args.method in
    let args = arguments_in a.held c.args.args in
    let n = c.args.steps.now in
    let k = c.answered.new.steps in
    let x = c.in_err-answer.field-0.0 in
    let takes = c.signature_of-signature in
    let vs = values_of a c.as_slice.result.now in
    let bound = (c.in_ok-values.ensures n).meaning ∙ ap (λ vs. done (values_of a vs) (state_in a n)) (sym c.as_slice.ensures) in
    let given : c.from_residual-in_err-answer.result ≡ Err x = search rules in
    subst (λ r. Gives (method_row c.args.place m t args (state_in a n)) r a a k) (sym given)
    (unanswered c.args.place m t args a n (each (λ w. w.now) takes.result.needed.now) (each (λ w. w.now) takes.result.optional.now) takes.ensures.needed takes.ensures.optional vs bound made_of k x (c.in_err-answer.ensures t e))

pub returns : goal.returns
returns c = λ t e.
    let a = seen c.args.arena.now in
    let b = seen c.give.new.arena in
    let m = method_of c.args.method in
    let args = arguments_in a.held c.args.args in
    let n = c.args.steps.now in
    let k = c.answered.new.steps in
    let takes = c.signature_of-signature in
    let vs = values_of a c.as_slice.result.now in
    let bound = (c.in_ok-values.ensures n).meaning ∙ ap (λ vs. done (values_of a vs) (state_in a n)) (sym c.as_slice.ensures) in
    answered c.args.place m t args a n (each (λ w. w.now) takes.result.needed.now) (each (λ w. w.now) takes.result.optional.now) takes.ensures.needed takes.ensures.optional vs bound b k (made_of c.in_ok-answer.answer) c.give.result (c.in_ok-answer.ensures t e) (c.give.ensures k)
