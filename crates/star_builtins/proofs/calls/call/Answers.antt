use Rattle.std.proofs.Common.{◌≡◌, Err, ap, map as each, rules, subst, sym, ◌∙◌}
use Rattle.star_steps.proofs.Names.{OwnsAll, done, seen, state_in, values_of}
use Rattle.star_steps.specs.Meets.{Gives}
use Rattle.star_values.specs.View.{arguments_in}
use Rattle.star_builtins.specs.View.{gives_of, needed_of, optional_of, taken_by, was_given}
use Rattle.star_builtins.proofs.Bound.{goes_on, unbound}
use Rattle.star_builtins.proofs.calls.call.Goals as goal

pub returns-in_err-values-clause-row : goal.returns-in_err-values-clause-row
returns-in_err-values-clause-row c =
    let a = seen c.args.arena.now in
    let b = c.args.bound in
    let args = arguments_in a.held c.args.args in
    let n = c.args.work.now.steps in
    let x = c.in_err-values.field-0.0 in
    let takes = c.parameters_of-takes in
    let given : c.from_residual.result ≡ Err x = search rules in
    subst (λ r. Gives (taken_by b c.args.at args (state_in a n)) r a a n) (sym given)
    (unbound c.args.at (gives_of b (was_given b args)) args a n (needed_of b) (optional_of b) (each (λ w. w.now) takes.result.needed.now) (each (λ w. w.now) takes.result.optional.now) takes.ensures.needed takes.ensures.optional (values_of a) x (c.in_err-values.ensures n).meaning)

pub called_with-requires-clause-values : goal.called_with-requires-clause-values
called_with-requires-clause-values c = subst (OwnsAll (seen c.args.arena.now)) (sym c.as_slice.ensures) (c.in_ok-values.ensures 0).owns

pub returns-clause-row : goal.returns-clause-row
returns-clause-row c =
    let a = seen c.args.arena.now in
    let b = c.args.bound in
    let args = arguments_in a.held c.args.args in
    let n = c.args.work.now.steps in
    let takes = c.parameters_of-takes in
    let vs = values_of a c.as_slice.result.now in
    let bound = (c.in_ok-values.ensures n).meaning ∙ ap (λ vs. done (values_of a vs) (state_in a n)) (sym c.as_slice.ensures) in
    goes_on c.args.at (gives_of b (was_given b args)) args a n (needed_of b) (optional_of b) (each (λ w. w.now) takes.result.needed.now) (each (λ w. w.now) takes.result.optional.now) takes.ensures.needed takes.ensures.optional vs (seen c.called_with.new.arena) c.called_with.new.work.steps c.called_with.result bound
    (subst (λ g. Gives (gives_of b g c.args.at vs (state_in a n)) c.called_with.result a (seen c.called_with.new.arena) c.called_with.new.work.steps) (c.was_given-given.ensures a.held) c.called_with.ensures.row)
