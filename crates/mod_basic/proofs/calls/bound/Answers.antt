use Rattle.std.proofs.Common.{◌≡◌, Err, ap, map as each, rules, subst, sym, ◌∙◌}
use Rattle.star_steps.proofs.Names.{OwnsAll, done, seen, state_in, values_of}
use Rattle.star_steps.specs.Meets.{Gives}
use Rattle.star_values.specs.View.{arguments_in, option_in}
use Rattle.value_spec.specs.Store.{option_members}
use Rattle.mod_basic.specs.View.{bound_of, gives_of, needed_of}
use Rattle.mod_basic.proofs.Calling.{goes_on, unbound}
use Rattle.mod_basic.proofs.calls.bound.Goals as goal

pub returns-in_err-values : goal.returns-in_err-values
returns-in_err-values c =
    let a = seen c.args.arena.now in
    let b = c.args.basic in
    let held = option_members (option_in a.held c.args.on) in
    let args = arguments_in a.held c.args.args in
    let n = c.args.steps.now in
    let x = c.in_err-values.field-0.0 in
    let given : c.from_residual.result ≡ Err x = search rules in
    subst (λ r. Gives (bound_of b held c.args.at args (state_in a n)) r a a n) (sym given)
    (unbound c.args.at (gives_of b held) args a n (needed_of b) (each (λ w. w.now) c.parameters_of.result.now) c.parameters_of.ensures (values_of a) x (c.in_err-values.ensures n).meaning)

pub answered-requires-clause-values : goal.answered-requires-clause-values
answered-requires-clause-values c = subst (OwnsAll (seen c.args.arena.now)) (sym c.as_slice.ensures) (c.in_ok-values.ensures 0).owns

pub returns : goal.returns
returns c =
    let a = seen c.args.arena.now in
    let b = c.args.basic in
    let held = option_members (option_in a.held c.args.on) in
    let args = arguments_in a.held c.args.args in
    let n = c.args.steps.now in
    let given = (c.in_ok-values.ensures n).meaning ∙ ap (λ vs. done (values_of a vs) (state_in a n)) (sym c.as_slice.ensures) in
    goes_on c.args.at (gives_of b held) args a n (needed_of b) (each (λ w. w.now) c.parameters_of.result.now) c.parameters_of.ensures (values_of a c.as_slice.result.now) (seen c.answered.new.arena) c.answered.new.steps c.answered.result given c.answered.ensures
