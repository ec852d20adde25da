use Rattle.std.proofs.Common.{◌≡◌, Err, ap, rules, string_bytes}
use Rattle.star_steps.proofs.Names.{seen, state_in, value_of, values_of}
use Rattle.star_text.specs.Filling.{conversion_in}
use Rattle.star_text.proofs.Converting.{next_shown, next_stopped}
use Rattle.star_text.proofs.percent.convert_next.Goals as goal

pub returns-in_err-push_converted-in-Some-clause-goes : goal.returns-in_err-push_converted-in-Some-clause-goes
returns-in_err-push_converted-in-Some-clause-goes c = λ rest.
    let a = seen c.args.arena.now in
    let s = state_in a c.args.steps.now in
    let t = state_in a c.push_converted.new.steps in
    let stopped : c.from_residual.result ≡ Err c.in_err-push_converted-in-Some.field-0.0 = search rules in
    next_stopped c.args.place (conversion_in c.args.conversion) (value_of a c.in-Some.first.now) (values_of a c.in-Some.left.now) (values_of a c.args.values.now) (string_bytes c.args.made.now) rest s (ap (values_of a) c.in-Some.ensures.cases.0)
    c.in_err-push_converted-in-Some.field-0.0 c.from_residual.result (λ (u : Unit {0}). string_bytes c.push_converted.new.made) _ t stopped c.in_err-push_converted-in-Some.ensures

pub returns-in_ok-push_converted-in-Some-clause-goes : goal.returns-in_ok-push_converted-in-Some-clause-goes
returns-in_ok-push_converted-in-Some-clause-goes c = λ rest.
    let a = seen c.args.arena.now in
    let s = state_in a c.args.steps.now in
    let t = state_in a c.push_converted.new.steps in
    next_shown c.args.place (conversion_in c.args.conversion) (value_of a c.in-Some.first.now) (values_of a c.in-Some.left.now) (values_of a c.args.values.now) (string_bytes c.args.made.now) rest s (ap (values_of a) c.in-Some.ensures.cases.0)
    (string_bytes c.push_converted.new.made) t c.in_ok-push_converted-in-Some.ensures
