use Rattle.std.proofs.Common.{◌≡◌, Err, ap, rules, subst, sym, ◌∙◌}
use Rattle.star_steps.specs.Meets.{state_in}
use Rattle.star_values.specs.Objects.{seen}
use Rattle.star_values.specs.Owns.{OwnsAll}
use Rattle.star_values.specs.View.{arguments_in, value_of, values_of}
use Rattle.value_spec.specs.Outcomes.{done}
use Rattle.mod_codec.proofs.Calling.{called, unbound}
use Rattle.mod_codec.proofs.call.codec_call.Goals as goal

pub returns-in_err-values-clause-row : goal.returns-in_err-values-clause-row
returns-in_err-values-clause-row c =
    let a = seen c.args.arena.now in
    let n = c.args.work.now.steps in
    let stopped : c.from_residual.result ≡ Err c.in_err-values.field-0.0 = search rules in
    unbound c.args.codec c.args.at (arguments_in a.held c.args.args) a n c.parameter_of.result.now c.parameter_of.ensures c.in_err-values.field-0.0 c.from_residual.result (c.in_err-values.ensures n).meaning stopped

pub argument-value-requires : goal.argument-value-requires
argument-value-requires c = subst (OwnsAll (seen c.args.arena.now)) (sym c.as_slice.ensures) (c.in_ok-values.ensures 0).owns

pub returns-clause-row : goal.returns-clause-row
returns-clause-row c =
    let a = seen c.args.arena.now in
    let n = c.args.work.now.steps in
    called c.args.codec c.args.at (arguments_in a.held c.args.args) a n c.parameter_of.result.now c.parameter_of.ensures c.as_slice.result.now (value_of a c.argument-value.result) c.answered.result (seen c.answered.new.arena) c.answered.new.work.steps
    ((c.in_ok-values.ensures n).meaning ∙ ap (λ vs. done (values_of a vs) (state_in a n)) (sym c.as_slice.ensures)) c.argument-value.ensures.value c.answered.ensures.row
