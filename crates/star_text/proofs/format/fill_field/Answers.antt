use Rattle.std.proofs.Common.{rules, string_bytes}
use Rattle.star_steps.proofs.Names.{seen, state_in, value_of}
use Rattle.text_spec.specs.Fields as fields
use Rattle.star_text.specs.Formatting.{met_in}
use Rattle.star_text.proofs.Formatting.{field_shown, unfound_met, unshown_met}
use Rattle.star_text.proofs.format.fill_field.Goals as goal

pub returns-in_ok-push_converted-in-Some : goal.returns-in_ok-push_converted-in-Some
returns-in_ok-push_converted-in-Some c =
    let a = seen c.args.arena.now in
    let n = c.args.steps.now in
    let f = fields.field_in c.args.field.now in
    let shown = rw c.in-Some.is at c.field_in-conversion.ensures.conversion in
    field_shown a c.args.place c.args.args.now.given.now (string_bytes c.args.made.now) (met_in c.args.met) f c.in-Some.conversion (state_in a n) shown
    (value_of a c.in_ok-value-in-Some.value) (met_in c.in_ok-value-in-Some.met) (c.in_ok-value-in-Some.ensures.found f.which c.field_in-conversion.ensures.which n)
    (string_bytes c.push_converted.new.made) (state_in a c.push_converted.new.steps) c.in_ok-push_converted-in-Some.ensures

pub returns-in_err-value-in-Some : goal.returns-in_err-value-in-Some
returns-in_err-value-in-Some c =
    let a = seen c.args.arena.now in
    let n = c.args.steps.now in
    let f = fields.field_in c.args.field.now in
    let shown = rw c.in-Some.is at c.field_in-conversion.ensures.conversion in
    unfound_met a c.args.place c.args.args.now.given.now (string_bytes c.args.made.now) (met_in c.args.met) f c.in-Some.conversion (state_in a n) shown
    c.in_err-value-in-Some.field-0.0 c.from_residual.result _ (state_in a n) (search rules) (c.in_err-value-in-Some.ensures.found f.which c.field_in-conversion.ensures.which n)

pub returns-in_err-push_converted-in-Some : goal.returns-in_err-push_converted-in-Some
returns-in_err-push_converted-in-Some c =
    let a = seen c.args.arena.now in
    let n = c.args.steps.now in
    let f = fields.field_in c.args.field.now in
    let shown = rw c.in-Some.is at c.field_in-conversion.ensures.conversion in
    unshown_met a c.args.place c.args.args.now.given.now (string_bytes c.args.made.now) (met_in c.args.met) f c.in-Some.conversion (state_in a n) shown
    (value_of a c.in_ok-value-in-Some.value) (met_in c.in_ok-value-in-Some.met) (c.in_ok-value-in-Some.ensures.found f.which c.field_in-conversion.ensures.which n)
    {B = Unit {0}} c.in_err-push_converted-in-Some.field-0.0 c.from_residual-in_err-push_converted-in-Some.result _ (λ u. string_bytes c.push_converted.new.made) (state_in a c.push_converted.new.steps) (search rules) c.in_err-push_converted-in-Some.ensures
