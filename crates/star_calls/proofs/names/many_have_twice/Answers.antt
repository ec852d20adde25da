use Rattle.std.proofs.Common.{◌∙◌}
use Rattle.star_values.specs.View.{fields_in}
use Rattle.star_calls.proofs.Passed.{is_new, is_passed, none_passed, passed_now}
use Rattle.star_calls.proofs.names.many_have_twice.Goals as goal

pub loop-field-init : goal.loop-field-init
loop-field-init c = λ a. none_passed c.new-names.result (fields_in a.held c.args.named.now) c.new-names.ensures.empty

pub loop-field-preserved : goal.loop-field-preserved
loop-field-preserved c = λ a.
    c.loop-field.invariant a
    ∙ passed_now a.held c.loop-field.names c.as_str.result c.in-Some.field.now c.in-Some.more.now c.loop-field.rest.now c.in-Some.ensures.cases.0 c.as_str.ensures c.insert.new.self
    (is_new c.in_ok-insert.field-0 (is_passed c.loop-field.names c.as_str.result.now) c.in_ok-insert.ensures.added c.if-not-branch.false)
    c.in_ok-insert.ensures.updates
