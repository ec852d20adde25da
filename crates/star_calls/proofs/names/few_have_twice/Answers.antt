use Rattle.std.proofs.Common.{◌∙◌, false, true, sym}
use Rattle.star_calls.proofs.Named.{twice_first}
use Rattle.star_calls.proofs.names.few_have_twice.Goals as goal

pub returns-then-has_name : goal.returns-then-has_name
returns-then-has_name c = λ a. sym (c.loop-field.invariant a ∙ twice_first a.held c.as_str.result.now c.in-Some.field.now c.in-Some.more.now c.loop-field.rest.now true (c.in-Some.ensures.cases).0 c.as_str.ensures (c.if-has_name.ensures a))

pub loop-field-preserved : goal.loop-field-preserved
loop-field-preserved c = λ a. c.loop-field.invariant a ∙ twice_first a.held c.as_str.result.now c.in-Some.field.now c.in-Some.more.now c.loop-field.rest.now false (c.in-Some.ensures.cases).0 c.as_str.ensures (c.if-has_name.ensures a)
