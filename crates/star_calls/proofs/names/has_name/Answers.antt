use Rattle.std.proofs.Common.{◌∙◌, false, true, sym}
use Rattle.star_calls.proofs.Named.{name_first}
use Rattle.star_calls.proofs.names.has_name.Goals as goal

pub returns-then-eq : goal.returns-then-eq
returns-then-eq c = λ a. sym (c.loop-field.invariant a ∙ name_first a.held c.args.name.now c.as_str.result.now c.in-Some.field.now c.in-Some.more.now c.loop-field.rest.now true (c.in-Some.ensures.cases).0 c.as_str.ensures c.if-eq.ensures)

pub loop-field-preserved : goal.loop-field-preserved
loop-field-preserved c = λ a. c.loop-field.invariant a ∙ name_first a.held c.args.name.now c.as_str.result.now c.in-Some.field.now c.in-Some.more.now c.loop-field.rest.now false (c.in-Some.ensures.cases).0 c.as_str.ensures c.if-eq.ensures
