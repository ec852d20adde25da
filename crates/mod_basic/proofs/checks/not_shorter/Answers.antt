use Rattle.std.proofs.Common.{rules}
use Rattle.module_spec.specs.Asserting.{at_least, unless_not}
use Rattle.star_steps.specs.Meets.{as_is, state_in}
use Rattle.star_values.proofs.Growing.{grows_same}
use Rattle.star_values.specs.Objects.{seen}
use Rattle.star_values.specs.View.{value_of}
use Rattle.mod_basic.proofs.Checking.{length_parts, length_told}
use Rattle.mod_basic.proofs.Walking.{gives_err}
use Rattle.mod_basic.proofs.checks.not_shorter.Goals as goal

pub returns-in_err-length : goal.returns-in_err-length
returns-in_err-length c =
    let a = seen c.args.arena.now in
    let test = at_least (value_of a c.args.of) in
    gives_err as_is c.in_err-length.field-0.0 a a c.length_paid.new.steps _ (λ n. unless_not c.args.at c.args.rule.now (test n)) _ _
    (length_parts test c.args.rule.now c.args.at (value_of a c.args.value) (state_in a c.args.steps.now)) c.in_err-length.ensures (search rules) (grows_same a)

pub returns : goal.returns
returns c =
    let a = seen c.args.arena.now in
    length_told (at_least (value_of a c.args.of)) c.args.rule.now c.args.at (value_of a c.args.value) c.in_ok-length.length c.at_least.result c.unless_not.result a c.args.steps.now c.length_paid.new.steps
    c.in_ok-length.ensures (c.at_least.ensures a) (c.unless_not.ensures c.length_paid.new.steps)
