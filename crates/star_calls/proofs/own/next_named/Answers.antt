use Rattle.std.proofs.Common.{ap, map as each, ◌∙◌}
use Rattle.std.proofs.lemmas.List.{nil_from_length}
use Rattle.code_spec.specs.Allowed.{parameter_names}
use Rattle.star_tree.specs.Whole.{parameter_of, parameters_of}
use Rattle.star_calls.proofs.own.next_named.Goals as goal

pub returns-in-Some-name_of : goal.returns-in-Some-name_of
returns-in-Some-name_of c = λ file.
    c.loop-param.invariant file
    ∙ ap (λ ps. parameter_names (parameters_of file ps)) c.in-Some.ensures.cases.0
    ∙ c.in-Some-name_of.ensures file (each (parameter_of file) c.in-Some.more.now)

pub loop-param-preserved : goal.loop-param-preserved
loop-param-preserved c = λ file.
    c.loop-param.invariant file
    ∙ ap (λ ps. parameter_names (parameters_of file ps)) c.in-Some.ensures.cases.0
    ∙ c.in_default-name_of.ensures file (each (parameter_of file) c.in-Some.more.now)

pub returns : goal.returns
returns c = λ file.
    c.loop-param.invariant file
    ∙ ap (λ ps. parameter_names (parameters_of file ps)) (nil_from_length c.loop-param.rest.now c.in_default.ensures.cases)
