use Rattle.std.proofs.Common.{ap, sym, map as each, ◌∙◌}
use Rattle.std.proofs.lemmas.List.{nil_from_length}
use Rattle.star_tree.specs.Whole.{parameter_of, parameters_of}
use Rattle.star_eval.specs.Doing.{next_default}
use Rattle.star_eval.proofs.functions.next_default.Goals as goal

pub returns-in-Some-default_in : goal.returns-in-Some-default_in
returns-in-Some-default_in c = λ file.
    sym (c.in-Some-default_in.ensures.some file (each (parameter_of file) c.in-Some.more.now))
    ∙ sym (ap (λ ps. next_default (parameters_of file ps)) c.in-Some.ensures.cases.0)
    ∙ c.loop-param.invariant file

pub loop-param-preserved : goal.loop-param-preserved
loop-param-preserved c = λ file.
    sym (c.in_default-default_in.ensures.none file (each (parameter_of file) c.in-Some.more.now))
    ∙ sym (ap (λ ps. next_default (parameters_of file ps)) c.in-Some.ensures.cases.0)
    ∙ c.loop-param.invariant file

pub returns : goal.returns
returns c = λ file.
    sym (ap (λ ps. next_default (parameters_of file ps)) (nil_from_length c.loop-param.rest.now c.in_default.ensures.cases))
    ∙ c.loop-param.invariant file
