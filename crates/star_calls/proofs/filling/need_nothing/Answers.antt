use Rattle.std.proofs.Common.{ap, map as each, sym, ◌∙◌}
use Rattle.std.proofs.lemmas.List.{nil_from_length}
use Rattle.star_tree.specs.Whole.{parameter_of, parameters_of}
use Rattle.star_values.specs.View.{values_of}
use Rattle.star_calls.specs.Left.{need_nothing}
use Rattle.star_calls.proofs.filling.need_nothing.Goals as goal

pub returns-in-None : goal.returns-in-None
returns-in-None c = λ a file. sym (
    c.loop-param.invariant a file
    ∙ ap (λ ps. need_nothing (parameters_of file ps) (values_of a c.loop-param.left.now)) c.in-Some.ensures.cases.0
    ∙ c.in-None.ensures a file (each (parameter_of file) c.in-Some.more.now))

pub loop-param-preserved : goal.loop-param-preserved
loop-param-preserved c = λ a file.
    c.loop-param.invariant a file
    ∙ ap (λ ps. need_nothing (parameters_of file ps) (values_of a c.loop-param.left.now)) c.in-Some.ensures.cases.0
    ∙ c.in-Some-defaults_behind.ensures a file (each (parameter_of file) c.in-Some.more.now)

pub returns : goal.returns
returns c = λ a file. sym (
    c.loop-param.invariant a file
    ∙ ap (λ ps. need_nothing (parameters_of file ps) (values_of a c.loop-param.left.now)) (nil_from_length c.loop-param.rest.now c.in_default.ensures.cases))
