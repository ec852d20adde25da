use Rattle.std.proofs.Common.{refl}
use Rattle.code_spec.specs.Allowed.{parameter_names}
use Rattle.star_tree.specs.Whole.{parameters_of}
use Rattle.star_resolve.proofs.Binders.{one_parameter}
use Rattle.star_resolve.proofs.Putting.{put_done, put_next}
use Rattle.star_resolve.proofs.names.parameter_names.Goals as goal

pub loop-param-preserved : goal.loop-param-preserved
loop-param-preserved c = λ file.
    put_next _ c.loop-param.names c.put_parameter.new.names c.args.params.now c.loop-param.param-index c.param-item.result
    (λ cs. parameter_names (parameters_of file cs)) _
    (rw c.as_slice-param-items.ensures at c.loop-param-test.true) (rw c.as_slice-param-items.ensures at c.param-item.is) (one_parameter file _) (c.loop-param.invariant file) (c.in_ok-put_parameter.ensures file)

pub returns : goal.returns
returns c = λ file.
    put_done _ c.loop-param.names c.args.params.now c.loop-param.param-index (λ cs. parameter_names (parameters_of file cs))
    (rw c.as_slice-param-items.ensures at c.loop-param-test.false) refl (c.loop-param.invariant file)
