use Rattle.std.proofs.Common.{◌∙◌, ap}
use Rattle.code_spec.specs.Allowed.{parameter_names}
use Rattle.star_resolve.specs.Frames.{added}
use Rattle.star_functions.proofs.function.Function.of.Goals as goal

pub invariant_of-result : goal.invariant_of-result
invariant_of-result c =
    record {
      besides = λ file.
          c.in_ok-fresh.ensures
          ∙ (λ i. added ((c.in_ok-parameters.ensures file ∙ ap parameter_names (c.parameters.ensures file)) i) (c.in_ok-block_names.ensures file i));
    }
