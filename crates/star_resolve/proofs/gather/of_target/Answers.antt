use Rattle.std.proofs.Common.{◌++◌, ap, ◌∙◌}
use Rattle.code_spec.specs.Names.{target_names}
use Rattle.star_tree.specs.Whole.{expr_of}
use Rattle.star_resolve.proofs.gather.of_target.Goals as goal

pub returns : goal.returns
returns c = λ file. c.in_ok-put_target_names.ensures file ∙ ap (λ names. names ++ target_names (expr_of file c.args.target.now)) c.new-names.ensures
