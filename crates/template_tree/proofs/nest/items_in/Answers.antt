use Rattle.std.proofs.Common.{ap, ◌∙◌}
use Rattle.template_spec.specs.Nesting.{whole}
use Rattle.template_tree.proofs.nest.items_in.Goals as goal

pub returns : goal.returns
returns c = c.whole.ensures c.args.file ∙ ap whole c.in_ok-nested.ensures
