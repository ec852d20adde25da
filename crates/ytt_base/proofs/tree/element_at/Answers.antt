use Rattle.std.proofs.Common.{ap, ◌∙◌}
use Rattle.std.specs.Option.{option_map}
use Rattle.ytt_base.specs.View.{tree_of}
use Rattle.ytt_base.proofs.Paths.{get_tree-trees_of, map-option_copied}
use Rattle.ytt_base.proofs.tree.element_at.Goals as goal

pub returns : goal.returns
returns c = map-option_copied c.get.result ∙ ap (option_map tree_of) c.get.ensures.value ∙ get_tree-trees_of c.args.index c.args.trees.now
