use Rattle.std.proofs.Common.{◌≡◌, drop}
use Rattle.ytt_base.specs.View.{trees_of}
use Rattle.yaml_noted.specs.View.{items_of}
use Rattle.yaml_spec.specs.Noted.{bare_trees, drop_null}
use Rattle.ytt_laws.proofs.InTurn.{and_trees}
use Rattle.yaml_trees.proofs.trees.trees_that_are_some.Given as goal

abbrev pub invariant-loop-item : goal.invariant-loop-item
invariant-loop-item l = and_trees (trees_of l.trees) (drop_null (bare_trees (items_of (drop l.item-index l.items)))) ≡ drop_null (bare_trees (items_of l.items))
