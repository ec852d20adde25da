use Rattle.std.proofs.Common.{◌≡◌, drop}
use Rattle.yaml_noted.specs.View.{items_of}
use Rattle.yaml_spec.specs.Noted.{twice_below}
use Rattle.yaml_trees.proofs.Twices.{IsPassed}
use Rattle.yaml_trees.proofs.twice.+twice.Given as goal

abbrev pub invariant-twice_below-loop-item : goal.invariant-twice_below-loop-item
invariant-twice_below-loop-item l = twice_below (items_of (drop l.item-index l.items)) ≡ twice_below (items_of l.items)

abbrev pub invariant-twice_among-loop-item : goal.invariant-twice_among-loop-item
invariant-twice_among-loop-item l = IsPassed l.seen (items_of (drop l.item-index l.items)) (items_of l.items)
