use Rattle.std.proofs.Common.{◌≡◌, drop}
use Rattle.yaml_noted.specs.View.{items_of}
use Rattle.yaml_spec.specs.Noted.{code_among}
use Rattle.yaml_trees.proofs.code.+code.Given as goal

abbrev pub invariant-code_among-loop-item : goal.invariant-code_among-loop-item
invariant-code_among-loop-item l = code_among (items_of (drop l.item-index l.items)) ≡ code_among (items_of l.items)
