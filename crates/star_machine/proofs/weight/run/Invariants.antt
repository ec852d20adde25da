use Rattle.std.proofs.Common.{◌≡◌, drop}
use Rattle.ll.specs.Shapes as shape
use Rattle.star_machine.proofs.weight.run.Given as goal

abbrev pub invariant-loop-effect : goal.invariant-loop-effect
invariant-loop-effect l = shape.run (drop l.effect-index l.effects) l.shapes ≡ shape.run l.effects l.fn.shapes
