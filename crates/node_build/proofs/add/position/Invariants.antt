use Rattle.std.proofs.Common.{◌≡◌, drop}
use Rattle.star_values.specs.View.{scalar_key}
use Rattle.node_build.specs.Positions.{further, position_of}
use Rattle.node_build.proofs.add.position.Given as goal

abbrev pub invariant-loop-i : goal.invariant-loop-i
invariant-loop-i l = position_of (scalar_key l.key) l.items ≡ further l.i (position_of (scalar_key l.key) (drop l.i l.items))
