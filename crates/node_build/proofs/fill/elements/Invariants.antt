use Rattle.std.proofs.Common.{◌≡◌, ◌++◌, List, drop}
use Rattle.std.specs.Prelude.{map}
use Rattle.star_values.specs.Owns.{OwnsBuilt}
use Rattle.star_values.specs.View.{View, child_in}
use Rattle.value_spec.specs.Values as plain
use Rattle.node_build.proofs.InPlace.{element}
use Rattle.node_build.proofs.fill.elements.Given as goal

abbrev pub invariant-loop-tree : goal.invariant-loop-tree
invariant-loop-tree l = record {
  turned : (held : List plain.Value) → map (child_in held) l.items ++ map (element l.place) (drop l.tree-index l.trees) ≡ map (element l.place) l.trees;
  owned : (a : View) → OwnsBuilt a l.items;
}
