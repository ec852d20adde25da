use Rattle.std.proofs.Common.{◌≡◌, ◌++◌, List, drop}
use Rattle.std.specs.Prelude.{map}
use Rattle.star_values.specs.Owns.{OwnsBuilt}
use Rattle.star_values.specs.View.{View, child_in}
use Rattle.value_spec.specs.Values as plain
use Rattle.node_build.proofs.InPlace.{entry}
use Rattle.node_build.proofs.fill.pairs.Given as goal

abbrev pub invariant-loop-key : goal.invariant-loop-key
invariant-loop-key l = record {
  turned : (held : List plain.Value) → map (child_in held) l.items ++ map (entry l.place) (drop l.key-index l.pairs) ≡ map (entry l.place) l.pairs;
  owned : (a : View) → OwnsBuilt a l.items;
}
