use Rattle.std.proofs.Common.{◌≡◌, List, drop}
use Rattle.star_values.specs.declared.value.BuiltItem.{BuiltItem}
use Rattle.star_values.specs.Owns.{OwnsBuilt}
use Rattle.star_values.specs.View.{View, built_in}
use Rattle.template_meaning.specs.Adding.{add_all}
use Rattle.value_spec.specs.Outcomes.{State}
use Rattle.value_spec.specs.Values as plain
use Rattle.node_build.specs.Positions.{AreKnown, undone}
use Rattle.node_build.proofs.add.add_copies.Given as goal

-- what is left of the items decides
abbrev pub invariant-loop-item : goal.invariant-loop-item
invariant-loop-item l = record {
  known : AreKnown l.keys l.items.items;
  still : (is : List BuiltItem) → AreKnown l.initial.keys is → AreKnown l.keys is;
  undone : undone l.log l.items.items ≡ undone l.initial.log l.initial.items.items;
  meaning : (held : List plain.Value) (s : State (Unit {0})) → add_all (built_in held l.initial.items.items) (built_in held l.more) s ≡ add_all (built_in held l.items.items) (built_in held (drop l.item-index l.more)) s;
  owned : (a : View) → OwnsBuilt a l.more → OwnsBuilt a l.initial.items.items → OwnsBuilt a l.items.items;
}
