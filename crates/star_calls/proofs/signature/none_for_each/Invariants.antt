use Rattle.std.proofs.Common.{◌≡◌, ◌++◌, drop, map as each}
use Rattle.object_arena.specs.Names.{OwnsAll, values_of}
use Rattle.star_values.specs.View.{View}
use Rattle.value_spec.specs.Binding.{none_for_each}
use Rattle.star_calls.proofs.signature.none_for_each.Given as goal

abbrev pub invariant-loop-name : goal.invariant-loop-name
invariant-loop-name l = (a : View) → (values_of a l.nones ++ none_for_each (each (λ w. w.now) (drop l._name-index l.names)) ≡ none_for_each (each (λ w. w.now) l.names)) × OwnsAll a l.nones
