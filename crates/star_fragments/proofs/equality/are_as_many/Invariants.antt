use Rattle.star_steps.proofs.Names.{◌≡◌, ◌==◌, List, [], pair_count}
use Rattle.value_spec.specs.Values as plain
use Rattle.star_fragments.specs.Nodes.{entries_in}
use Rattle.star_fragments.proofs.equality.are_as_many.Given as goal

abbrev pub invariant-loop-first : goal.invariant-loop-first
invariant-loop-first l = (held : List plain.Value) →
    (pair_count (entries_in held l.left) == pair_count (entries_in held l.right)) ≡ (pair_count (entries_in held l.lefts) == pair_count (entries_in held l.rights))

abbrev pub decreases-loop-first : goal.decreases-loop-first
decreases-loop-first l = pair_count (entries_in [] l.lefts)
