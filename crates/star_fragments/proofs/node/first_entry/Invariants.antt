use Rattle.star_steps.proofs.Names.{◌≡◌, List, [], child_count}
use Rattle.value_spec.specs.Values as plain
use Rattle.star_fragments.specs.Nodes.{entries_in, pairs_among, parts_in}
use Rattle.star_fragments.proofs.node.first_entry.Given as goal

-- what has no key is passed over
abbrev pub invariant-loop-part : goal.invariant-loop-part
invariant-loop-part l = (held : List plain.Value) → entries_in held l.entries ≡ pairs_among l.keyed (parts_in held l.left)

abbrev pub decreases-loop-part : goal.decreases-loop-part
decreases-loop-part l = child_count (parts_in [] l.left)
