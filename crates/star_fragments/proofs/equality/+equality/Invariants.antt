use Rattle.star_steps.proofs.Names.{◌≡◌, ◌+◌, ◌*◌, equal_entries, pair_count, seen, state_in}
use Rattle.star_fragments.specs.Nodes.{entries_in}
use Rattle.star_fragments.proofs.equality.+equality.Given as goal

-- what is left to compare decides
abbrev pub invariant-entries_equal-loop-first : goal.invariant-entries_equal-loop-first
invariant-entries_equal-loop-first l =
    equal_entries l.at.place l.at.levels (entries_in (seen l.arena).held l.left) (entries_in (seen l.arena).held l.right) (state_in (seen l.arena) l.initial.steps)
    ≡ equal_entries l.at.place l.at.levels (entries_in (seen l.arena).held l.lefts) (entries_in (seen l.arena).held l.rights) (state_in (seen l.arena) l.steps)

abbrev pub decreases-entries_equal-loop-first : goal.decreases-entries_equal-loop-first
decreases-entries_equal-loop-first l = pair_count (entries_in (seen l.arena).held l.lefts)

-- members have one level less
abbrev pub decreases-collections_equal : goal.decreases-collections_equal
decreases-collections_equal l = 4 * l.at.levels

abbrev pub decreases-nodes_equal : goal.decreases-nodes_equal
decreases-nodes_equal l = 4 * l.at.levels + 1

abbrev pub decreases-entry_equal : goal.decreases-entry_equal
decreases-entry_equal l = 4 * l.at.levels + 2

abbrev pub decreases-entries_equal : goal.decreases-entries_equal
decreases-entries_equal l = 4 * l.at.levels + 3
