use Rattle.star_steps.proofs.Names.{◌≡◌, ◌+◌, ◌*◌, children_paid, child_count, seen, state_in}
use Rattle.star_fragments.specs.Nodes.{parts_in}
use Rattle.star_fragments.proofs.sizes.+size.Given as goal

-- what is left to pay decides
abbrev pub invariant-pay_parts-loop-part : goal.invariant-pay_parts-loop-part
invariant-pay_parts-loop-part l =
    children_paid l.at.place l.at.levels (parts_in (seen l.arena).held l.parts) (state_in (seen l.arena) l.initial.steps)
    ≡ children_paid l.at.place l.at.levels (parts_in (seen l.arena).held l.left) (state_in (seen l.arena) l.steps)

abbrev pub decreases-pay_parts-loop-part : goal.decreases-pay_parts-loop-part
decreases-pay_parts-loop-part l = child_count (parts_in (seen l.arena).held l.left)

-- members have one level less
abbrev pub decreases-pay_below : goal.decreases-pay_below
decreases-pay_below l = 4 * l.at.levels

abbrev pub decreases-pay_node : goal.decreases-pay_node
decreases-pay_node l = 4 * l.at.levels + 1

abbrev pub decreases-pay_part : goal.decreases-pay_part
decreases-pay_part l = 4 * l.at.levels + 2

abbrev pub decreases-pay_parts : goal.decreases-pay_parts
decreases-pay_parts l = 4 * l.at.levels + 3
