use Rattle.star_steps.proofs.Names.{◌≡◌, ◌+◌, ◌*◌, length, by_members, seen, OwnsAll, values_of}
use Rattle.star_compare.specs.Alike.{ordered}
use Rattle.star_compare.proofs.order.+order.Given as goal

-- what is left to compare decides
abbrev pub invariant-each_order-loop-lefts : goal.invariant-each_order-loop-lefts
invariant-each_order-loop-lefts l = record {
  lefts : OwnsAll (seen l.arena) l.lefts;
  rights : OwnsAll (seen l.arena) l.rights;
  same : by_members (ordered l.levels (seen l.arena).store) (values_of (seen l.arena) l.left) (values_of (seen l.arena) l.right)
      ≡ by_members (ordered l.levels (seen l.arena).store) (values_of (seen l.arena) l.lefts) (values_of (seen l.arena) l.rights);
}

abbrev pub decreases-each_order-loop-lefts : goal.decreases-each_order-loop-lefts
decreases-each_order-loop-lefts l = length l.lefts

-- members have one level less
abbrev pub decreases-members_order : goal.decreases-members_order
decreases-members_order l = 3 * l.levels

abbrev pub decreases-order : goal.decreases-order
decreases-order l = 3 * l.levels + 1

abbrev pub decreases-each_order : goal.decreases-each_order
decreases-each_order l = 3 * l.levels + 2
