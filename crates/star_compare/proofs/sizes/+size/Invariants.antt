use Rattle.star_steps.proofs.Names.{◌≡◌, ◌+◌, ◌*◌, length, each_sized, seen, OwnsAll, values_of, state_in}
use Rattle.star_compare.specs.Alike.{measure}
use Rattle.star_compare.proofs.sizes.+size.Given as goal

-- what is left of the members decides
abbrev pub invariant-pay_each-loop-rest : goal.invariant-pay_each-loop-rest
invariant-pay_each-loop-rest l = record {
  owns : OwnsAll (seen l.arena) l.rest;
  same : each_sized (measure l.ranks l.at.levels l.at.place) l.at.place (values_of (seen l.arena) l.values) (state_in (seen l.arena) l.initial.steps)
      ≡ each_sized (measure l.ranks l.at.levels l.at.place) l.at.place (values_of (seen l.arena) l.rest) (state_in (seen l.arena) l.steps);
}

abbrev pub decreases-pay_each-loop-rest : goal.decreases-pay_each-loop-rest
decreases-pay_each-loop-rest l = length l.rest

-- members have one level less
abbrev pub decreases-pay_members : goal.decreases-pay_members
decreases-pay_members l = 4 * l.at.levels

abbrev pub decreases-pay_size : goal.decreases-pay_size
decreases-pay_size l = 4 * l.at.levels + 1

abbrev pub decreases-pay_member : goal.decreases-pay_member
decreases-pay_member l = 4 * l.at.levels + 2

abbrev pub decreases-pay_each : goal.decreases-pay_each
decreases-pay_each l = 4 * l.at.levels + 3
