use Rattle.star_steps.proofs.Names.{◌≡◌, ◌+◌, ◌*◌, length, seen, string_bytes, state_in}
use Rattle.star_shown.specs.Pushes.{OwnsMembers, more_pushed, pushes}
use Rattle.star_shown.proofs.values.+shown.Given as goal

-- what is shown so far, and what is left of the members, decide
abbrev pub invariant-push_more-loop-member : goal.invariant-push_more-loop-member
invariant-push_more-loop-member l = record {
  owns : OwnsMembers (seen l.arena) l.left;
  same : more_pushed (pushes l.at.levels l.at.place (seen l.arena).held l.fn.members) (string_bytes l.initial.shown) (state_in (seen l.arena) l.initial.steps)
      ≡ more_pushed (pushes l.at.levels l.at.place (seen l.arena).held l.left) (string_bytes l.shown) (state_in (seen l.arena) l.steps);
}

abbrev pub decreases-push_more-loop-member : goal.decreases-push_more-loop-member
decreases-push_more-loop-member l = length (pushes l.at.levels l.at.place (seen l.arena).held l.left)

-- members have one level less
abbrev pub decreases-push_within : goal.decreases-push_within
decreases-push_within l = 5 * l.at.levels

abbrev pub decreases-push_value : goal.decreases-push_value
decreases-push_value l = 5 * l.at.levels + 1

abbrev pub decreases-push_member : goal.decreases-push_member
decreases-push_member l = 5 * l.at.levels + 2

abbrev pub decreases-push_more : goal.decreases-push_more
decreases-push_more l = 5 * l.at.levels + 3

abbrev pub decreases-push_members : goal.decreases-push_members
decreases-push_members l = 5 * l.at.levels + 4
