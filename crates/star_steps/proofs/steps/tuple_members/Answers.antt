use Rattle.star_steps.proofs.Meeting.{tuple_members}
use Rattle.star_steps.proofs.steps.tuple_members.Goals as goal

pub returns : goal.returns
returns c = record { members = tuple_members _ _ c.tuple.ensures.members; owns = c.tuple.ensures.owns }
