use Rattle.star_steps.proofs.Names.{arith, sym, ◌∙◌, seen}
use Rattle.star_sorting.proofs.Places.{all_placed}
use Rattle.star_sorting.proofs.order.places_of.Goals as goal

pub returns : goal.returns
returns c = sym (all_placed (seen c.args.arena.now) c.args.keys.now c.args.members.now c.loop-place.place _ (omega arith)) ∙ c.loop-place.invariant
