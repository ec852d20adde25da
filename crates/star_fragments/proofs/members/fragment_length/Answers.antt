use Rattle.star_steps.proofs.Names.{ap, sym, ◌∙◌, child_count, seen}
use Rattle.star_fragments.proofs.Held.{built_count}
use Rattle.star_fragments.proofs.members.fragment_length.Goals as goal

pub returns : goal.returns
returns c = sym (ap child_count c.items_of.ensures.items ∙ built_count (seen c.args.arena.now).held c.items_of.result.now)
