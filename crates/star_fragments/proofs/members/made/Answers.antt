use Rattle.star_steps.proofs.Names.{seen}
use Rattle.star_fragments.proofs.Held.{list_owned, map_owned}
use Rattle.star_fragments.proofs.members.made.Goals as goal

pub new_fragment-requires : goal.new_fragment-requires
new_fragment-requires c = map_owned (seen c.args.arena.now) c.args.held c.in-Map.items c.in-Map.is c.requires

pub new_fragment-requires-in-List : goal.new_fragment-requires-in-List
new_fragment-requires-in-List c = list_owned (seen c.args.arena.now) c.args.held c.in-List.items c.in-List.is c.requires
