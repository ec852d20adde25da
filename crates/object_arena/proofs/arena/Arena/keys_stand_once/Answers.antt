use Rattle.object_arena.proofs.Names.{subst, KeysOnce, one_key}
use Rattle.star_values.specs.Objects.{seen}
use Rattle.object_arena.proofs.arena.Arena.keys_stand_once.Goals as goal

pub returns : goal.returns
unfolding seen
returns c = one_key (seen c.args.self.now) (subst (λ a. KeysOnce (seen a).held) c.self.view_is c.self.invariant.once) c.args.key c.requires.owned c.requires.key
