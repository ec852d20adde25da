use Rattle.star_eval.specs.View.{arena_in}
use Rattle.star_eval.proofs.calls.result_of.Goals as goal

pub new_fragment-requires : goal.new_fragment-requires
new_fragment-requires c = c.into_children-items.ensures.owned (arena_in c.args.m.now) (rw (c.replace.ensures.value) c.requires.sound.nodes)
