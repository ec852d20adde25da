use Rattle.star_values.specs.View.{value_of}
use Rattle.star_eval.specs.Doing.{keyed_by}
use Rattle.star_eval.specs.Meets.{state_of}
use Rattle.star_eval.specs.View.{arena_in}
use Rattle.star_eval.proofs.Going.{nodes_on}
use Rattle.star_eval.proofs.parts.take_key.Goals as goal

pub returns : goal.returns
returns c =
    let m = c.args.m.now in
    nodes_on m c.key_from.new.nodes m.session.work (keyed_by (value_of (arena_in m) c.args.value)) c.key_from.result c.settle_flow.result c.requires.sound (c.key_from.ensures.meaning (state_of m.session)) (c.key_from.ensures.owned c.requires.sound.nodes) c.settle_flow.ensures
