use Rattle.node_build.specs.Parts.{taking}
use Rattle.star_values.specs.View.{value_of}
use Rattle.star_eval.specs.View.{arena_in}
use Rattle.star_eval.proofs.Going.{nodes_on}
use Rattle.star_eval.proofs.give.take.Goals as goal

pub returns : goal.returns
returns c =
    let m = c.args.m.now in
    nodes_on m c.value.new.self c.value.new.work (taking (value_of (arena_in m) c.args.value)) c.value.result c.settle_flow.result c.requires.sound c.value.ensures.meaning (c.value.ensures.owned c.requires.sound.nodes) c.settle_flow.ensures
