use Rattle.index_spec.specs.Index.{set_index_row}
use Rattle.star_values.specs.View.{value_of}
use Rattle.star_eval.specs.View.{arena_in}
use Rattle.star_eval.proofs.Going.{ends_on}
use Rattle.star_eval.proofs.assign.index_gets.Goals as goal

pub returns : goal.returns
returns c =
    let m = c.args.m.now in
    let a = arena_in m in
    ends_on m c.set_at.new.session c.requires.sound (set_index_row c.args.place (value_of a c.args.indexed.0) (value_of a c.args.indexed.1) (value_of a c.args.new)) c.set_at.result c.settle_flow.result
    c.set_at.ensures c.settle_flow.ensures
