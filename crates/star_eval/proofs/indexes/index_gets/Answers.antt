use Rattle.index_spec.specs.Index.{set_index_row}
use Rattle.star_values.specs.View.{value_of}
use Rattle.star_eval.specs.View.{arena_in}
use Rattle.star_eval.proofs.Going.{acts_on}
use Rattle.star_eval.proofs.indexes.index_gets.Goals as goal

pub returns : goal.returns
returns c =
    let m = c.args.m.now in
    let a = arena_in m in
    acts_on m c.set_at.new.session c.requires.sound (set_index_row c.args.place (value_of a c.args.value) (value_of a c.args.index) (value_of a c.args.new)) c.set_at.result c.settle_none.result
    c.set_at.ensures c.settle_none.ensures
