use Rattle.index_spec.specs.Index.{index_row}
use Rattle.star_values.specs.View.{value_of}
use Rattle.star_eval.specs.View.{arena_in}
use Rattle.star_eval.proofs.Going.{gives_on}
use Rattle.star_eval.proofs.indexes.at_index.Goals as goal

pub returns : goal.returns
returns c =
    let m = c.args.m.now in
    gives_on m (record m.session { arena = c.index.new.arena; work = c.index.new.work }) c.requires.sound (index_row c.args.place (value_of (arena_in m) c.args.value) (value_of (arena_in m) c.args.index)) c.index.result c.settle.result
    c.index.ensures.row c.settle.ensures
