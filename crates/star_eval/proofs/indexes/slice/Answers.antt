use Rattle.index_spec.specs.Slices.{slice_row}
use Rattle.star_values.specs.View.{value_of}
use Rattle.star_eval.specs.Doing.{cut}
use Rattle.star_eval.specs.View.{arena_in}
use Rattle.star_eval.proofs.Going.{gives_on}
use Rattle.star_eval.proofs.indexes.slice.Goals as goal

pub returns : goal.returns
returns c =
    let m = c.args.m.now in
    let a = arena_in m in
    let q = c.args.parts in
    gives_on m (record m.session { arena = c.slice.new.arena; work = c.slice.new.work }) c.requires.sound (slice_row c.args.place (value_of a c.args.value) (cut (value_of a q.from) (value_of a q.to) (value_of a q.step))) c.slice.result c.settle.result
    c.slice.ensures.row c.settle.ensures
