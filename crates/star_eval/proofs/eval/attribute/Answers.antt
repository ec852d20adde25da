use Rattle.builtin_spec.specs.Attributes.{attribute_row}
use Rattle.star_values.specs.View.{value_of}
use Rattle.star_eval.specs.View.{arena_in}
use Rattle.star_eval.proofs.Going.{gives_on}
use Rattle.star_eval.proofs.eval.attribute.Goals as goal

pub returns : goal.returns
returns c =
    let m = c.args.m.now in
    gives_on m (record m.session { arena = c.attribute.new.arena }) c.requires.sound (attribute_row c.args.place (value_of (arena_in m) c.args.value) c.args.name.now) c.attribute.result c.settle.result
    (c.attribute.ensures m.session.work.steps) c.settle.ensures
