use Rattle.star_index.proofs.Names.{gives_same, range_row, seen, state_in, value_of}
use Rattle.star_values.specs.declared.value.Value.TheVariants as value
use Rattle.star_index.proofs.indexes.number_of.Goals as goal

pub returns : goal.returns
returns c n =
    let a = seen c.args.arena.now in
    gives_same _ _ c.number_in.result a a n (range_row c.args.place (value_of a (value.Range c.args.range)) _ _ _ (value_of a c.args.index) (state_in a n) c.bounds.ensures) (c.number_in.ensures n)
