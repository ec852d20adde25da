use Rattle.star_steps.proofs.Names.{◌∙◌}
use Rattle.star_index.proofs.Names.{ap, gives_same, list_row, seen, state_in, tuple_row, value_of, values_of}
use Rattle.star_index.proofs.indexes.index.Goals as goal

pub returns-in-Tuple : goal.returns-in-Tuple
returns-in-Tuple c =
    let a = seen c.args.arena.now in
    let s = state_in a c.args.steps.now in
    gives_same _ _ c.member_at.result a a c.args.steps.now
    (tuple_row c.args.place (value_of a c.args.value) (values_of a c.tuple.result.now) (value_of a c.args.index) s (ap (value_of a) c.in-Tuple.is ∙ c.tuple.ensures.members))
    (c.member_at.ensures c.args.steps.now)

pub returns-in-List : goal.returns-in-List
returns-in-List c =
    let a = seen c.args.arena.now in
    rw c.in-List.is
    (gives_same _ _ _ _ _ _ (list_row c.args.place c.in-List.list.at (values_of a c.list.result.now) (value_of a c.args.index) (state_in a c.args.steps.now) c.list.ensures.members)
    (c.member_at-in-List.ensures c.args.steps.now))

pub returns-in-Range : goal.returns-in-Range
returns-in-Range c = rw c.in-Range.is (c.number_of.ensures c.args.steps.now)

pub returns-in-Text : goal.returns-in-Text
returns-in-Text c = rw c.in-Text.is (c.character_at.ensures c.args.steps.now)
