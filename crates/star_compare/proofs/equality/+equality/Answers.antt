use Rattle.star_steps.proofs.Names.{◌-◌, sym, ◌∙◌, rules, pairs_at, seen, value_of, values_of, as_is, state_in, meets_same}
use Rattle.star_compare.proofs.Levels.{as_many, members_next, one_less, pairs_next, structs_next, structs_unlike}
use Rattle.star_compare.proofs.equality.+equality.Goals as goal

pub members_equal-returns : goal.members_equal-returns
members_equal-returns t c =
    let a = seen c.args.arena.now in
    meets_same as_is c.pairs_equal.result (state_in a c.pairs_equal.new.steps) _ _
    (members_next c.args.at.levels (c.args.at.levels - 1) c.args.at.place (values_of a c.args.left.now) (values_of a c.args.right.now) (state_in a c.args.steps.now) (one_less c.args.at.levels c.if-at-eq0.false) (as_many (value_of a) c.args.left.now c.args.right.now c.if-left-right.false)) c.pairs_equal.ensures

pub dicts_equal-returns : goal.dicts_equal-returns
dicts_equal-returns t c =
    let a = seen c.args.arena.now in
    meets_same as_is c.keys_found.result (state_in a c.keys_found.new.steps) _ _
    (pairs_next c.args.at.levels (c.args.at.levels - 1) c.args.at.place (pairs_at c.args.left.at a.store) (pairs_at c.args.right.at a.store) (state_in a c.args.steps.now) (one_less c.args.at.levels c.if-at-eq0.false)
    (sym c.pair_count.ensures ∙ c.if-pair_count.false ∙ c.pair_count-2.ensures)) c.keys_found.ensures

pub structs_equal-returns : goal.structs_equal-returns
structs_equal-returns t c =
    let a = seen c.args.arena.now in
    meets_same as_is c.names_found.result (state_in a c.names_found.new.steps) _ _
    (structs_next c.args.at.levels (c.args.at.levels - 1) c.args.at.place a.held _ _ c.fields-first.result.now c.fields-second.result.now (state_in a c.args.steps.now) (one_less c.args.at.levels c.if-at-eq0.false)
    c.if-first-second.false c.fields-first.ensures.fields c.fields-second.ensures.fields) c.names_found.ensures

pub structs_equal-returns-then-first-second : goal.structs_equal-returns-then-first-second
structs_equal-returns-then-first-second t c =
    let a = seen c.args.arena.now in
    structs_unlike c.args.at.levels (c.args.at.levels - 1) c.args.at.place a.held _ _ c.fields-first.result.now c.fields-second.result.now (state_in a c.args.steps.now) (one_less c.args.at.levels c.if-at-eq0.false)
    c.if-first-second.true c.fields-first.ensures.fields c.fields-second.ensures.fields

pub name_found-equal_within-requires : goal.name_found-equal_within-requires
name_found-equal_within-requires t c =
    let found = c.in-Some.ensures.owned (seen c.args.arena.now) c.requires.right in
    search (rules, found)
