use Rattle.std.proofs.Common.{◌≡◌}
use Rattle.object_arena.proofs.Names.{Option, Some, None, refl, sym, subst, lookup, Value, seen, found_owned}
use Rattle.star_values.specs.contracts.value.ValuePartialEq.TheImpl.{ghosts as value_ghosts}
use Rattle.object_arena.proofs.Reading.{dict_seen}
use Rattle.object_arena.proofs.arena.Arena.dict_get.Goals as goal

pub returns-in-None-clause-meaning : goal.returns-in-None-clause-meaning
returns-in-None-clause-meaning c =
    let none : Option Value = None in
    (dict_seen value_ghosts.eq c.equal_values_are_one.ensures (seen c.args.self.now) c.args.dict.at c.object.result.now c.args.key none c.keys_stand_once.ensures c.requires.key c.object.ensures.here c.object.ensures.owns (subst (λ ps. none ≡ lookup (value_ghosts.eq c.args.key) ps) (sym c.dict.ensures.pairs) c.in-None.ensures), refl)

pub returns-in-Some-clause-meaning : goal.returns-in-Some-clause-meaning
returns-in-Some-clause-meaning c =
    let some = Some c.in-Some.value in
    dict_seen value_ghosts.eq c.equal_values_are_one.ensures (seen c.args.self.now) c.args.dict.at c.object.result.now c.args.key some c.keys_stand_once.ensures c.requires.key c.object.ensures.here c.object.ensures.owns (subst (λ ps. some ≡ lookup (value_ghosts.eq c.args.key) ps) (sym c.dict.ensures.pairs) c.in-Some.ensures)

pub returns-in-Some-clause-owns : goal.returns-in-Some-clause-owns
returns-in-Some-clause-owns c = found_owned (seen c.args.self.now) (value_ghosts.eq c.args.key) c.dict.result.now.entries c.in-Some.value (c.dict.ensures.owned (seen c.args.self.now) c.object.ensures.owns) c.in-Some.ensures
