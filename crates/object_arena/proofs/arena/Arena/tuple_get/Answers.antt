use Rattle.object_arena.proofs.Names.{refl, sym, ap, ◌∙◌, option_map, found, index_range, Store, seen, Owns, value_of, each_at}
use Rattle.object_arena.proofs.Reading.{tuple_found}
use Rattle.object_arena.proofs.arena.Arena.tuple_get.Goals as goal

pub returns-in-None-clause-meaning : goal.returns-in-None-clause-meaning
returns-in-None-clause-meaning c =
    let a = seen c.args.self.now in
    (tuple_found a c.args.tuple c.tuple.result.now c.args.at c.requires c.tuple.ensures.members ∙ ap (λ o. found {S = Store} index_range (option_map (value_of a) o) a.store) (sym c.in-None.ensures), refl)

pub returns-in-Some-clause-meaning : goal.returns-in-Some-clause-meaning
returns-in-Some-clause-meaning c =
    let a = seen c.args.self.now in
    tuple_found a c.args.tuple c.tuple.result.now c.args.at c.requires c.tuple.ensures.members ∙ ap (λ o. found {S = Store} index_range (option_map (value_of a) o) a.store) (sym c.in-Some.ensures)

pub returns-in-Some-clause-owns : goal.returns-in-Some-clause-owns
returns-in-Some-clause-owns c = each_at (Owns (seen c.args.self.now)) c.tuple.result.now c.args.at c.in-Some.value c.tuple.ensures.owns (sym c.in-Some.ensures)
