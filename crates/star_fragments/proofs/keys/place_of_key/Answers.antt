use Rattle.star_steps.proofs.Names.{as_scalar, seen, value_of}
use Rattle.star_fragments.proofs.Held.{found_at}
use Rattle.star_fragments.proofs.keys.place_of_key.Goals as goal

pub returns-in-Some-clause-found : goal.returns-in-Some-clause-found
returns-in-Some-clause-found c = λ x e.
    found_at x _ (as_scalar (value_of (seen c.args.arena.now) c.args.key)) _ _ c.place_among.result c.in-Some.ensures e c.items_of.ensures.items (c.place_among.ensures (seen c.args.arena.now).held)
