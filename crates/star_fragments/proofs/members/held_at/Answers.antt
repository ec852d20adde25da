use Rattle.star_steps.proofs.Names.{ap, sym, subst, ◌<◌, ◌∙◌, body_at, child_count, seen, OwnsItem, each_at}
use Rattle.star_fragments.proofs.Held.{body_owned, built_count, held_here, there}
use Rattle.star_fragments.proofs.members.held_at.Goals as goal

pub returns-clause-here : goal.returns-clause-here
returns-clause-here c =
    ap (body_at c.args.at) c.items_of.ensures.items
    ∙ held_here (seen c.args.arena.now).held c.items_of.result.now c.args.at c.in-Some.item.now (sym c.in-Some.ensures)

pub returns-clause-owned : goal.returns-clause-owned
returns-clause-owned c =
    body_owned (seen c.args.arena.now) c.in-Some.item.now (each_at (OwnsItem (seen c.args.arena.now)) c.items_of.result.now c.args.at c.in-Some.item.now c.items_of.ensures.owned (sym c.in-Some.ensures))

pub unreachable-requires : goal.unreachable-requires
unreachable-requires c =
    there c.items_of.result.now c.args.at (subst (λ n. c.args.at < n) (ap child_count c.items_of.ensures.items ∙ built_count (seen c.args.arena.now).held c.items_of.result.now) c.requires.at) c.in-None.ensures
