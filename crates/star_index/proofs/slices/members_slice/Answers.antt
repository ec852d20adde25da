use Rattle.star_steps.proofs.Names.{◌≤◌}
use Rattle.star_index.proofs.Names.{Owns, OwnsAll, cut_in, length, members_taken, picked_each, sliced_among, sliced_few, places_in, rules, seen, subst, sym}
use Rattle.star_index.proofs.slices.members_slice.Goals as goal

pub overflow_add-members : goal.overflow_add-members
overflow_add-members c =
    let few : c.count.result ≤ length c.args.members.now = sliced_few (length c.args.members.now) (cut_in (seen c.args.arena.now).held c.args.cut.now) (places_in c.cut_places-places.result) c.count.result (c.cut_places-places.ensures (seen c.args.arena.now)) c.count.ensures in
    search (rules, few)

pub members_at-requires : goal.members_at-requires
members_at-requires c = sliced_among (length c.args.members.now) (cut_in (seen c.args.arena.now).held c.args.cut.now) (places_in c.cut_places-places.result) (c.cut_places-places.ensures (seen c.args.arena.now))

pub returns-clause-meaning : goal.returns-clause-meaning
returns-clause-meaning c =
    members_taken (seen c.args.arena.now) c.args.place c.args.members.now c.in_ok-members_at.field-0 (cut_in (seen c.args.arena.now).held c.args.cut.now) (places_in c.cut_places-places.result) c.count.result _ _
    (c.cut_places-places.ensures (seen c.args.arena.now)) c.count.ensures c.in_ok-pay.ensures c.in_ok-members_at.ensures

pub returns-clause-owns : goal.returns-clause-owns
returns-clause-owns c = subst (OwnsAll (seen c.args.arena.now)) (sym c.in_ok-members_at.ensures) (picked_each (Owns (seen c.args.arena.now)) c.args.members.now _ _ _ c.requires)
