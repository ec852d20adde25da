use Rattle.star_steps.proofs.Names.{◌∙◌}
use Rattle.star_index.proofs.Names.{Err, ap, as_is, length, length-map, meets_same, place_below, rules, seen, state_in, sym, to_z-of_z, value_of, w128}
use Rattle.star_index.proofs.ChangeRows.{act_stopped, member_put, no_member, placed}
use Rattle.value_spec.specs.Outcomes.{after_act}
use Rattle.star_index.proofs.changes.set_member_at.Goals as goal

pub overflow_cast-at : goal.overflow_cast-at
overflow_cast-at c =
    let below = place_below (length c.list.result.now) _ c.in-Some.at (sym c.place_among.ensures ∙ c.in-Some.is) in
    search (rules, below)

pub returns-in-None-clause-meaning : goal.returns-in-None-clause-meaning
returns-in-None-clause-meaning c n = rw c.refusal.ensures (no_member c.args.place c.args.list.at c.args.index (value_of (seen c.args.arena.now) c.args.new) (seen c.args.arena.now) n (placed _ _ c.args.index _ c.place_among.result (ap length c.list.ensures.members ∙ length-map _ _) (to_z-of_z w128 c.args.index c.ranges.index) c.place_among.ensures ∙ c.in-None.is))

pub returns-in-Ok-clause-meaning : goal.returns-in-Ok-clause-meaning
returns-in-Ok-clause-meaning c n =
    let a = seen c.args.arena.now in
    member_put c.args.place c.args.list.at c.args.index (value_of a c.args.new) a n c.in-Some.at (placed _ _ c.args.index _ c.place_among.result (ap length c.list.ensures.members ∙ length-map _ _) (to_z-of_z w128 c.args.index c.ranges.index) c.place_among.ensures ∙ c.in-Some.is)
    ∙ ap (λ o. after_act c.args.place o (state_in a n)) c.in-Ok.ensures.meaning

pub returns-in-Err-clause-meaning : goal.returns-in-Err-clause-meaning
returns-in-Err-clause-meaning c n =
    let a = seen c.args.arena.now in
    let b = seen c.list_set.new.self in
    meets_same as_is (Err c.stop_at.result) (state_in b n) _ _
    (member_put c.args.place c.args.list.at c.args.index (value_of a c.args.new) a n c.in-Some.at (placed _ _ c.args.index _ c.place_among.result (ap length c.list.ensures.members ∙ length-map _ _) (to_z-of_z w128 c.args.index c.ranges.index) c.place_among.ensures ∙ c.in-Some.is))
    (act_stopped (λ u. u) c.args.place c.in-Err.stop c.stop_at.result _ a b n c.in-Err.ensures.meaning c.stop_at.ensures)
