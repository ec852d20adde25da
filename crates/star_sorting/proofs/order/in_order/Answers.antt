use Rattle.star_steps.proofs.Names.{◌≡◌, ap, rules, ◌∙◌, seen, values_of}
use Rattle.std.proofs.Common.{map as each}
use Rattle.std.proofs.lemmas.Fn.{always_returns_same}
use Rattle.std.specs.Ordering.{is_lt}
use Rattle.star_sorting.specs.Places.{earlier, value_at}
use Rattle.star_sorting.proofs.Places.{all_in_order, gathered_are, gathered_owned}
use Rattle.star_sorting.proofs.order.in_order.Goals as goal

pub returns-clause-values : goal.returns-clause-values
returns-clause-values c =
    let a = seen c.args.arena.now in
    let ks = c.args.keys.now in
    let vs = c.args.members.now in
    gathered_are a vs c.as_slice.result.now c.gathered.result _ c.gathered.ensures
    (ap (λ l. values_of a (each (value_at vs) l)) c.as_slice.ensures.value
    ∙ all_in_order c.args.descending a ks vs c.in_ok-places.places.items c.sort_by.new.self.items _ c.in_ok-places.ensures c.in_ok-sort_by.ensures.sorted c.sort_by.ensures.stable
    (always_returns_same _ (λ x r. is_lt r ≡ earlier c.args.descending a ks x.0.now x.1.0.now) _ (λ x r f k. search rules)))

pub returns-clause-owned : goal.returns-clause-owned
returns-clause-owned c = gathered_owned (seen c.args.arena.now) c.args.members.now c.as_slice.result.now c.gathered.result c.gathered.ensures c.requires.members
