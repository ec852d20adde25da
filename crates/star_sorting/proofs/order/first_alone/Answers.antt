use Rattle.star_steps.proofs.Names.{Some, ap, arith, subst, sym, ◌∙◌, Owns, or_fail, seen, state_in, value_of}
use Rattle.ytt_base.specs.declared.fault.FaultKind.TheVariants as kind
use Rattle.star_sorting.proofs.Choosing.{gives_fail, one_chosen}
use Rattle.star_sorting.proofs.Places.{first_is, no_first, owned_at}
use Rattle.star_sorting.proofs.order.first_alone.Goals as goal

pub returns-then-count-eq0 : goal.returns-then-count-eq0
returns-then-count-eq0 c n =
    let a = seen c.args.arena.now in
    gives_fail c.args.at a n _ c.refusal.result (ap (λ o. or_fail kind.ValueKind c.args.at o (state_in a n)) (no_first c.args.descending a c.args.keys.now c.args.members.now (omega arith))) c.refusal.ensures

pub returns : goal.returns
returns c n =
    let a = seen c.args.arena.now in
    let first = first_is c.args.descending a c.args.keys.now c.args.members.now c.loop-place.first c.loop-place.place c.loop-place.invariant.first (omega arith) in
    one_chosen c.args.at _ a n c.value_or_none.result (first ∙ ap (λ v. Some (value_of a v)) (sym c.value_or_none.ensures)) (subst (Owns a) (sym c.value_or_none.ensures) (owned_at a c.args.members.now c.loop-place.first c.requires.members))
