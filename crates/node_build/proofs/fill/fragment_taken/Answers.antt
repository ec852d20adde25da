use Rattle.std.proofs.Common.{◌≡◌, ◌∙◌, Err, ap, rules, sym}
use Rattle.star_steps.proofs.Meeting.{meets_same, meets_stop}
use Rattle.star_values.specs.Objects.{seen}
use Rattle.star_values.specs.View.{built_in}
use Rattle.star_steps.specs.Meets.{state_in}
use Rattle.value_spec.specs.Outcomes.{done, give, then_do}
use Rattle.value_spec.specs.Values.{list_of, map_of, taken}
use Rattle.node_build.proofs.Bodies.{body_in-List, body_in-Map}
use Rattle.node_build.proofs.Filling.{elements_over, pairs_over}
use Rattle.node_build.proofs.Owned.{list_held, map_held}
use Rattle.node_build.specs.View.{filled_in}
use Rattle.node_build.proofs.fill.fragment_taken.Goals as goal

pub returns-in_err-paid_items-in-Fragment-Pair-default-clause-meaning : goal.returns-in_err-paid_items-in-Fragment-Pair-default-clause-meaning
returns-in_err-paid_items-in-Fragment-Pair-default-clause-meaning c = λ kind.
    let held = (seen c.args.arena.now).held in
    let failed = c.in_err-paid_items-in-Fragment-Pair-default in
    let stopped : c.from_residual.result ≡ Err failed.field-0.0 = search rules in
    meets_same (filled_in held) c.from_residual.result _ _ _
    (pairs_over c.args.place kind c.args.around _ _ _ _ c.levels_left-levels.ensures (rw c.in-Fragment-Pair-default.field-0-is at c.in-Fragment-Pair-default.ensures).1)
    (meets_stop (built_in held) (filled_in held) failed.field-0.0 _ _ _ _ failed.ensures.meaning stopped)

pub returns-in_err-paid_items-in-Fragment-Element-default-clause-meaning : goal.returns-in_err-paid_items-in-Fragment-Element-default-clause-meaning
returns-in_err-paid_items-in-Fragment-Element-default-clause-meaning c = λ kind.
    let held = (seen c.args.arena.now).held in
    let failed = c.in_err-paid_items-in-Fragment-Element-default in
    let stopped : c.from_residual-in_err-paid_items-in-Fragment-Element-default.result ≡ Err failed.field-0.0 = search rules in
    meets_same (filled_in held) c.from_residual-in_err-paid_items-in-Fragment-Element-default.result _ _ _
    (elements_over c.args.place kind c.args.around _ _ _ _ c.levels_left-levels.ensures (rw c.in-Fragment-Element-default.field-0-is at c.in-Fragment-Element-default.ensures).1)
    (meets_stop (built_in held) (filled_in held) failed.field-0.0 _ _ _ _ failed.ensures.meaning stopped)

pub returns-in_ok-paid_items-in-Fragment-Pair-default-clause-meaning : goal.returns-in_ok-paid_items-in-Fragment-Pair-default-clause-meaning
returns-in_ok-paid_items-in-Fragment-Pair-default-clause-meaning c = λ kind.
    pairs_over c.args.place kind c.args.around _ _ _ _ c.levels_left-levels.ensures (rw c.in-Fragment-Pair-default.field-0-is at c.in-Fragment-Pair-default.ensures).1
    ∙ ap (λ o. then_do o (λ cs. give (taken (map_of cs)))) c.in_ok-paid_items-in-Fragment-Pair-default.ensures.meaning
    ∙ (λ i. done (taken (sym (body_in-Map (seen c.args.arena.now).held c.in_ok-paid_items-in-Fragment-Pair-default.field-0) i)) (state_in (seen c.args.arena.now) c.paid_items.new.steps))

pub returns-in_ok-paid_items-in-Fragment-Element-default-clause-meaning : goal.returns-in_ok-paid_items-in-Fragment-Element-default-clause-meaning
returns-in_ok-paid_items-in-Fragment-Element-default-clause-meaning c = λ kind.
    elements_over c.args.place kind c.args.around _ _ _ _ c.levels_left-levels.ensures (rw c.in-Fragment-Element-default.field-0-is at c.in-Fragment-Element-default.ensures).1
    ∙ ap (λ o. then_do o (λ cs. give (taken (list_of cs)))) c.in_ok-paid_items-in-Fragment-Element-default.ensures.meaning
    ∙ (λ i. done (taken (sym (body_in-List (seen c.args.arena.now).held c.in_ok-paid_items-in-Fragment-Element-default.field-0) i)) (state_in (seen c.args.arena.now) c.paid_items-in-Fragment-Element-default.new.steps))

pub returns-in_ok-paid_items-in-Fragment-Pair-default-clause-owned : goal.returns-in_ok-paid_items-in-Fragment-Pair-default-clause-owned
returns-in_ok-paid_items-in-Fragment-Pair-default-clause-owned c = map_held (seen c.args.arena.now) _ c.in_ok-paid_items-in-Fragment-Pair-default.ensures.owned

pub returns-in_ok-paid_items-in-Fragment-Element-default-clause-owned : goal.returns-in_ok-paid_items-in-Fragment-Element-default-clause-owned
returns-in_ok-paid_items-in-Fragment-Element-default-clause-owned c = list_held (seen c.args.arena.now) _ c.in_ok-paid_items-in-Fragment-Element-default.ensures.owned
