use Rattle.star_steps.proofs.Names.{◌∷◌, ◌++◌, ◌∙◌, ◌<◌, []}
use Rattle.star_index.proofs.Names.{ap, get_or, length, picked_next, rules, slice_get, slice_get-get_or, sym}
use Rattle.star_values.specs.declared.value.Value.TheVariants as value
use Rattle.star_index.proofs.slices.members_at.Goals as goal

pub loop-number-preserved : goal.loop-number-preserved
loop-number-preserved c =
    let members = c.args.members.now in
    let within : c.at.result < length members = search rules in
    let here = slice_get-get_or members c.at.result value.None within in
    c.in_ok-push.ensures.ok
    ∙ ap (λ l. l ++ get_or members c.at.result value.None ∷ []) c.loop-number.invariant
    ∙ sym (picked_next members c.loop-number.number c.args.places.now.first c.args.places.now.step (get_or members c.at.result value.None) (ap (slice_get members) (sym c.at.ensures) ∙ here))
