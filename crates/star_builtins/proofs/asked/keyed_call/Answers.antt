use Rattle.std.proofs.Common.{ap, rules, subst, sym, ◌∙◌}
use Rattle.star_steps.proofs.Names.{OwnsAll, done, seen, state_in, then_do, values_of}
use Rattle.star_values.specs.View.{arguments_in}
use Rattle.star_builtins.specs.Asked.{keyed_row, ordered_row}
use Rattle.star_builtins.proofs.Asking.{asks_same, asks_stop}
use Rattle.star_builtins.proofs.asked.keyed_call.Goals as goal

pub returns-in_err-values-in-Sorted : goal.returns-in_err-values-in-Sorted
returns-in_err-values-in-Sorted c =
    let a = seen c.args.arena.now in
    let n = c.args.steps.now in
    asks_stop (values_of a) c.in_err-values-in-Sorted.field-0.0 a n n _ (ordered_row c.args.at) c.from_residual.result _
    (ap (λ w. keyed_row w c.args.at (arguments_in a.held c.args.args) (state_in a n)) c.in-Sorted.is) (c.in_err-values-in-Sorted.ensures n).meaning (search rules)

pub sorted-requires : goal.sorted-requires
sorted-requires c = subst (OwnsAll (seen c.args.arena.now)) (sym c.as_slice.ensures) (c.in_ok-values-in-Sorted.ensures 0).owns

pub returns-in_ok-values-in-Sorted : goal.returns-in_ok-values-in-Sorted
returns-in_ok-values-in-Sorted c =
    let a = seen c.args.arena.now in
    let n = c.args.steps.now in
    asks_same _ _ _ _ _ _ _
    (ap (λ w. keyed_row w c.args.at (arguments_in a.held c.args.args) (state_in a n)) c.in-Sorted.is
    ∙ ap (λ o. then_do o (ordered_row c.args.at)) ((c.in_ok-values-in-Sorted.ensures n).meaning ∙ ap (λ vs. done (values_of a vs) (state_in a n)) (sym c.as_slice.ensures)))
    c.sorted.ensures
