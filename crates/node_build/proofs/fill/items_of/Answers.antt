use Rattle.std.proofs.Common.{◌≡◌, ◌∙◌, Err, ap, rules, true}
use Rattle.code_spec.specs.Program.{same_kind}
use Rattle.star_steps.proofs.Meeting.{meets_same, meets_stop}
use Rattle.star_tree.specs.View.{item_kind_of}
use Rattle.star_values.specs.Objects.{seen}
use Rattle.star_values.specs.View.{built_in}
use Rattle.value_spec.specs.Outcomes.{give, then_do}
use Rattle.value_spec.specs.Values.{many}
use Rattle.node_build.proofs.Filling.{items_replaced}
use Rattle.node_build.specs.View.{filled_in}
use Rattle.node_build.proofs.fill.items_of.Goals as goal

pub returns-in_err-paid_items-in-Fragment-clause-meaning : goal.returns-in_err-paid_items-in-Fragment-clause-meaning
returns-in_err-paid_items-in-Fragment-clause-meaning c =
    let held = (seen c.args.arena.now).held in
    let failed = c.in_err-paid_items-in-Fragment in
    let stopped : c.from_residual.result ≡ Err failed.field-0.0 = search rules in
    let same : same_kind (item_kind_of c.in-Fragment.of) (item_kind_of c.args.kind) ≡ true = search rules in
    meets_same (filled_in held) c.from_residual.result _ _ _
    (items_replaced c.args.place (item_kind_of c.args.kind) (item_kind_of c.in-Fragment.of) c.args.around _ _ _ _ c.levels_left-levels.ensures c.in-Fragment.ensures.1 same)
    (meets_stop (built_in held) (filled_in held) failed.field-0.0 _ _ _ _ failed.ensures.meaning stopped)

pub returns-clause-meaning : goal.returns-clause-meaning
returns-clause-meaning c =
    let same : same_kind (item_kind_of c.in-Fragment.of) (item_kind_of c.args.kind) ≡ true = search rules in
    items_replaced c.args.place (item_kind_of c.args.kind) (item_kind_of c.in-Fragment.of) c.args.around _ _ _ _ c.levels_left-levels.ensures c.in-Fragment.ensures.1 same
    ∙ ap (λ o. then_do o (λ cs. give (many cs))) c.in_ok-paid_items-in-Fragment.ensures.meaning
