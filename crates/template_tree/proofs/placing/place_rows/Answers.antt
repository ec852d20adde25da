use Rattle.std.proofs.Common.{◌≡◌, ◌∙◌, ap, [], None, rules}
use Rattle.template_events.specs.View.{rows_of}
use Rattle.template_pass.specs.Building.{built, documents_in}
use Rattle.template_pass.specs.Levels.{fault_by_levels}
use Rattle.template_tree.specs.View.{items_of}
use Rattle.template_checks.specs.Walk.{mark_levels}
use Rattle.template_tree.specs.Marked.{puts_at}
use Rattle.template_tree.proofs.Wholes.{is_placed}
use Rattle.template_tree.proofs.placing.place_rows.Goals as goal

pub returns-clause-template : goal.returns-clause-template
returns-clause-template c =
    let file = c.args.file in
    let rs = rows_of file c.args.rows.items in
    let none : None ≡ fault_by_levels file rs = search rules in
    let marked : c.in_ok-wrong.field-0.levels ≡ mark_levels [] 0 rs = search rules in
    let made : items_of file c.in_ok-items.items ≡ documents_in file (built file (puts_at c.in_ok-wrong.field-0.levels [] rs)) = c.in_ok-items.ensures ∙ ap (λ ps. documents_in file (built file ps)) (c.in_ok-puts.ensures file ∙ ap (λ ls. puts_at ls [] rs) c.as_slice-2.ensures) in
    is_placed file rs c.in_ok-wrong.field-0.levels _ none marked made
