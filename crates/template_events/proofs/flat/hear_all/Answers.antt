use Rattle.std.proofs.Common.{◌≡◌, Err, rules}
use Rattle.code_spec.specs.Program.{document_item}
use Rattle.yaml_noted.specs.View.{comments_of, items_of}
use Rattle.template_events.specs.Levels.{loose_all, parts_among}
use Rattle.template_events.proofs.Taking.{hears_stopped}
use Rattle.template_events.proofs.flat.hear_all.Goals as goal

pub returns-in_err-hear_items : goal.returns-in_err-hear_items
returns-in_err-hear_items c = λ r reads rest.
    let stops : c.from_residual.result ≡ Err c.in_err-hear_items.field-0.0 = search rules in
    rw stops
    (hears_stopped c.args.setting (parts_among document_item 0 (items_of c.args.docs.now.items)) (loose_all (comments_of c.args.docs.now.after)) c.args.hearing.now c.hear_items.new.hearing c.hear_items.new.hearing
    c.in_err-hear_items.field-0.0 c.in_err-hear_items.ensures r reads rest)
