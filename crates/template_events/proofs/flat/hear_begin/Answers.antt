use Rattle.std.proofs.Common.{◌≡◌, [], ◌∷◌, Err, rules, subst}
use Rattle.star_tree.specs.View.{item_kind_of}
use Rattle.yaml_noted.specs.View.{comments_of, content_of, note_of}
use Rattle.template_events.specs.Heard.{Hears}
use Rattle.template_events.specs.Levels.{loose_all, start}
use Rattle.template_events.proofs.Taking.{hears_stopped, hears_then}
use Rattle.template_events.proofs.flat.hear_begin.Goals as goal

pub returns-in_err-hear_loose : goal.returns-in_err-hear_loose
returns-in_err-hear_loose c = λ r reads rest.
    let stops : c.from_residual.result ≡ Err c.in_err-hear_loose.field-0.0 = search rules in
    rw stops
    (hears_stopped c.args.setting (loose_all (comments_of c.args.item.now.before)) (start c.args.level (item_kind_of c.args.kind) (note_of c.args.item.now) (content_of c.args.item.now.content) ∷ []) c.args.hearing.now c.hear_loose.new.hearing
    c.hear_loose.new.hearing c.in_err-hear_loose.field-0.0 c.in_err-hear_loose.ensures r reads rest)

pub returns : goal.returns
returns c =
    hears_then c.args.setting (loose_all (comments_of c.args.item.now.before)) (start c.args.level (item_kind_of c.args.kind) (note_of c.args.item.now) (content_of c.args.item.now.content) ∷ []) c.args.hearing.now c.hear_loose.new.hearing
    c.hear_start.new.hearing c.hear_start.result c.in_ok-hear_loose.ensures (subst (λ p. Hears c.args.setting (p ∷ []) c.hear_loose.new.hearing c.hear_start.new.hearing c.hear_start.result) c.in_ok-start.ensures c.hear_start.ensures)
