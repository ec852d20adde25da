use Rattle.std.proofs.Common.{[], ◌∷◌, Some, option_map, sym, ap, ◌∙◌}
use Rattle.star_tree.specs.View.{item_kind_of}
use Rattle.yaml_noted.specs.View.{comment_of, content_of}
use Rattle.template_events.specs.Levels.{comment, owner, trailing}
use Rattle.template_events.proofs.Taking.{hears_same}
use Rattle.template_events.proofs.flat.hear_trailing.Goals as goal

pub returns-in-Some : goal.returns-in-Some
returns-in-Some c =
    let o = owner c.args.level (item_kind_of c.args.kind) (content_of c.args.item.now.content) in
    hears_same c.args.setting _ _ c.args.hearing.now c.hear_beside.new.hearing c.hear_beside.result
    (ap (λ t. trailing o (option_map comment_of t)) c.in-Some.is ∙ (λ i. comment (Some (sym c.owner-owner.ensures i)) (comment_of c.in-Some.comment) ∷ []))
    c.hear_beside.ensures
