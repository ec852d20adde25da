use Rattle.std.proofs.Common.{◌≡◌, ◌<◌, [], ◌∷◌, Err, None, get_or, length, refl, rules}
use Rattle.yaml_noted.specs.View.{comment_of, comments_of}
use Rattle.template_events.specs.Levels.{comment, loose_all}
use Rattle.template_events.proofs.Taking.{hearing_next, hearing_stops}
use Rattle.template_events.proofs.flat.hear_loose.Goals as goal

pub returns-in_err-hear_alone : goal.returns-in_err-hear_alone
returns-in_err-hear_alone c = λ r reads rest.
    let stops : c.from_residual.result ≡ Err c.in_err-hear_alone.field-0.0 = search rules in
    let within : c.loop-comment.comment-index < length c.args.comments.now = search rules in
    let member : c.comment-item.result ≡ get_or c.args.comments.now c.loop-comment.comment-index c.comment-item.result = search rules in
    rw stops
    (hearing_stops c.args.setting (λ cs. loose_all (comments_of cs)) (λ k. comment None (comment_of k) ∷ []) (λ x xs. refl) c.args.comments.now c.args.hearing.now c.loop-comment.hearing c.loop-comment.comment-index c.comment-item.result within
    member c.loop-comment.invariant c.hear_alone.new.hearing c.hear_alone.new.hearing c.in_err-hear_alone.field-0.0
    c.in_err-hear_alone.ensures r reads rest)

pub loop-comment-preserved : goal.loop-comment-preserved
loop-comment-preserved c =
    let within : c.loop-comment.comment-index < length c.args.comments.now = search rules in
    let member : c.comment-item.result ≡ get_or c.args.comments.now c.loop-comment.comment-index c.comment-item.result = search rules in
    hearing_next c.args.setting (λ cs. loose_all (comments_of cs)) (λ k. comment None (comment_of k) ∷ []) (λ x xs. refl) c.args.comments.now c.args.hearing.now c.loop-comment.hearing c.loop-comment.comment-index c.comment-item.result within
    member c.loop-comment.invariant c.hear_alone.new.hearing c.in_ok-hear_alone.ensures
