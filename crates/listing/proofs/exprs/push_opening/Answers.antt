use Rattle.std.proofs.Common.{◌++◌, ap, ◌∙◌, string_bytes}
use Rattle.listing.proofs.Pushing.{put_after}
use Rattle.listing.proofs.exprs.push_opening.Goals as goal

pub returns : goal.returns
returns c =
    put_after c.push_operator.result (string_bytes c.args.out.now) (string_bytes c.push.new.out) (string_bytes c.push_operator.new.out) _ _
    (c.in_ok-push.ensures ∙ ap (λ l. string_bytes c.args.out.now ++ l) (c.form_word.ensures c.args.file)) c.push_operator.ensures
