use Rattle.std.proofs.Common.{◌++◌, map-id, sym, ap, ◌∙◌, string_bytes}
use Rattle.std.proofs.lemmas.Iterator.{YieldsList-from_chars}
use Rattle.std.proofs.lemmas.Iterator.Consumers.{YieldsList-end}
use Rattle.yaml_spec.specs.Text.{quoted_chars}
use Rattle.yaml_styles.proofs.QuotedChars.{quoted_chars-next}
use Rattle.listing.proofs.quoted.push_chars.Goals as goal

pub loop-c-preserved : goal.loop-c-preserved
loop-c-preserved c = quoted_chars-next (string_bytes c.args.out.now) _ _ c.loop-c.yielded c.in-Some.c c.loop-c.invariant c.in_ok-push_char.ensures

pub returns : goal.returns
returns c =
    let end = YieldsList-end (YieldsList-from_chars c.args.text.now c.utf8.text cc) c.loop-c.yielded _ c.loop-c.yielded_by _ _ c.in-None.is c.next.ensures.steps in
    c.loop-c.invariant ∙ ap (λ t. string_bytes c.args.out.now ++ quoted_chars t) (sym (map-id c.loop-c.yielded) ∙ end.0)
