use Rattle.star_steps.proofs.Names.{◌++◌, ◌∙◌}
use Rattle.star_index.proofs.Names.{YieldsList-end, YieldsList-from_chars, ap, encode_utf8, encode_utf8_all, encodes-chars, map-id, quoted_bytes, quoted_next, string_bytes, sym}
use Rattle.star_index.proofs.key_text.push_characters.Goals as goal

pub loop-c-preserved : goal.loop-c-preserved
loop-c-preserved c =
    c.in_ok-push_character.ensures ∙ ap (λ l. l ++ quoted_bytes (encode_utf8 c.in-Some.c)) c.loop-c.invariant
    ∙ quoted_next (string_bytes c.args.shown.now) c.loop-c.yielded c.in-Some.c

pub returns : goal.returns
returns c =
    let end = YieldsList-end (YieldsList-from_chars c.args.text.now c.utf8.text cc) c.loop-c.yielded _ c.loop-c.yielded_by _ _ c.in-None.is c.next.ensures.steps in
    c.loop-c.invariant ∙ ap (λ l. string_bytes c.args.shown.now ++ quoted_bytes l) (ap encode_utf8_all (sym (map-id c.loop-c.yielded) ∙ end.0) ∙ encodes-chars c.args.text.now c.utf8.text)
