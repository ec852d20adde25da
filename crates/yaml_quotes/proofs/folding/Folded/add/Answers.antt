use Rattle.std.proofs.Common.{sym, lit<}
use Rattle.std.proofs.lemmas.Str.{encode_ascii}
use Rattle.yaml_quotes.proofs.Foldings.{added-break, added-part}
use Rattle.yaml_quotes.proofs.folding.Folded.add.Goals as goal

pub returns-then-is_break : goal.returns-then-is_break
returns-then-is_break c next parts =
    rw (c.in_ok-push.ensures.bytes, encode_ascii 10 (lit< tt)) (added-break _ _ _ _ next parts (sym c.if-is_break.ensures))

pub returns : goal.returns
returns c next parts =
    rw (c.in_ok-push_str-2.ensures.bytes, c.in_ok-push_str.ensures.bytes, c.glue.ensures, c.after-self.ensures)
    (added-part _ _ _ _ next parts (sym c.if-is_break.ensures))
