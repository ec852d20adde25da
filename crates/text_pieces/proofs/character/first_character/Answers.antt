use Rattle.std.proofs.Common.{sym, ◌∙◌}
use Rattle.text_pieces.proofs.FirstCharacter.{cut}
use Rattle.text_pieces.proofs.character.first_character.Goals as goal

pub split_at-requires : goal.split_at-requires
split_at-requires c = (cut c.args.text.now c.as_bytes.result.now c.inner_len.result (sym c.is_empty.ensures ∙ c.if-is_empty.false) c.as_bytes.ensures.value c.inner_len.ensures.len).0

pub returns-clause-character : goal.returns-clause-character
returns-clause-character c =
    rw (c.split_at.ensures.front, c.split_at.ensures.back)
    (cut c.args.text.now c.as_bytes.result.now c.inner_len.result (sym c.is_empty.ensures ∙ c.if-is_empty.false) c.as_bytes.ensures.value c.inner_len.ensures.len).1
