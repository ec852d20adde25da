use Rattle.std.proofs.Common.{sym, ◌∙◌, arith}
use Rattle.text_pieces.proofs.NextPieces.{next_character, next_piece, none_left}
use Rattle.text_pieces.proofs.cutting.next_piece.Goals as goal

pub returns-then-cuts-eq0 : goal.returns-then-cuts-eq0
returns-then-cuts-eq0 c = rw c.if-cuts-eq0.true (none_left c.args.separator.now c.args.text.now)

pub returns-then-is_empty : goal.returns-then-is_empty
returns-then-is_empty c = next_character c.args.separator.now c.args.text.now c.args.cuts _ (omega arith) (sym c.is_empty.ensures ∙ c.if-is_empty.true) c.first_character.ensures.character

pub returns : goal.returns
returns c = next_piece c.args.separator.now c.args.text.now c.args.cuts _ (omega arith) (sym c.is_empty.ensures ∙ c.if-is_empty.false) c.cut_first.ensures
