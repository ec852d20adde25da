use Rattle.std.proofs.Common.{◌++◌, reverse, ap, sym, ◌∙◌}
use Rattle.text_pieces.proofs.NextPieces.{reversed}
use Rattle.text_spec.specs.Texts.{texts_of}
use Rattle.text_pieces.proofs.cutting.pieces_back.Goals as goal

pub returns : goal.returns
returns c =
    let ts = c.loop-before.turned.items in
    ap texts_of (c.from_vec.ensures ∙ c.reverse.ensures.items ∙ ap reverse c.in_ok-push-2.ensures.items)
    ∙ reversed ts c.loop-before.rest
    ∙ ap (λ l. l ++ reverse (texts_of ts)) (sym c.in_default.ensures)
    ∙ c.loop-before.invariant.1
