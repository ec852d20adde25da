use denote.Shadow.{shadow}
use denote.Text.{Utf8}
use Rattle.std.proofs.Common.{◌≡◌, ◌++◌}
use Rattle.text_spec.specs.Texts.{texts_of}
use Rattle.text_pieces.specs.Texts.{pieces_on}
use Rattle.text_pieces.proofs.cutting.cut_on.Given as goal

abbrev pub invariant-loop-piece : goal.invariant-loop-piece
invariant-loop-piece l = shadow (Utf8 l.rest) × (texts_of l.made ++ pieces_on l.separator l.left l.rest ≡ texts_of l.initial.made ++ pieces_on l.separator l.cuts l.text)

abbrev pub decreases-loop-piece : goal.decreases-loop-piece
decreases-loop-piece l = l.left
