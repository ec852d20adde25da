use denote.Shadow.{shadow}
use denote.Text.{Utf8}
use Rattle.std.proofs.Common.{◌≡◌, ◌++◌, reverse}
use Rattle.text_spec.specs.Cutting.{pieces_back}
use Rattle.text_spec.specs.Texts.{texts_of}
use Rattle.text_pieces.proofs.cutting.pieces_back.Given as goal

abbrev pub invariant-loop-before : goal.invariant-loop-before
invariant-loop-before l = shadow (Utf8 l.rest) × (pieces_back l.separator l.left l.rest ++ reverse (texts_of l.turned.items) ≡ pieces_back l.separator l.cuts l.text)

abbrev pub decreases-loop-before : goal.decreases-loop-before
decreases-loop-before l = l.left
