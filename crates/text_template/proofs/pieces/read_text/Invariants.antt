use denote.Shadow.{shadow}
use denote.Text.{Utf8}
use Rattle.std.proofs.Common.{◌≡◌, zero, [], length}
use Rattle.code_spec.specs.CodeReading.{CodeReader}
use Rattle.star_grammar.specs.CodeReaders.{IsCodeReader}
use Rattle.star_tree.specs.Listed.{pieces_of}
use Rattle.text_template_spec.specs.TextPieces.{pieces_in, text_from}
use Rattle.text_template.specs.Cuts.{behind}
use Rattle.text_template.proofs.pieces.read_text.Given as goal

abbrev pub invariant-loop-written : goal.invariant-loop-written
invariant-loop-written l =
    shadow (Utf8 l.rest) × ((r : CodeReader) → IsCodeReader r → pieces_in r l.at l.text ≡ behind (pieces_of l.at.file l.pieces) (text_from r l.at zero [] l.rest))

abbrev pub decreases-loop-written : goal.decreases-loop-written
decreases-loop-written l = length l.rest
