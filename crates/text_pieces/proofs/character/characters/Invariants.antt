use denote.Shadow.{shadow}
use denote.Text.{Utf8}
use Rattle.std.proofs.Common.{◌≡◌, ◌++◌, length}
use Rattle.text_spec.specs.Classes.{characters}
use Rattle.text_spec.specs.Texts.{texts_of}
use Rattle.text_pieces.proofs.character.characters.Given as goal

abbrev pub invariant-loop-character : goal.invariant-loop-character
invariant-loop-character l = shadow (Utf8 l.rest) × (texts_of l.made ++ characters l.rest ≡ characters l.text)

abbrev pub decreases-loop-character : goal.decreases-loop-character
decreases-loop-character l = length l.rest
