use Rattle.std.proofs.Common.{drop}
use Rattle.text_spec.specs.Texts.{texts_of}
use Rattle.text_words.proofs.Passed.{HasPassed}
use Rattle.text_words.proofs.character_set.set_of_all.Given as goal

-- with what is left it has all
abbrev pub invariant-loop-character : goal.invariant-loop-character
invariant-loop-character l = HasPassed l.set (texts_of (drop l.character-index l.characters)) (texts_of l.characters)
