use Rattle.std.proofs.Common.{◌≡◌, ◌++◌, drop}
use Rattle.text_spec.specs.Texts.{texts_of}
use Rattle.star_text.proofs.answers.copies.Given as goal

abbrev pub invariant-loop-text : goal.invariant-loop-text
invariant-loop-text l = l.all ++ texts_of (drop l.text-index l.texts) ≡ texts_of l.texts
