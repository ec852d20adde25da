use Rattle.std.proofs.Common.{◌≡◌, IsUtf8}
use Rattle.text_spec.specs.Cutting.{words}
use Rattle.text_words.specs.Ends.{turned}
use Rattle.text_words.proofs.WordSteps.{words_so}
use Rattle.text_words.proofs.word_cuts.words_from.Given as goal

abbrev pub invariant-loop-rest : goal.invariant-loop-rest
invariant-loop-rest l = record {
  same : words_so l.end l.words.items l.left l.rest ≡ words l.count (turned l.end l.text);
  utf8 : IsUtf8 l.rest;
}

abbrev pub decreases-loop-rest : goal.decreases-loop-rest
decreases-loop-rest l = l.left
