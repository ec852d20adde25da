use Rattle.std.proofs.Common.{◌≡◌, drop}
use Rattle.star_token.specs.View.{mark_among, words_of}
use Rattle.star_token.proofs.words.mark_among.Given as goal

abbrev pub invariant-loop-named : goal.invariant-loop-named
invariant-loop-named l = mark_among l.word (words_of l.words) ≡ mark_among l.word (words_of (drop l.named-index l.words))
