use Rattle.std.proofs.Common.{IsUtf8, length}
use Rattle.text_words.specs.Sets.{characters_in}
use Rattle.text_words.proofs.Stripping.{StripsSoFar}
use Rattle.text_words.proofs.strips.stripped.Given as goal

abbrev pub invariant-loop-left : goal.invariant-loop-left
invariant-loop-left l = record {
  so : StripsSoFar l.end (characters_in l.set) l.text l.rest;
  utf8 : IsUtf8 l.rest;
}

abbrev pub decreases-loop-left : goal.decreases-loop-left
decreases-loop-left l = length l.rest
