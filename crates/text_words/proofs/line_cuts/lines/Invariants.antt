use Rattle.std.proofs.Common.{IsUtf8, length}
use Rattle.text_words.proofs.LineSteps.{LinesSoFar}
use Rattle.text_words.proofs.line_cuts.lines.Given as goal

abbrev pub invariant-loop-rest : goal.invariant-loop-rest
invariant-loop-rest l = record {
  so : LinesSoFar l.keep l.lines l.text l.rest;
  utf8 : IsUtf8 l.rest;
}

abbrev pub decreases-loop-rest : goal.decreases-loop-rest
decreases-loop-rest l = length l.rest
