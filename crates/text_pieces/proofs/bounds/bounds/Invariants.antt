use Rattle.text_pieces.proofs.BoundsLeft.{Found}
use Rattle.text_pieces.proofs.bounds.bounds.Given as goal

abbrev pub invariant-loop-at : goal.invariant-loop-at
invariant-loop-at l = Found l.text l.from l.to l.at l.found.first l.found.last l.found.count
