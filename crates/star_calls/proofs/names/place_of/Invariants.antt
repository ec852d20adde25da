use Rattle.star_calls.specs.Named.{OtherNames}
use Rattle.star_calls.proofs.names.place_of.Given as goal

abbrev pub invariant-loop-at : goal.invariant-loop-at
invariant-loop-at l = OtherNames l.name l.named l.at
