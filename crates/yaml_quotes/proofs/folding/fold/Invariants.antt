use Rattle.std.proofs.Common.{◌≡◌, drop}
use Rattle.yaml_spec.specs.Folding.{Fold}
use Rattle.yaml_quotes.specs.Joining.{with_parts}
use Rattle.yaml_quotes.proofs.Foldings.{lines_left}
use Rattle.yaml_quotes.proofs.folding.fold.Given as goal

abbrev pub invariant-loop-part : goal.invariant-loop-part
invariant-loop-part l = with_parts l.folded (lines_left (drop l.part-index l.front) l.last) ≡ Fold l.parts
