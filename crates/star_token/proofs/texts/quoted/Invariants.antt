use Rattle.std.proofs.Common.{◌≡◌, length}
use Rattle.star_grammar.specs.Pieces.{quoted}
use Rattle.star_token.proofs.Quoted.{behind}
use Rattle.star_token.proofs.texts.quoted.Given as goal

abbrev pub invariant-loop-more : goal.invariant-loop-more
invariant-loop-more l = behind l.bytes.items (quoted l.form l.rest) ≡ quoted l.form l.text

abbrev pub decreases-loop-more : goal.decreases-loop-more
decreases-loop-more l = length l.rest
