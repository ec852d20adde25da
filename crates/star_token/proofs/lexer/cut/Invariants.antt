use Rattle.std.proofs.Common.{◌≡◌, length}
use Rattle.star_grammar.specs.Tokens.{behind, tokens_of}
use Rattle.star_token.proofs.Cut.{rest_of}
use Rattle.star_token.proofs.lexer.cut.Given as goal

abbrev pub invariant-loop-more : goal.invariant-loop-more
invariant-loop-more l = behind l.found (rest_of l.origin l.cursor l.rest) ≡ tokens_of l.origin l.line l.text

abbrev pub decreases-loop-more : goal.decreases-loop-more
decreases-loop-more l = length l.rest
