use Rattle.std.proofs.Common.{◌≡◌, drop}
use Rattle.star_grammar.specs.CodeReaders.{brackets}
use Rattle.notes_read.proofs.reader.open_brackets.Given as goal

abbrev pub invariant-loop-token : goal.invariant-loop-token
invariant-loop-token l = brackets l.depth (drop l.token-index l.tokens) ≡ brackets l.before l.tokens
