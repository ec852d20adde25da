use Rattle.std.proofs.Common.{refl}
use Rattle.star_grammar.specs.Tokens.{at_line}
use Rattle.star_token.proofs.Cut.{ended}
use Rattle.star_token.proofs.lexer.tokens_of.Goals as goal

pub returns-in-Ok-clause-ended : goal.returns-in-Ok-clause-ended
returns-in-Ok-clause-ended c = ended c.as_bytes.result.now 0 c.args.origin (at_line c.args.line) c.in-Ok.tokens c.in-Ok.ensures

pub returns-in-Err-Refused-clause-cut : goal.returns-in-Err-Refused-clause-cut
returns-in-Err-Refused-clause-cut c =
    (record { fault = c.in-Err-Refused.kind; line = c.in-Err-Refused.line }, rw (c.in-Err-Refused.field-0-is, c.as_bytes.ensures.value) at c.in-Err-Refused.ensures, rw c.new.ensures refl)
