use Rattle.std.proofs.Common.{length}
use Rattle.yaml_text.specs.View.{cursor_of}
use Rattle.yaml_quotes.proofs.QuotedLines.{IsReading}
use Rattle.yaml_quotes.proofs.quote.read_quote.Given as goal

abbrev pub invariant-lines : goal.invariant-lines
invariant-lines l = IsReading l.open_place l.is_double (cursor_of l.cursor) l.folded (cursor_of l.here)

abbrev pub decreases-lines : goal.decreases-lines
decreases-lines l = length l.here.below.now
