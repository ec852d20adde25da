use Rattle.std.proofs.Common.{sym}
use Rattle.yaml_text.specs.View.{cursor_of}
use Rattle.yaml_noted.specs.View.{comments_of}
use Rattle.yaml_flow.proofs.Scalars.{scalar-quoted, scalar-plain}
use Rattle.yaml_flow.proofs.scalar.read_scalar.Goals as goal

pub returns-then-starts_quote-clause-node : goal.returns-then-starts_quote-clause-node
returns-then-starts_quote-clause-node c =
    rw (scalar-quoted c.args.open_place (comments_of c.args.comments) (cursor_of c.args.cursor) (sym c.if-starts_quote.ensures)) c.read_quoted_scalar.ensures.node

pub returns-else-starts_quote-clause-node : goal.returns-else-starts_quote-clause-node
returns-else-starts_quote-clause-node c =
    rw (scalar-plain c.args.open_place (comments_of c.args.comments) (cursor_of c.args.cursor) (sym c.if-starts_quote.ensures)) c.read_plain.ensures.node
