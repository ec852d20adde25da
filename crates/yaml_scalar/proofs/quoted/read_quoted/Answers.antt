use Rattle.std.proofs.Common.{Ok, sym, ap, rules}
use Rattle.yaml_spec.specs.Held.{plain_lines}
use Rattle.yaml_text.specs.View.{cursor_of}
use Rattle.yaml_scalar.proofs.Cursors.{quote-opens, quoted_at-Quote}
use Rattle.yaml_scalar.proofs.quoted.read_quoted.Goals as goal

pub cursor_at-cursor-requires-clause-there : goal.cursor_at-cursor-requires-clause-there
cursor_at-cursor-requires-clause-there c = rw c.as_slice-all.ensures (quote-opens c.args.lines.now c.args.line c.args.column c.requires).0

pub cursor_at-cursor-requires-clause-ascii : goal.cursor_at-cursor-requires-clause-ascii
cursor_at-cursor-requires-clause-ascii c = rw c.as_slice-all.ensures (quote-opens c.args.lines.now c.args.line c.args.column c.requires).1

pub returns-in_err-text : goal.returns-in_err-text
returns-in_err-text c =
    rw (quoted_at-Quote (plain_lines c.args.lines.now) c.args.line c.args.column (cursor_of c.cursor_at-cursor.result) (rw c.as_slice-all.ensures at c.cursor_at-cursor.ensures)) (search rules)

pub returns : goal.returns
returns c =
    rw (quoted_at-Quote (plain_lines c.args.lines.now) c.args.line c.args.column (cursor_of c.cursor_at-cursor.result) (rw c.as_slice-all.ensures at c.cursor_at-cursor.ensures), c.in_ok-text.ensures.quote)
    (ap Ok (sym (rw c.as_slice-all.ensures at (c.read_up_to.ensures c.in_ok-text.end.place))))
