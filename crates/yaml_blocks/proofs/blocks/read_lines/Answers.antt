use Rattle.std.proofs.Common.{◌==◌, ◌∙◌, refl, sym, ap, rules}
use Rattle.yaml_spec.specs.Bytes.{bar}
use Rattle.yaml_text.specs.View.{cursor_of}
use Rattle.yaml_blocks.specs.BlockView.{header_of}
use Rattle.yaml_blocks.proofs.BlocksRead.{Block-refused, Block-read}
use Rattle.yaml_blocks.proofs.blocks.read_lines.Goals as goal

pub returns-then-not-ends_header-clause-read : goal.returns-then-not-ends_header-clause-read
returns-then-not-ends_header-clause-read c =
    let header = rw c.behind.ensures at c.read_header-header.ensures.header in
    rw c.refusal.ensures (Block-refused c.args.least (cursor_of c.args.cursor) (header_of c.read_header-header.result) header (sym c.ends_header.ensures ∙ c.if-not-ends_header.true))

pub returns-in_err-text-clause-read : goal.returns-in_err-text-clause-read
returns-in_err-text-clause-read c =
    let header = rw c.behind.ensures at c.read_header-header.ensures.header in
    let literal = ap (λ n. n == bar) c.first-is_literal.ensures in
    rw (Block-read c.args.least (cursor_of c.args.cursor) (c.first-is_literal.result == bar) (header_of c.read_header-header.result) literal header (sym c.ends_header.ensures ∙ c.if-not-ends_header.false)) (search rules)

pub returns-clause-read : goal.returns-clause-read
returns-clause-read c =
    let header = rw c.behind.ensures at c.read_header-header.ensures.header in
    let literal = ap (λ n. n == bar) c.first-is_literal.ensures in
    rw (Block-read c.args.least (cursor_of c.args.cursor) (c.first-is_literal.result == bar) (header_of c.read_header-header.result) literal header (sym c.ends_header.ensures ∙ c.if-not-ends_header.false), c.in_ok-text.ensures.read, c.skip_white.ensures) refl
