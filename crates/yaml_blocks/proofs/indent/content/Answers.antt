use Rattle.std.proofs.Common.{sym, ◌∙◌, arith}
use Rattle.yaml_blocks.proofs.BlockIndents.{cut_at_indent, content-indented, content-spaces, content-none}
use Rattle.yaml_blocks.proofs.indent.content.Goals as goal

pub range_from-requires : goal.range_from-requires
range_from-requires c _ =
    let spaces = c.indent-spaces.ensures.indent in
    cut_at_indent c.args.text.now c.unwrap_or-least.result c.utf8.text (omega (arith, spaces))

pub returns-then-least-spaces : goal.returns-then-least-spaces
returns-then-least-spaces c =
    let spaces = c.indent-spaces.ensures.indent in
    rw c.range_from.ensures.value (sym (content-indented c.args.indent_at c.args.text.now c.unwrap_or-least.result c.unwrap_or-least.ensures (omega (arith, spaces))))

pub returns-then-spaces-text : goal.returns-then-spaces-text
returns-then-spaces-text c =
    let spaces = c.indent-spaces.ensures.indent in
    rw (c.range_from-then-spaces-text.ensures.value, spaces)
    (sym (content-spaces c.args.indent_at c.args.text.now c.unwrap_or-least.result c.unwrap_or-least.ensures (omega (arith, spaces)) (sym spaces ∙ c.if-spaces-text.true)))

pub returns : goal.returns
returns c =
    let spaces = c.indent-spaces.ensures.indent in
    sym (content-none c.args.indent_at c.args.text.now c.unwrap_or-least.result c.unwrap_or-least.ensures (omega (arith, spaces)) (λ e. c.if-spaces-text.false (spaces ∙ e)))
