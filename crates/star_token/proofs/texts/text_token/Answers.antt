use Rattle.std.proofs.Common.{◌≡◌, ◌+◌, ◌-◌, length, ap, ◌∙◌, arith}
use Rattle.star_grammar.specs.Pieces.{line_ends}
use Rattle.star_token.proofs.Spelled.{a_text, no_text}
use Rattle.star_token.proofs.texts.text_token.Goals as goal

pub returns-in_default : goal.returns-in_default
returns-in_default c = no_text c.args.before c.args.span.now.left c.args.text.now c.args.span.now.bytes.items (rw c.as_slice.ensures.value at c.in_default.ensures.cases.0)

pub returns : goal.returns
returns c =
    let size : c.saturating_add.result ≡ c.args.before + (length c.args.text.now - c.args.span.now.left) = omega (arith, c.saturating_add.ensures, c.saturating_sub-size.ensures, c.type_inv.text, c.requires) in
    a_text c.args.before c.args.span.now.left c.saturating_add.result c.line_ends-ends.result c.args.text.now c.args.span.now.bytes.items c.in_ok-of.field-0
    (rw c.as_slice.ensures.value at c.in-Ok.ensures.cases.1) (c.in_ok-of.ensures ∙ c.in-Ok.ensures.cases.0 ∙ c.as_slice.ensures.value) size
    (c.line_ends-ends.ensures ∙ ap (λ n. line_ends n c.args.text.now) c.saturating_sub-size.ensures)
