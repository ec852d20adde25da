use Rattle.std.proofs.Common.{◌&&◌, ◌∙◌, ap, sym}
use Rattle.star_values.specs.View.{fields_in}
use Rattle.schema_spec.specs.Arguments.{are_unnamed}
use Rattle.schema_read.proofs.Arguments.{are_none-is, are_unnamed-is}
use Rattle.schema_read.proofs.notes.has_none.Goals as goal

pub returns-then-is_empty : goal.returns-then-is_empty
returns-then-is_empty c = λ held.
    let none = are_none-is held c.args.args.now.positional c.is_empty.result c.is_empty.ensures ∙ c.if-is_empty.true in
    let unnamed = are_unnamed-is held c.args.args.now.named c.is_empty-then-is_empty.result c.is_empty-then-is_empty.ensures in
    sym (λ i. none i && unnamed i)

pub returns-else-is_empty : goal.returns-else-is_empty
returns-else-is_empty c = λ held.
    let none = are_none-is held c.args.args.now.positional c.is_empty.result c.is_empty.ensures ∙ c.if-is_empty.false in
    c.if-is_empty.false ∙ sym (ap (λ b. b && are_unnamed (fields_in held c.args.args.now.named)) none)
