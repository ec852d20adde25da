use Rattle.std.proofs.Common.{◌∙◌}
use Rattle.schema_read.proofs.Arguments.{are_unnamed-is, only-two, only-unnamed}
use Rattle.schema_read.proofs.notes.only_argument.Goals as goal

pub returns-then-not-is_empty-clause-value : goal.returns-then-not-is_empty-clause-value
returns-then-not-is_empty-clause-value c = λ held.
    let args = c.args.args.now in
    only-unnamed held args.positional args.named (are_unnamed-is held args.named c.is_empty.result c.is_empty.ensures ∙ c.if-not-is_empty.true)

pub returns-in-len2-up-clause-value : goal.returns-in-len2-up-clause-value
returns-in-len2-up-clause-value c = λ held. only-two held c.args.args.now.positional c.args.args.now.named (rw c.as_slice.ensures at c.in-len2-up.len_at_least)
