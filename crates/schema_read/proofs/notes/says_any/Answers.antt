use Rattle.std.proofs.Common.{◌∙◌}
use Rattle.schema_read.proofs.Arguments.{any-positional, any-two, are_none-is}
use Rattle.schema_read.proofs.notes.says_any.Goals as goal

pub returns-then-not-is_empty : goal.returns-then-not-is_empty
returns-then-not-is_empty c = λ held.
    let args = c.args.args.now in
    any-positional held args.positional args.named (are_none-is held args.positional c.is_empty.result c.is_empty.ensures ∙ c.if-not-is_empty.true)

pub returns-in-len2-up : goal.returns-in-len2-up
returns-in-len2-up c = λ held. any-two held c.args.args.now.positional c.args.args.now.named (rw c.as_slice.ensures at c.in-len2-up.len_at_least)
