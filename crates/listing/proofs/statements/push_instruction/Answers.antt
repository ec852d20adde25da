use Rattle.std.proofs.Common.{◌++◌, ap, decimal, ◌∙◌, string_bytes}
use Rattle.star_tree.specs.Whole.{instruction_of}
use Rattle.listing.proofs.Forming.{put_line}
use Rattle.listing.proofs.statements.push_instruction.Goals as goal

pub returns : goal.returns
returns c =
    let file = c.args.file in
    put_line c.push-2.result (string_bytes c.args.out.now) (string_bytes c.push_line.new.out) (string_bytes c.push.new.out) (string_bytes c.push_rest.new.out) (string_bytes c.push-2.new.out) _ (instruction_of file c.args.stmt.now)
    (c.in_ok-push_line.ensures ∙ ap (λ n. string_bytes c.args.out.now ++ decimal n) (c.line_of.ensures file)) (c.in_ok-push.ensures ∙ ap (λ l. string_bytes c.push_line.new.out ++ l) (c.first_word.ensures file)) c.in_ok-push_rest.ensures c.push-2.ensures
