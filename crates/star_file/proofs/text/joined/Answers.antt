use Rattle.std.proofs.Common.{string_bytes, ◌∙◌, ap, ◌++◌}
use Rattle.star_file.proofs.Joining.{joined_done, joined_turn}
use Rattle.star_file.proofs.text.joined.Goals as goal

pub loop-line-preserved : goal.loop-line-preserved
loop-line-preserved c =
    joined_turn _ (string_bytes c.loop-line.text) _ (string_bytes c.push_str-in-loop-line.new.self) c.args.lines.now c.loop-line.line-index c.line-item.result
    (rw c.as_slice-line-items.ensures at c.loop-line-test.true) (rw c.as_slice-line-items.ensures at c.line-item.is) (c.in_ok-push_str.ensures.bytes ∙ ap (λ t. string_bytes c.loop-line.text ++ t) c.as_str.ensures) c.in_ok-push_str-2.ensures.bytes c.loop-line.invariant

pub returns : goal.returns
returns c = c.of_string.ensures ∙ joined_done _ (string_bytes c.loop-line.text) c.args.lines.now c.loop-line.line-index (rw c.as_slice-line-items.ensures at c.loop-line-test.false) c.loop-line.invariant
