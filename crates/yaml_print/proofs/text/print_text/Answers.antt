use Rattle.std.proofs.Common.{[], ◌∙◌}
use Rattle.yaml_print.proofs.Putting.{any_start}
use Rattle.yaml_print.proofs.text.print_text.Goals as goal

pub returns : goal.returns
returns c = c.of_string.ensures ∙ rw c.as_slice.ensures at (c.write_documents.ensures.behind any_start [] (λ _. c.new.ensures.bytes) c.if-out.false)
