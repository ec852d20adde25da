use Rattle.std.proofs.Common.{sym, ◌∙◌, string_bytes}
use Rattle.yaml_quotes.proofs.Foldings.{added-last}
use Rattle.yaml_quotes.proofs.folding.Folded.finish.Goals as goal

pub returns : goal.returns
returns c =
    c.of_string.ensures ∙ rw (c.in_ok-push_str-2.ensures.bytes, c.in_ok-push_str.ensures.bytes, c.glue.ensures) (sym (added-last (string_bytes c.args.self.text) c.args.self.joint c.args.part.now))
