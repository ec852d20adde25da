use Rattle.yaml_text.proofs.Whites.{cut_behind_white, skip_white-drop}
use Rattle.std.proofs.Common.{◌∙◌}
use Rattle.yaml_text.proofs.white.skip_white.Goals as goal

pub range_from-requires : goal.range_from-requires
range_from-requires c _ = rw (c.white_len.ensures.len, c.as_bytes.ensures.value) (cut_behind_white c.args.text.now c.utf8.text)

pub returns : goal.returns
returns c = c.range_from.ensures.value ∙ rw (c.white_len.ensures.len, c.as_bytes.ensures.value) (skip_white-drop c.args.text.now)
