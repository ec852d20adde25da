use Rattle.std.proofs.lemmas.List.{take_rest}
use Rattle.yaml_spec.proofs.HeldLines.{cursor_at-index, text_at-index}
use Rattle.yaml_scalar.proofs.Cursors.{cut-at}
use Rattle.yaml_scalar.proofs.position.cursor_at.Goals as goal

pub range_from-requires : goal.range_from-requires
range_from-requires c _ =
    rw (c.as_str.ensures, ← text_at-index c.args.lines.now c.args.at c.index-lines-at.result c.requires.there c.index-lines-at.is) (cut-at c.args.lines.now c.args.at c.args.column c.requires.there c.requires.ascii)

pub returns : goal.returns
returns c = rw (cursor_at-index c.args.lines.now c.args.at c.args.column c.index-lines-at.result c.requires.there c.index-lines-at.is, c.range_from.ensures.value, c.as_str.ensures, take_rest)
