use Rattle.yaml_spec.specs.Held.{plain_lines}
use Rattle.yaml_spec.proofs.HeldLines.{plain_lines-length}
use Rattle.yaml_scalar.proofs.Cursors.{read_up_to-fields}
use Rattle.yaml_scalar.proofs.position.read_up_to.Goals as goal

pub returns : goal.returns
returns c place =
    rw (c.saturating_sub.ensures, c.as_str-line.ensures, ← c.index-lines-at.is)
    (read_up_to-fields c.args.lines.now c.args.text (record { place = place; text = c.args.rest.now; below = plain_lines c.args.below.now }) c.saturating_sub-at.result c.index-lines-at.result (rw (plain_lines-length c.args.below.now) c.saturating_sub-at.ensures) c.requires c.index-lines-at.is)
