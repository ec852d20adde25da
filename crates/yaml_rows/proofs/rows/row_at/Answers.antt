use Rattle.std.proofs.Common.{◌≤◌, length, arith}
use Rattle.yaml_spec.specs.Held.{plain_line, plain_lines}
use Rattle.yaml_text.proofs.Whites.{skip_white-length}
use Rattle.yaml_rows.specs.View.{heads_of}
use Rattle.yaml_rows.proofs.DashHeads.{least-heads, row_at-made}
use Rattle.yaml_rows.proofs.rows.row_at.Goals as goal

pub overflow_sub-column : goal.overflow_sub-column
overflow_sub-column c = rw c.skip_white-start.ensures (skip_white-length c.as_str-text.result.now)

pub least_behind-least-requires : goal.least_behind-least-requires
least_behind-least-requires c =
    let shorter : length c.skip_white-start.result.now ≤ length c.as_str-text.result.now = rw c.skip_white-start.ensures (skip_white-length c.as_str-text.result.now) in
    least-heads c.args.least 9223372036854775808 _ _ c.skip_white-start.result.now (heads_of c.in_ok-heads.heads) c.in_ok-heads.rest.now c.requires.bound (omega (arith, shorter)) c.in_ok-heads.ensures

pub returns-clause-bound : goal.returns-clause-bound
returns-clause-bound c =
    let shorter : length c.skip_white-start.result.now ≤ length c.as_str-text.result.now = rw c.skip_white-start.ensures (skip_white-length c.as_str-text.result.now) in
    rw c.least_behind-least.ensures
    (least-heads c.args.least 9223372036854775808 _ _ c.skip_white-start.result.now (heads_of c.in_ok-heads.heads) c.in_ok-heads.rest.now c.requires.bound (omega (arith, shorter)) c.in_ok-heads.ensures)

pub returns-clause-row : goal.returns-clause-row
returns-clause-row c before =
    let read = rw (c.has_tab_before.ensures, c.skip_white-start.ensures, c.as_str-text.ensures) at c.in_ok-heads.ensures in
    rw (c.indent.ensures.indent, c.least_behind-least.ensures, c.open_place_of.ensures, c.as_str-text.ensures)
    (row_at-made c.args.stop c.args.is_owned c.args.least before (plain_line c.args.line.now) (plain_lines c.args.below.now) (heads_of c.in_ok-heads.heads) c.in_ok-heads.rest.now read)
