use Rattle.std.proofs.Common.{Ok, sym, ap, rules}
use Rattle.std.proofs.lemmas.List.{take_rest, drop-map}
use Rattle.std.proofs.lemmas.Int.{to_z-of_z}
use Rattle.yaml_spec.specs.Held.{plain_lines}
use Rattle.yaml_spec.specs.Refusals.{place_below}
use Rattle.yaml_text.specs.View.{cursor_of}
use Rattle.yaml_scalar.proofs.Cursors.{block-opens, block_at-Block}
use Rattle.yaml_scalar.proofs.block.read_block.Goals as goal

pub cursor_at-cursor-requires-clause-there : goal.cursor_at-cursor-requires-clause-there
cursor_at-cursor-requires-clause-there c = rw c.as_slice-all.ensures (block-opens c.args.lines.now c.args.line c.args.column c.requires).0

pub cursor_at-cursor-requires-clause-ascii : goal.cursor_at-cursor-requires-clause-ascii
cursor_at-cursor-requires-clause-ascii c = rw c.as_slice-all.ensures (block-opens c.args.lines.now c.args.line c.args.column c.requires).1

pub returns-in_err-text : goal.returns-in_err-text
returns-in_err-text c =
    let least = simp (to_z-of_z, c.ranges.parent) at c.least_under.ensures.least in
    rw (block_at-Block (plain_lines c.args.lines.now) c.args.line c.args.column c.least_under.result c.args.parent (cursor_of c.cursor_at-cursor.result) (rw c.as_slice-all.ensures at c.cursor_at-cursor.ensures) least) (search rules)

pub returns : goal.returns
returns c =
    let least = simp (to_z-of_z, c.ranges.parent) at c.least_under.ensures.least in
    rw (block_at-Block (plain_lines c.args.lines.now) c.args.line c.args.column c.least_under.result c.args.parent (cursor_of c.cursor_at-cursor.result) (rw c.as_slice-all.ensures at c.cursor_at-cursor.ensures) least, c.in_ok-text.ensures.read)
    (rw drop-map (ap Ok (sym (rw (c.as_slice-all.ensures, take_rest) at (c.read_up_to.ensures (place_below c.cursor_at-cursor.result.place c.in_ok-text.size))))))
