use Rattle.std.proofs.Common.{◌≡◌, ◌∙◌, sym, true, false}
use Rattle.yaml_spec.specs.Plain.{hangs}
use Rattle.yaml_text.specs.View.{cursor_of}
use Rattle.yaml_plain.proofs.FurtherLines.{plain_lines-fault, plain_lines-hangs, plain_lines-typed}
use Rattle.yaml_plain.proofs.lines.read_plain_scalar.Goals as goal

pub returns-in-Some-clause-scalar : goal.returns-in-Some-clause-scalar
returns-in-Some-clause-scalar c =
    rw c.refusal.ensures (plain_lines-fault c.args.in_flow c.args.least (cursor_of c.args.cursor) c.in-Some.kind (sym c.start_fault.ensures ∙ c.in-Some.is))

pub returns-then-hangs-clause-scalar : goal.returns-then-hangs-clause-scalar
returns-then-hangs-clause-scalar c =
    let hanging : hangs c.args.in_flow c.args.cursor.text.now ≡ true = rw (c.split_plain.ensures.part, c.split_plain.ensures.behind) at (sym c.hangs.ensures ∙ c.if-hangs.true) in
    rw c.refusal-then-hangs.ensures (plain_lines-hangs c.args.in_flow c.args.least (cursor_of c.args.cursor) (sym c.start_fault.ensures ∙ c.in_default.is) hanging)

pub returns-clause-scalar : goal.returns-clause-scalar
returns-clause-scalar c =
    let hanging : hangs c.args.in_flow c.args.cursor.text.now ≡ false = rw (c.split_plain.ensures.part, c.split_plain.ensures.behind) at (sym c.hangs.ensures ∙ c.if-hangs.false) in
    rw (plain_lines-typed c.args.in_flow c.args.least (cursor_of c.args.cursor) (sym c.start_fault.ensures ∙ c.in_default.is) hanging, ← c.split_plain.ensures.behind, ← c.split_plain.ensures.part)
    c.read_typed.ensures.scalar
