use Rattle.std.proofs.Common.{sym, ◌∙◌, arith}
use Rattle.yaml_spec.specs.Held.{plain_lines}
use Rattle.yaml_blocks.proofs.BlockIndents.{indent_of-digit, indent_of-none, indent_of-long, indent_of-found}
use Rattle.yaml_blocks.proofs.indent.content_indent.Goals as goal

pub returns-then-digit-gt0 : goal.returns-then-digit-gt0
returns-then-digit-gt0 c = indent_of-digit c.args.least c.args.digit (plain_lines c.args.below.now) c.if-digit-gt0.true

pub returns-in_default : goal.returns-in_default
returns-in_default c = indent_of-none c.args.least c.args.digit (plain_lines c.args.below.now) (omega arith) (sym c.found_indent.ensures ∙ c.in_default.is)

pub returns-in-Some-too_long : goal.returns-in-Some-too_long
returns-in-Some-too_long c =
    rw c.refusal.ensures
    (indent_of-long c.args.least c.args.digit (plain_lines c.args.below.now) c.in-Some.found c.in-Some-too_long.place (omega arith) (sym c.found_indent.ensures ∙ c.in-Some.is) (sym c.too_long.ensures ∙ c.in-Some-too_long.is))

pub returns-in-None : goal.returns-in-None
returns-in-None c =
    indent_of-found c.args.least c.args.digit (plain_lines c.args.below.now) c.in-Some.found (omega arith) (sym c.found_indent.ensures ∙ c.in-Some.is) (sym c.too_long.ensures ∙ c.in-None.is)
