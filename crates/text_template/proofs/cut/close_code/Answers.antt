use Rattle.std.proofs.Common.{◌≡◌, ◌==◌, true, false, [], codes, arith, sym, ◌∙◌}
use Rattle.yaml_spec.specs.Bytes.{dash}
use Rattle.yaml_spec.specs.Text.{last}
use Rattle.text_template.proofs.Cutting.{code_open, dash_at, end_at, shorter, splits}
use Rattle.text_template.proofs.cut.close_code.Goals as goal

pub returns-in-None-clause-cut : goal.returns-in-None-clause-cut
returns-in-None-clause-cut c =
    let none = rw c.in-None.is at (splits (codes "@)") c.args.code.now _ c.split_once.ensures.cases) in
    (c.refusal.ensures, λ r. code_open r c.args.at [] c.args.code.now none)

pub returns-then-ends_with_dash-clause-cut : goal.returns-then-ends_with_dash-clause-cut
returns-then-ends_with_dash-clause-cut c =
    let first = rw c.in-Some.is at (splits (codes "@)") c.args.code.now _ c.split_once.ensures.cases) in
    let dashed : (last c.in-Some.code.now == dash) ≡ true = sym c.ends_with_dash.ensures ∙ c.if-ends_with_dash.true in
    (c.refusal-then-ends_with_dash.ensures, λ r. dash_at r c.args.at c.args.code.now _ _ first dashed)

pub returns-else-ends_with_dash-clause-cut : goal.returns-else-ends_with_dash-clause-cut
returns-else-ends_with_dash-clause-cut c =
    let first = rw c.in-Some.is at (splits (codes "@)") c.args.code.now _ c.split_once.ensures.cases) in
    let closed : (last c.in-Some.code.now == dash) ≡ false = sym c.ends_with_dash.ensures ∙ c.if-ends_with_dash.false in
    λ r. end_at r c.args.at c.args.code.now _ _ first closed

pub returns-else-ends_with_dash-clause-shorter : goal.returns-else-ends_with_dash-clause-shorter
returns-else-ends_with_dash-clause-shorter c =
    let first = rw c.in-Some.is at (splits (codes "@)") c.args.code.now _ c.split_once.ensures.cases) in
    omega (arith, shorter (codes "@)") c.args.code.now _ _ first)
