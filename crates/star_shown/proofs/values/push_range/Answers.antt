use Rattle.star_steps.proofs.Names.{◌≡◌, ◌++◌, range_count, rules, string_bytes}
use Rattle.text_spec.specs.Shown.{range_text}
use Rattle.star_shown.proofs.Collections.{range_ends}
use Rattle.star_shown.proofs.values.push_range.Goals as goal

pub returns : goal.returns
returns c =
    let b = c.args.bounds in
    let counted : c.range_count.result ≡ range_count b.0 b.1 b.2 = search rules in
    let shown : string_bytes c.push_bounds.new.shown ≡ string_bytes c.args.shown.now ++ range_text b.0 b.1 b.2 = search rules in
    range_ends c.args.at.levels c.args.at.place b.0 b.1 b.2 c.range_count.result (string_bytes c.args.shown.now) _ _ _ c.if-at-eq0.false counted c.in_ok-pay.ensures shown
