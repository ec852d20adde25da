use Rattle.std.proofs.Common.{rules, ◌≡◌, ◌+◌, ◌≤◌, Some, length, slice_get, refl, arith}
use Rattle.star_values.specs.Objects.{seen}
use Rattle.star_calls.proofs.Opened.{all_in, opened_next}
use Rattle.star_calls.proofs.scopes.open_scope.Goals as goal

pub loop-at-preserved : goal.loop-at-preserved
loop-at-preserved c =
    let b = c.in_ok-named_box-in-Some.ensures in
    let there : slice_get c.args.names.now c.loop-at.at ≡ Some c.in-Some.name.now = search rules in
    opened_next c.args.names.now (seen c.args.arena.now) (seen c.loop-at.arena) (seen c.named_box.new.arena) c.loop-at.made c.push.new.self c.loop-at.at (c.loop-at.at + 1) c.in-Some.name.now c.in_ok-named_box-in-Some.field-0 c.loop-at.invariant there b.grows b.name b.owned b.store c.in_ok-push-in-Some.ensures.ok refl

pub returns-clause-opens : goal.returns-clause-opens
returns-clause-opens c =
    let least : length c.args.names.now ≤ c.loop-at.at = omega (arith, c.len-at-end.ensures, c.loop-at-test.false) in
    all_in c.args.names.now (seen c.args.arena.now) (seen c.loop-at.arena) c.loop-at.made c.loop-at.at c.loop-at.invariant least c.reversed.result c.reversed.ensures
