use Rattle.std.proofs.Common.{sym, ◌∙◌, arith}
use Rattle.yaml_read.proofs.Segmenting.{front_stops, front_more, front_none}
use Rattle.yaml_read.proofs.markers.front_len.Goals as goal

pub returns-then-is_marker-clause-len : goal.returns-then-is_marker-clause-len
returns-then-is_marker-clause-len c =
    let here = front_stops c.args.lines.now c.loop-at.at c.index-lines-at.result c.loop-at-test.true c.index-lines-at.is (sym c.is_marker.ensures ∙ c.if-is_marker.true) in
    omega (arith, here, c.loop-at.invariant)

pub loop-at-preserved : goal.loop-at-preserved
loop-at-preserved c =
    let here = front_more c.args.lines.now c.loop-at.at c.index-lines-at.result c.loop-at-test.true c.index-lines-at.is (sym c.is_marker.ensures ∙ c.if-is_marker.false) in
    omega (arith, here, c.loop-at.invariant)

pub returns-clause-len : goal.returns-clause-len
returns-clause-len c = let here = front_none c.args.lines.now c.loop-at.at c.loop-at-test.false in omega (arith, here, c.loop-at.invariant, c.loop-at-test.false, c.loop-at.auto.at-end)
