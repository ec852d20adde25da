use Rattle.std.proofs.Common.{◌≡◌, ◌+◌, ◌-◌, [], ◌∙◌, arith, replicate}
use Rattle.yaml_plain.proofs.FurtherLines.{add-one, one-less}
use Rattle.yaml_plain.proofs.lines.add_part.Goals as goal

pub loop-line-init : goal.loop-line-init
loop-line-init c next parts =
    let all : c.args.empties - 0 ≡ c.args.empties = omega arith in
    rw all (add-one c.args.folded.now c.add.new.self c.args.part.now c.in_ok-add.ensures (replicate c.args.empties []) next parts)

pub loop-line-preserved : goal.loop-line-preserved
loop-line-preserved c next parts =
    let l = c.loop-line in
    let less = one-less c.args.empties l._line c.loop-line-test.true in
    rw less at (l.invariant next parts) ∙ add-one l.folded c.add-in-loop-line.new.self [] c.in_ok-add-2.ensures (replicate (c.args.empties - (l._line + 1)) []) next parts

pub returns : goal.returns
returns c next parts =
    let none : c.args.empties - c.loop-line._line ≡ 0 = omega arith in
    rw none at (c.loop-line.invariant next parts)
