use Rattle.std.proofs.Common.{◌≡◌, ◌-◌, false, max, get_or, arith}
use Rattle.std.proofs.lemmas.Grind.{common_steps}
use Rattle.ll.specs.Shapes.{shape}
use Rattle.ll.proofs.Takes.{highest_last}
use Rattle.ll.proofs.shapes.highest_in.Goals as goal

pub loop-left-preserved : goal.loop-left-preserved
loop-left-preserved c =
    let at = c.loop-left in
    let same : c.max-high.result ≡ max at.high (get_or c.args.shapes.now (at.left - 1) (shape 0 false)).high = grind (arith, common_steps) in
    let e = highest_last c.args.shapes.now (at.left - 1) at.left (shape 0 false) (omega (arith, c.loop-left-test.true)) (omega (arith, c.loop-left-test.true, at.invariant.within)) in
    record {
      within = omega (arith, at.invariant.within);
      high = let h = at.invariant.high in omega (arith, e, h, same);
    }
