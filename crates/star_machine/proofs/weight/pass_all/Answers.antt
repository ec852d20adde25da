use Rattle.std.proofs.Common.{◌≡◌, ◌-◌, sym, ◌∙◌, ap, arith, subst, take}
use Rattle.std.proofs.lemmas.List.{take_all}
use Rattle.std.specs.Prelude.{reverse}
use Rattle.star_machine.specs.Turns.{along}
use Rattle.star_machine.proofs.Lists.{one_less}
use Rattle.star_machine.proofs.weight.pass_all.Goals as goal

pub loop-left-init : goal.loop-left-init
loop-left-init c = record { within = omega arith; same = ap (λ l. along (reverse l) c.args.shapes.now) (take_all _ c.args.items.now (omega arith)) }

pub loop-left-smaller : goal.loop-left-smaller
loop-left-smaller c = omega (arith, c.loop-left-test.true)

pub bounds-items-left : goal.bounds-items-left
bounds-items-left c = omega (arith, c.loop-left-test.true, c.loop-left.invariant.within)

pub loop-left-preserved : goal.loop-left-preserved
loop-left-preserved c =
    let at = c.loop-left in
    record {
      within = omega (arith, at.invariant.within);
      same = rw c.in_ok-pass.ensures (sym (one_less c.args.items.now (at.left - 1) at.left _ at.shapes (omega (arith, c.loop-left-test.true)) (omega (arith, c.loop-left-test.true, at.invariant.within))) ∙ at.invariant.same);
    }

pub returns : goal.returns
returns c =
    let at = c.loop-left in
    let none : at.left ≡ 0 = omega (arith, c.loop-left-test.false) in
    subst (λ n. along (reverse (take n c.args.items.now)) at.shapes ≡ along (reverse c.args.items.now) c.args.shapes.now) none at.invariant.same
