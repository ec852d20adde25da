use Rattle.std.proofs.Common.{◌≤◌, length, sym, ◌∙◌, ap, arith}
use Rattle.std.proofs.lemmas.List.{drop_all}
use Rattle.ll.specs.Shapes as shape
use Rattle.star_machine.proofs.Lists.{run_more}
use Rattle.star_machine.proofs.weight.run.Goals as goal

pub loop-effect-preserved : goal.loop-effect-preserved
loop-effect-preserved c =
    let at = c.loop-effect in
    rw c.in_ok-apply.ensures (sym (run_more c.args.effects.now at.effect-index _ at.shapes c.loop-effect-test.true) ∙ at.invariant)

pub returns : goal.returns
returns c =
    let at = c.loop-effect in
    let over : length c.args.effects.now ≤ at.effect-index = omega arith in
    ap (λ es. shape.run es at.shapes) (sym (drop_all at.effect-index c.args.effects.now over)) ∙ at.invariant
