use Rattle.std.proofs.Common.{◌≡◌, ◌∙◌, ap}
use Rattle.ll.specs.Shapes as shape
use Rattle.star_machine.specs.Turns.{along, weigh}
use Rattle.star_machine.proofs.weight.weighs_little.Goals as goal

pub returns : goal.returns
returns c =
    let made = c.in_ok-pass_all.ensures ∙ (λ i. along (c.as_slice.ensures i) (c.in_ok-made.ensures i)) in
    let high : c.top.result.high ≡ weigh c.args.pending.now c.args.shapes.now = ap (λ x. x.high) (c.top.ensures ∙ ap shape.top made) in
    rw (← high) c.fits.ensures
