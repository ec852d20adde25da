use Rattle.std.proofs.Common.{sym, ap, ◌∙◌, arith, length, length-append}
use Rattle.node_build.proofs.Undoing.{undone_last}
use Rattle.node_build.specs.Positions.{undone}
use Rattle.node_build.proofs.place.take_out.Goals as goal

pub loop-step-preserved : goal.loop-step-preserved
loop-step-preserved c =
    ap (undone c.pop.new.self) c.take_one_out.ensures ∙ sym (undone_last c.pop.new.self c.in-Some.step c.loop-step.items.items)
    ∙ ap (λ us. undone us c.loop-step.items.items) (sym c.in-Some.ensures) ∙ c.loop-step.invariant

pub loop-step-smaller : goal.loop-step-smaller
loop-step-smaller c = grind (arith, ap length c.in-Some.ensures, length-append)

pub returns : goal.returns
returns c = ap (λ us. undone us c.loop-step.items.items) (sym c.in_default.ensures.0) ∙ c.loop-step.invariant
