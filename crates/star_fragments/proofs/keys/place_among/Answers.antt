use Rattle.star_steps.proofs.Names.{sym, ◌∙◌}
use Rattle.star_fragments.specs.Nodes.{scalar_in}
use Rattle.star_fragments.proofs.Held.{none_under, not_under, under_found}
use Rattle.star_fragments.proofs.keys.place_among.Goals as goal

pub returns-then-is_under : goal.returns-then-is_under
returns-then-is_under c = λ held.
    under_found held c.args.items.now c.loop-at.at c.index-items-at.result (scalar_in c.args.wanted) c.loop-at-test.true c.index-items-at.is (sym c.if-is_under.ensures) (c.loop-at.invariant held)

pub loop-at-preserved : goal.loop-at-preserved
loop-at-preserved c = λ held.
    c.loop-at.invariant held ∙ not_under held c.args.items.now c.loop-at.at c.index-items-at.result (scalar_in c.args.wanted) c.loop-at-test.true c.index-items-at.is (sym c.if-is_under.ensures)

pub returns : goal.returns
returns c = λ held. none_under held c.args.items.now c.loop-at.at (scalar_in c.args.wanted) c.loop-at-test.false (c.loop-at.invariant held)
