use Rattle.std.proofs.Common.{sym, ◌∙◌, arith}
use Rattle.text_pieces.proofs.BoundsLeft.{inside, outside}
use Rattle.text_pieces.proofs.bounds.bounds.Goals as goal
use Rattle.text_pieces.proofs.bounds.bounds.Goals.{then-not-is_inside, else-not-is_inside}

pub loop-at-preserved : goal.loop-at-preserved
loop-at-preserved c =
    elim c.if-not-is_inside.branch [
      | then-not-is_inside w ↦ rw (w.found-is, w.or.ensures) (outside _ _ _ _ _ _ _ (omega arith) c.requires.within c.loop-at.invariant (sym c.is_inside.ensures ∙ w.if-not-is_inside.true))
      | else-not-is_inside w ↦ rw w.found-is (inside _ _ _ _ _ _ _ (omega arith) c.requires.within c.loop-at.invariant (sym c.is_inside.ensures ∙ w.if-not-is_inside.false))
    ]
