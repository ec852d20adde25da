use Rattle.std.proofs.Common.{◌≡◌}
use Rattle.star_grammar.specs.Pieces.{front}
use Rattle.star_token.proofs.Cut.{IsGood, good_of, more}
use Rattle.star_token.proofs.lexer.cut.Goals as goal

pub loop-more-preserved : goal.loop-more-preserved
loop-more-preserved c =
    let at = c.loop-more in
    let p = c.in_ok-piece.piece in
    let is : p ≡ front c.args.origin at.rest.now = c.in_ok-piece.ensures in
    let good : IsGood p = good_of p c.in_default-piece.not-Refused in
    rw (c.behind-rest.ensures, c.saturating_sub.ensures, c.size_of-size.ensures, c.moved-next.ensures, c.in_ok-push.ensures)
    (more c.args.origin at.cursor at.rest.now c.in-Some.more.now c.in-Some.field-0-0.now at.found p _ c.in-Some.ensures.cases.0 is good at.invariant)
