use Rattle.std.proofs.Common.{◌≡◌, sym, ◌∙◌, Some}
use Rattle.std.specs.Prelude.{false}
use Rattle.star_grammar.specs.Pieces.{closes, letter_at}
use Rattle.star_token.proofs.Quoted.{more}
use Rattle.star_token.proofs.texts.quoted.Goals as goal

pub loop-more-preserved : goal.loop-more-preserved
loop-more-preserved c =
    let at = c.loop-more in
    let l = c.in-Some-letter_at.letter in
    let none : closes c.args.form at.rest.now ≡ false = sym c.closes.ensures ∙ c.if-closes.false in
    let is : letter_at c.args.form at.rest.now ≡ Some l = sym c.letter_at.ensures ∙ c.in-Some-letter_at.is in
    rw (c.behind-rest.ensures, c.saturating_sub.ensures, c.in_ok-push_said.ensures)
    (more c.args.form c.args.text.now at.rest.now c.in-Some.more.now c.in-Some.field-0-0.now at.bytes.items l c.in-Some.ensures.cases.0 none is at.invariant)
