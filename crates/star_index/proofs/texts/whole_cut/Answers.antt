use Rattle.star_steps.proofs.Names.{◌≡◌, ◌<◌, ◌∙◌}
use Rattle.star_index.proofs.Names.{IsCharBoundary, length, min, rules, whole}
use Rattle.star_index.proofs.texts.whole_cut.Goals as goal

pub returns : goal.returns
returns c =
    let is : c.min-to.result ≡ min c.args.to (length c.args.text.now) = search rules in
    let less : c.args.from < c.min-to.result = search rules in
    let first : IsCharBoundary c.args.text.now c.args.from = search rules in
    let second : IsCharBoundary c.args.text.now c.min-to.result = search rules in
    let w = whole c.args.text.now c.args.from c.args.to c.min-to.result is less first second in
    (w.0, c.range.ensures.value ∙ w.1)
