use Rattle.std.proofs.Common.{◌≡◌, [], ◌∙◌, arith, get_or, sym}
use Rattle.std.proofs.lemmas.Grind.{common_steps}
use Rattle.yaml_quotes.proofs.Foldings.{Fold-none, Fold-more}
use Rattle.yaml_quotes.proofs.folding.fold.Goals as goal

pub returns-in_default : goal.returns-in_default
returns-in_default c = c.new.ensures ∙ sym (Fold-none c.args.parts.now (grind (arith, common_steps)))

pub loop-part-preserved : goal.loop-part-preserved
loop-part-preserved c =
    let line : c.as_str.result.now ≡ get_or c.in-Some.front.now c.loop-part.part-index [] = grind (arith, common_steps) in
    Fold-more c.loop-part.folded c.add.new.self c.in-Some.front.now c.loop-part.part-index c.in-Some.last.now _ c.loop-part-test.true c.loop-part.invariant (rw (← line) c.in_ok-add.ensures)
