use Rattle.std.proofs.Common.{◌+◌, ◌≤◌, ◌∙◌, sym, ap, subst}
use Rattle.star_grammar.specs.Reading.{max_height}
use Rattle.star_machine.specs.Weights.{added, grown}
use Rattle.star_machine.proofs.Rising.{still_weighed, unchanged_weighed}
use Rattle.star_machine.proofs.weight.Weight.open.Goals as goal

pub returns-in-None : goal.returns-in-None
returns-in-None c = λ rest is. unchanged_weighed c.args.self.now c.args.choice rest c.args.shapes.now (sym c.growth_of.ensures ∙ c.in-None.is) is

pub returns-in_default : goal.returns-in_default
returns-in_default c = λ rest is.
    let shapes = c.args.shapes.now in
    let rises = c.args.self.now.rises in
    still_weighed c.args.self.now _ c.args.choice rest shapes (ap (λ n. rises + n) c.levels.ensures ∙ ap (λ g. rises + added g) c.growth_of.ensures)
    (λ yes. let p = c.stays_low-self.ensures yes in (p.0, subst (λ n. n + rises ≤ max_height) (c.high.ensures ∙ ap (λ g. grown g shapes) c.growth_of.ensures) p.1)) is
