use Rattle.std.proofs.Common.{ap, subst, sym, ◌∙◌}
use Rattle.star_values.specs.View.{option_in}
use Rattle.star_values.specs.Owns.{OwnsOption}
use Rattle.star_text.specs.ByName.{first_named}
use Rattle.star_text.proofs.FirstNamed.{first_is, first_owned}
use Rattle.star_text.proofs.by_name.ByName.value.Goals as goal

pub returns-clause-value : goal.returns-clause-value
returns-clause-value c = λ a. ap (option_in a.held) (c.first_found.ensures ∙ ap (first_named c.args.name.now) c.as_slice.ensures) ∙ first_is a c.args.name.now c.args.self.now.given.now.named

pub returns-clause-owned : goal.returns-clause-owned
returns-clause-owned c = λ a h.
    subst (OwnsOption a) (sym (c.first_found.ensures ∙ ap (first_named c.args.name.now) c.as_slice.ensures)) (first_owned a c.args.name.now c.args.self.now.given.now.named h)
