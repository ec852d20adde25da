use Rattle.std.proofs.Common.{ap}
use Rattle.value_spec.specs.Binding.{or_default}
use Rattle.star_values.specs.View.{option_in}
use Rattle.star_calls.proofs.left.by_name.Goals as goal

pub returns-in-None : goal.returns-in-None
returns-in-None c = record {
  value = λ a. ap (λ o. or_default o (option_in a.held c.args.default)) (c.in-None.ensures.value a);
  left = c.in-None.ensures.left;
  owned = λ a d o. (d, (c.in-None.ensures.owned a o).1);
}

pub returns-in-Some : goal.returns-in-Some
returns-in-Some c = record {
  value = λ a. ap (λ o. or_default o (option_in a.held c.args.default)) (c.in-Some.ensures.value a);
  left = c.in-Some.ensures.left;
  owned = λ a d o. c.in-Some.ensures.owned a o;
}
