use Rattle.std.proofs.Common.{ℕ, ap, sym}
use Rattle.value_spec.specs.Built.{below}
use Rattle.value_spec.specs.Outcomes.{Computation}
use Rattle.star_values.specs.Objects.{seen}
use Rattle.star_values.specs.View.{built_in}
use Rattle.star_steps.specs.Meets.{as_is, state_in}
use Rattle.star_steps.proofs.Meeting.{meets_same}
use Rattle.star_fragments.proofs.Spread.{children_paid_spread}
use Rattle.star_fragments.proofs.sizes.pay_items.Goals as goal

pub returns : goal.returns
returns c =
    meets_same as_is c.pay_below.result (state_in (seen c.args.arena.now) c.pay_below.new.steps) _ _
    (sym (ap (λ (k : ℕ → Computation (Unit {0}) (Unit {0})). below c.args.place c.args.levels k (state_in (seen c.args.arena.now) c.args.steps.now))
    (λ i m. children_paid_spread c.args.place m (built_in (seen c.args.arena.now).held c.args.items.now) i)))
    c.pay_below.ensures
