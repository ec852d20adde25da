use Rattle.std.proofs.Common.{refl}
use Rattle.star_steps.proofs.Meeting.{meets_same}
use Rattle.star_steps.specs.Meets.{as_is, state_in}
use Rattle.star_values.specs.Objects.{seen}
use Rattle.star_values.specs.View.{values_of}
use Rattle.value_spec.specs.Outcomes.{give}
use Rattle.mod_basic.proofs.Checking.{none_costs}
use Rattle.mod_basic.proofs.costs.pay_for.Goals as goal

pub returns : goal.returns
returns c =
    let a = seen c.args.arena.now in
    meets_same as_is c.pay_operation.result (state_in a c.pay_operation.new.steps) _ _ (none_costs c.args.place (values_of a c.args.values.now) (give (tt {0})) (state_in a c.args.steps.now)) (c.pay_operation.ensures 0 0 refl refl)
