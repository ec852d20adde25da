use Rattle.star_values.specs.Objects.{seen}
use Rattle.star_values.specs.View.{arguments_in, option_in}
use Rattle.value_spec.specs.Store.{option_members}
use Rattle.mod_basic.proofs.Calling.{gives_bound}
use Rattle.mod_basic.proofs.calls.value_given.Goals as goal

pub returns-in_default : goal.returns-in_default
returns-in_default c =
    let a = seen c.args.arena.now in
    gives_bound c.args.basic (option_members (option_in a.held c.args.on)) c.args.at (arguments_in a.held c.args.args) c.bound.result a (seen c.bound.new.arena) c.args.steps.now c.bound.new.steps c.in_default.not-Make c.bound.ensures
