use Rattle.std.proofs.Common.{rules}
use Rattle.star_steps.specs.Meets.{state_in}
use Rattle.star_values.specs.Objects.{seen}
use Rattle.star_values.specs.View.{arguments_in, option_in, value_of}
use Rattle.value_spec.specs.Store.{option_members}
use Rattle.mod_basic.proofs.Calling.{reply_after, reply_err, row_parts}
use Rattle.mod_basic.specs.View.{replied}
use Rattle.mod_basic.proofs.calls.basic_call.Goals as goal

pub returns-in_err-value-clause-row : goal.returns-in_err-value-clause-row
returns-in_err-value-clause-row c =
    let a = seen c.args.arena.now in
    reply_err _ _ (replied c.args.basic c.args.at) (row_parts c.args.basic (option_members (option_in a.held c.args.on)) c.args.at (arguments_in a.held c.args.args) (state_in a c.args.work.now.steps))
    value_of c.in_err-value.field-0.0 _ a (seen c.value_given.new.arena) c.value_given.new.steps c.in_err-value.ensures.meaning (search rules) c.in_err-value.ensures.grows

pub returns-clause-row : goal.returns-clause-row
returns-clause-row c =
    let a = seen c.args.arena.now in
    let b = seen c.value_given.new.arena in
    reply_after _ _ (replied c.args.basic c.args.at) (row_parts c.args.basic (option_members (option_in a.held c.args.on)) c.args.at (arguments_in a.held c.args.args) (state_in a c.args.work.now.steps))
    c.in_ok-value.value _ a b b c.value_given.new.steps c.value_given.new.steps c.in_ok-value.ensures.meaning c.in_ok-value.ensures.grows (c.reply.ensures c.value_given.new.steps)
