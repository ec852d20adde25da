use Rattle.star_steps.proofs.Names.{seen, value_of, as_is, state_in, meets_same}
use Rattle.star_compare.proofs.Keys.{key_if_sized, sized_key}
use Rattle.star_compare.proofs.sizes.key_size.Goals as goal

pub returns-clause-meaning : goal.returns-clause-meaning
returns-clause-meaning c =
    let a = seen c.args.arena.now in
    meets_same as_is c.pay_size.result (state_in a c.pay_size.new.steps) _ _ (sized_key c.args.place (value_of a c.args.key) (state_in a c.args.steps.now)) c.pay_size.ensures

pub returns-clause-key : goal.returns-clause-key
returns-clause-key c =
    let a = seen c.args.arena.now in
    key_if_sized c.args.place (value_of a c.args.key) (state_in a c.args.steps.now) (state_in a c.pay_size.new.steps) c.pay_size.result c.pay_size.ensures
