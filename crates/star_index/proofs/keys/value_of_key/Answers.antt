use Rattle.star_index.proofs.Names.{None, gives_refused, is_key, key_row, missing, seen, state_in, value_of}
use Rattle.star_index.proofs.keys.value_of_key.Goals as goal

pub value_under-requires-clause-key : goal.value_under-requires-clause-key
value_under-requires-clause-key c = is_key 100 (value_of (seen c.args.arena.now) c.args.key) c.in_ok-key_size.ensures.key

pub returns-in-None : goal.returns-in-None
returns-in-None c =
    let a = seen c.args.arena.now in
    gives_refused c.missing.result (missing c.args.place (value_of a c.args.key)) a c.key_size.new.steps _ c.missing.ensures
    (key_row c.args.place c.args.dict.at (value_of a c.args.key) None (state_in a c.args.steps.now) (state_in a c.key_size.new.steps) c.in_ok-key_size.ensures.meaning c.in-None.ensures.value)
