use Rattle.star_steps.proofs.Names.{◌≡◌, Err, rules, seen, grows_then}
use Rattle.star_values.specs.declared.value.Value.TheVariants as value
use Rattle.star_fragments.proofs.Dicts.{pair_owned, put_done, put_more}
use Rattle.star_fragments.proofs.Making.{none_built}
use Rattle.star_fragments.proofs.fresh.dict_of.Goals as goal

pub put_pair-requires-clause-pair : goal.put_pair-requires-clause-pair
put_pair-requires-clause-pair c = pair_owned (seen c.args.arena.now) (seen c.loop-key.arena) c.args.pairs.now c.loop-key.key-index (value.None, value.None) c.requires c.loop-key-test.true c.loop-key.invariant.grows

pub returns-in_err-put_pair : goal.returns-in_err-put_pair
returns-in_err-put_pair c =
    let stopped : c.from_residual-in_err-put_pair.result ≡ Err c.in_err-put_pair.field-0.0 = search rules in
    none_built _ c.from_residual-in_err-put_pair.result c.in_err-put_pair.field-0.0 (seen c.args.arena.now) (seen c.put_pair.new.arena) stopped
    (grows_then (seen c.args.arena.now) (seen c.loop-key.arena) (seen c.put_pair.new.arena) c.loop-key.invariant.grows c.put_pair.ensures.grows)

pub loop-key-preserved : goal.loop-key-preserved
loop-key-preserved c =
    put_more c.in_ok-dict.dict c.args.pairs.now c.loop-key.key-index (value.None, value.None) (seen c.args.arena.now) (seen c.loop-key.arena) (seen c.put_pair.new.arena) c.loop-key-test.true c.loop-key.invariant
    c.in_ok-put_pair.ensures.ok c.put_pair.ensures.held c.put_pair.ensures.grows

pub returns : goal.returns
returns c = put_done c.in_ok-dict.dict c.args.pairs.now c.loop-key.key-index (seen c.args.arena.now) (seen c.loop-key.arena) c.loop-key-test.false c.loop-key.invariant
