use Rattle.object_arena.specs.Names.{seen}
use Rattle.star_calls.proofs.Called.{one_boxed}
use Rattle.star_calls.proofs.own.put_box.Goals as goal

pub returns-clause-made : goal.returns-clause-made
returns-clause-made c =
    let named = c.in_ok-named.ensures in
    (one_boxed (seen c.args.arena.now) (seen c.filled_box.new.arena) c.args.made.now c.push.new.self c.in_ok-named.named c.args.name.now named.grows c.requires.made named.name named.owned c.in_ok-push.ensures.ok).1

pub returns-clause-owned : goal.returns-clause-owned
returns-clause-owned c =
    let named = c.in_ok-named.ensures in
    (one_boxed (seen c.args.arena.now) (seen c.filled_box.new.arena) c.args.made.now c.push.new.self c.in_ok-named.named c.args.name.now named.grows c.requires.made named.name named.owned c.in_ok-push.ensures.ok).0
