use Rattle.std.proofs.Common.{◌+◌}
use Rattle.object_arena.proofs.Names.{seen, changed_as, owns_lent_kept, walked}
use Rattle.object_arena.proofs.Looping.{if_ok, on_ok}
use Rattle.object_arena.proofs.arena.Arena.begin_loop.Goals as goal

pub put_back-requires-clause-owns : goal.put_back-requires-clause-owns
put_back-requires-clause-owns c = c.begin_loop-lent.ensures.owned (seen c.take-object.new.self) c.take-object.ensures.owned

pub returns-clause-store : goal.returns-clause-store
returns-clause-store c =
    let a = seen c.args.self.now in
    on_ok c.begin_loop-lent.result
    (λ same. changed_as (walked (λ n. n + 1)) a (seen c.put_back.new.self) c.args.r.at c.take-object.result c.begin_loop-lent.new.self c.take-object.ensures.was same (c.put_back.ensures a c.take-object.ensures.out))
    (c.begin_loop-lent.ensures.meaning a.held)

pub returns-clause-owns : goal.returns-clause-owns
returns-clause-owns c =
    let a = seen c.args.self.now in
    let back = c.put_back.ensures a c.take-object.ensures.out in
    if_ok _ _ c.begin_loop-lent.result (λ l h. owns_lent_kept _ _ l back.grows (h a c.take-object.ensures.had)) c.begin_loop-lent.ensures.given

pub returns-clause-held : goal.returns-clause-held
returns-clause-held c = (c.put_back.ensures (seen c.args.self.now) c.take-object.ensures.out).held
