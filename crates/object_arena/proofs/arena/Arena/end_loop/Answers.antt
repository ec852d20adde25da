use Rattle.std.proofs.Common.{◌-◌}
use Rattle.std.specs.Prelude.{Err}
use Rattle.star_values.specs.declared.object.ArenaStop.TheVariants as stop
use Rattle.object_arena.proofs.Names.{ap, empty_out, object_in, seen, acted, changed_as, walked}
use Rattle.object_arena.proofs.Looping.{on_err, on_ok}
use Rattle.object_arena.proofs.arena.Arena.end_loop.Goals as goal

pub put_back-requires-clause-owns : goal.put_back-requires-clause-owns
put_back-requires-clause-owns c = c.end_loop-ended.ensures.owned (seen c.take-object.new.self) c.take-object.ensures.owned

pub returns-clause-store : goal.returns-clause-store
returns-clause-store c =
    let a = seen c.args.self.now in
    on_ok c.end_loop-ended.result
    (λ same. changed_as (walked (λ n. n - 1)) a (seen c.put_back.new.self) c.args.r.at c.take-object.result c.end_loop-ended.new.self c.take-object.ensures.was same (c.put_back.ensures a c.take-object.ensures.out))
    (c.end_loop-ended.ensures.meaning a.held)

pub returns-clause-err : goal.returns-clause-err
returns-clause-err c =
    let a = seen c.args.self.now in
    on_err c.end_loop-ended.result
    (λ same. acted (λ (u : Unit {0}). u) (Err stop.Memory) a (seen c.put_back.new.self) c.args.r.at c.take-object.result c.end_loop-ended.new.self empty_out c.take-object.ensures.was (ap (object_in a.held) same) (c.put_back.ensures a c.take-object.ensures.out))
    c.end_loop-ended.ensures.err

pub returns-clause-held : goal.returns-clause-held
returns-clause-held c = (c.put_back.ensures (seen c.args.self.now) c.take-object.ensures.out).held
