use Rattle.std.proofs.Common.{length}
use Rattle.object_arena.specs.Names.{seen}
use Rattle.star_calls.proofs.Called.{scope_joined}
use Rattle.star_calls.proofs.call.scope_with.Goals as goal

pub returns-clause-env : goal.returns-clause-env
returns-clause-env c =
    let a = seen c.args.arena.now in
    let opens = c.in_ok-scope.ensures.opens in
    (scope_joined a (seen c.open_scope.new.arena) c.in_ok-scope.scope c.args.own c.args.around c.append.new.self c.append-2.new.self (length a.store) c.args.fresh.now c.in_ok-scope.ensures.grows c.requires.own c.requires.around opens.owned opens.env c.in_ok-append.ensures c.in_ok-append-2.ensures).1

pub returns-clause-owned : goal.returns-clause-owned
returns-clause-owned c =
    let a = seen c.args.arena.now in
    let opens = c.in_ok-scope.ensures.opens in
    (scope_joined a (seen c.open_scope.new.arena) c.in_ok-scope.scope c.args.own c.args.around c.append.new.self c.append-2.new.self (length a.store) c.args.fresh.now c.in_ok-scope.ensures.grows c.requires.own c.requires.around opens.owned opens.env c.in_ok-append.ensures c.in_ok-append-2.ensures).0
