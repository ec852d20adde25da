use Rattle.std.proofs.Common.{ap}
use Rattle.object_arena.specs.Names.{seen, value_of}
use Rattle.star_values.proofs.Growing.{grows_then, owns_kept, value_kept}
use Rattle.star_calls.proofs.Called.{box_filled}
use Rattle.star_calls.proofs.own.filled_box.Goals as goal

pub set_box-requires-clause-value : goal.set_box-requires-clause-value
set_box-requires-clause-value c = owns_kept (seen c.args.arena.now) (seen c.named_box.new.arena) c.args.value c.in_ok-named.ensures.grows c.requires

pub returns-clause-store : goal.returns-clause-store
returns-clause-store c =
    let a = seen c.args.arena.now in
    let b = seen c.named_box.new.arena in
    box_filled a.store b.store (seen c.set_box.new.self).store c.in_ok-named.named.at.at (value_of a c.args.value) (value_of b c.args.value) c.in_ok-named.ensures.store (ap (λ p. p.1) c.in_ok-named.ensures.name)
    (value_kept a b c.args.value c.in_ok-named.ensures.grows c.requires) c.set_box.ensures.store

pub returns-clause-grows : goal.returns-clause-grows
returns-clause-grows c = grows_then (seen c.args.arena.now) (seen c.named_box.new.arena) (seen c.set_box.new.self) c.in_ok-named.ensures.grows c.set_box.ensures.grows
