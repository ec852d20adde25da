use Rattle.star_steps.proofs.Names.{◌≡◌, ◌+◌, length, ap, subst, arith, new_keys, pairs_at, pair_in, seen}
use Rattle.star_fragments.specs.Fresh.{OwnsPairs, pairs_of}
use Rattle.star_ops.proofs.Members.{counted}
use Rattle.star_ops.proofs.unions.new_keys.Goals as goal

pub loop-key-preserved : goal.loop-key-preserved
loop-key-preserved c =
    let a = seen c.args.arena.now in
    let ps = pairs_at c.args.left.at a.store in
    let rest = c.in-Some.ensures.parts in
    let owned = subst (OwnsPairs a) rest c.loop-key.invariant.owns in
    let all = subst (λ qs. c.loop-key.fresh + new_keys ps (pairs_of a qs) ≡ new_keys ps (pairs_at c.args.right.at a.store)) rest c.loop-key.invariant.counted in
    let more = counted a.held ps (pairs_of a c.in-Some.more) (pair_in a.held (c.in-Some.key.now, c.in-Some.field-0-0-1.now)) c.value_under.result c.is_none.result c.one_if-fresh.result c.loop-key.fresh _ c.value_under.ensures.value c.is_none.ensures c.one_if-fresh.ensures all in
    record { owns = owned.1; counted = more.0; few = omega (arith, more.1, ap length rest, c.loop-key.invariant.few) }
