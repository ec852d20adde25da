use Rattle.object_arena.proofs.Names.{length, refl, sym, ap, ◌∙◌, suc, add-one, arith, as_frozen, freeze_since, seen, grows_same, grows_then}
use Rattle.object_arena.proofs.Frozen.{changed_length, frozen_next, frozen_all}
use Rattle.object_arena.proofs.arena.Arena.freeze_since.Goals as goal

pub loop-at-init : goal.loop-at-init
loop-at-init c = record { store = refl; count = refl; held = refl; grows = grows_same (seen c.args.self.now) }

pub freeze_at-requires : goal.freeze_at-requires
freeze_at-requires c = omega (arith, c.loop-at.invariant.count, c.loop-at-test.true, c.object_count-count.ensures)

pub loop-at-preserved : goal.loop-at-preserved
loop-at-preserved c =
    let st = (seen c.loop-at.self).store in
    record {
      store = ap (λ n. freeze_since n (seen c.freeze_at.new.self).store) (add-one c.loop-at.at) ∙ ap (freeze_since (suc c.loop-at.at)) c.freeze_at.ensures.store ∙ frozen_next st c.loop-at.at ∙ c.loop-at.invariant.store;
      count = ap length c.freeze_at.ensures.store ∙ changed_length as_frozen st c.loop-at.at ∙ c.loop-at.invariant.count;
      held = c.freeze_at.ensures.held ∙ c.loop-at.invariant.held;
      grows = grows_then _ _ _ c.loop-at.invariant.grows c.freeze_at.ensures.grows;
    }

pub returns-clause-store : goal.returns-clause-store
returns-clause-store c = sym (frozen_all (seen c.loop-at.self).store c.loop-at.at (omega (arith, c.loop-at.invariant.count, c.loop-at-test.false, c.object_count-count.ensures))) ∙ c.loop-at.invariant.store
