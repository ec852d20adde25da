use Rattle.object_arena.proofs.Names.{length, sym, subst, OwnsHeld, NumberedAt}
use Rattle.star_values.specs.contracts.held.HeldPartialEq.TheImpl.{ghosts as held_ghosts}
use Rattle.star_values.specs.Objects.{seen}
use Rattle.object_arena.proofs.Pushing.{Pushed, pushed}
use Rattle.object_arena.proofs.arena.Arena.push_held.Goals as goal
use Rattle.object_arena.proofs.arena.Arena.push_held.Goals.{In_ok-at}

after : (c : In_ok-at) → Pushed c.self.inside.held.keys c.self.inside.objects.items c.args.held c.insert_full.new.self.keys
unfolding seen
after c =
    let owns = subst (λ a. OwnsHeld (seen a) c.args.held) (sym c.self.view_is) c.requires.owns in
    let number = subst (λ a. NumberedAt (length (seen a).held) c.args.held) (sym c.self.view_is) c.requires.number in
    subst (Pushed c.self.inside.held.keys c.self.inside.objects.items c.args.held) (sym c.in_ok-at.ensures.keys) (pushed held_ghosts.eq c.equal_things_are_same.ensures c.self.inside.held.keys c.self.inside.objects.items c.args.held c.self.invariant owns number)

pub invariant_of-self-2 : goal.invariant_of-self-2
unfolding seen
invariant_of-self-2 c = (after c).sound

pub returns : goal.returns
unfolding seen
returns c =
    let k = c.in_ok-at.ensures.stored in
    record {
      here = rw (← c.self.view_is) ((after c).here c.in_ok-at.at k.0 k.1 ((c.equal_things_are_same.ensures c.args.held k.0).0 k.2));
      store = rw (← c.self.view_is) (after c).store;
      grows = rw (← c.self.view_is) (after c).grows;
      err = tt;
    }
