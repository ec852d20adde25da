use Rattle.std.proofs.Common.{◌≡◌, ◌<◌}
use Rattle.object_arena.proofs.Names.{sym, subst, length, IsSome, get_or, slice_get, Some, refl, arith, slice_get_read, held_at, held_within, held_here}
use Rattle.star_values.specs.Objects.{seen}
use Rattle.object_arena.proofs.arena.Arena.held.Goals as goal
use Rattle.object_arena.proofs.arena.Arena.held.Goals.{After-as_slice, After-index-as_slice-at}

within : (c : After-as_slice) → c.args.at < length c.as_slice.result.now
unfolding seen
within c = let h = held_within c.self.inside.held.keys c.self.inside.objects.items c.args.at (subst (λ a. IsSome (held_at (seen a) c.args.at)) (sym c.self.view_is) c.requires) in subst (λ l. c.args.at < length l) (sym c.as_slice.ensures.keys) h

pub offset_bounds-as_slice-at : goal.offset_bounds-as_slice-at
offset_bounds-as_slice-at c = omega (arith, within c, c.as_slice.type_inv)

pub bounds-as_slice-at : goal.bounds-as_slice-at
bounds-as_slice-at c = within c

here : (c : After-index-as_slice-at) → slice_get c.self.inside.held.keys c.args.at ≡ Some c.index-as_slice-at.result
unfolding seen
here c =
    let lt = held_within c.self.inside.held.keys c.self.inside.objects.items c.args.at (subst (λ a. IsSome (held_at (seen a) c.args.at)) (sym c.self.view_is) c.requires) in
    slice_get_read c.self.inside.held.keys _ c.args.at c.index-as_slice-at.result refl lt (subst (λ l. c.index-as_slice-at.result ≡ get_or l c.args.at c.index-as_slice-at.result) c.as_slice.ensures.keys c.index-as_slice-at.is)

pub returns : goal.returns
unfolding seen
returns c =
    let h = held_here c.self.inside.held.keys c.self.inside.objects.items c.args.at c.index-as_slice-at.result c.self.invariant (here c) in
    record { here = rw (← c.self.view_is) h.0; owns = rw (← c.self.view_is) h.1 }
