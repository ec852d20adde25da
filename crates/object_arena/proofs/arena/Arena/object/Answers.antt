use Rattle.std.proofs.Common.{◌≡◌}
use Rattle.object_arena.proofs.Names.{sym, subst, IsSome, slice_get, Some, arith, object_at, stands_within, slice_get_read, refl, seen_here, owns_here}
use Rattle.star_values.specs.Objects.{seen}
use Rattle.object_arena.proofs.arena.Arena.object.Goals as goal
use Rattle.object_arena.proofs.arena.Arena.object.Goals.{After-index}

pub index-requires : goal.index-requires
unfolding seen
index-requires c = let h = stands_within c.self.inside.held.keys c.self.inside.objects.items c.args.at (subst (λ a. IsSome (object_at (seen a) c.args.at)) (sym c.self.view_is) c.requires) in omega (arith, h, c.self.inside.objects.ok.0)

here : (c : After-index) → slice_get c.self.inside.objects.items c.args.at ≡ Some c.index.result.now
unfolding seen
here c =
    let lt = stands_within c.self.inside.held.keys c.self.inside.objects.items c.args.at (subst (λ a. IsSome (object_at (seen a) c.args.at)) (sym c.self.view_is) c.requires) in
    slice_get_read c.self.inside.objects.items _ c.args.at c.index.result.now refl lt c.index.ensures

pub returns : goal.returns
unfolding seen
returns c = record {
  here = rw (← c.self.view_is) (seen_here c.self.inside.held.keys c.self.inside.objects.items c.args.at c.index.result.now (here c));
  owns = rw (← c.self.view_is) (owns_here c.self.inside.held.keys c.self.inside.objects.items c.args.at c.index.result.now (here c) c.self.invariant);
}
