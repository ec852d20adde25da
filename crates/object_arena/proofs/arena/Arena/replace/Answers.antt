use Rattle.std.proofs.Common.{◌≡◌}
use Rattle.object_arena.proofs.Names.{refl, sym, ap, subst, get_or, IsSome, slice_get, slice_get_read, Some, arith, contents_kind, object_at, OwnsContents, View, stands_within, seen_here, owns_here, same_sort, SameSort, view_other_object, grows_other_object, sound_other_object}
use Rattle.star_values.specs.Objects.{seen}
use Rattle.object_arena.proofs.arena.Arena.replace.Goals as goal
use Rattle.object_arena.proofs.arena.Arena.replace.Goals.{After-self-1}

pub index_mut-requires : goal.index_mut-requires
unfolding seen
index_mut-requires c =
    let kind = subst (λ a. object_at (seen a) c.args.at ≡ Some (contents_kind c.args.object.contents)) (sym c.self.view_is) c.requires.kind in
    let h = stands_within c.self.inside.held.keys c.self.inside.objects.items c.args.at (subst IsSome (sym kind) refl) in
    omega (arith, h, c.self.inside.objects.ok.0)

-- what is taken out stood there, and is of the kind of what is put in
stood : (c : After-self-1) → (slice_get c.self.inside.objects.items c.args.at ≡ Some c.replace.result) × SameSort c.replace.result c.args.object
unfolding seen
stood c =
    let kind = subst (λ a. object_at (seen a) c.args.at ≡ Some (contents_kind c.args.object.contents)) (sym c.self.view_is) c.requires.kind in
    let lt = stands_within c.self.inside.held.keys c.self.inside.objects.items c.args.at (subst IsSome (sym kind) refl) in
    let here = slice_get_read c.self.inside.objects.items _ c.args.at c.replace.result refl lt (subst (λ x. x ≡ get_or c.self.inside.objects.items c.args.at x) (sym c.replace.ensures.value) c.index_mut.ensures.value) in
    (here, same_sort c.self.inside.held.keys c.self.inside.objects.items c.args.at c.replace.result c.args.object here kind)

pub invariant_of-self : goal.invariant_of-self
unfolding seen
invariant_of-self c = rw c.replace.ensures.after (sound_other_object c.self.inside.held.keys c.self.inside.objects.items c.args.at c.replace.result c.args.object (stood c).0 (stood c).1 c.self.invariant (subst (λ a. OwnsContents (seen a) c.args.object.contents) (sym c.self.view_is) c.requires.owns))

pub returns : goal.returns
unfolding seen
returns c =
    let hs = c.self.inside.held.keys in
    let os = c.self.inside.objects.items in
    let at = c.args.at in
    record {
      was = rw (← c.self.view_is) (seen_here hs os at c.replace.result (stood c).0);
      owned = rw (← c.self.view_is) (owns_here hs os at c.replace.result (stood c).0 c.self.invariant);
      store = rw (← c.self.view_is, c.replace.ensures.after) (ap (λ (v : View). v.store) (view_other_object hs os at c.args.object));
      held = ap (λ a. (seen a).held) c.self.view_is;
      grows = rw (← c.self.view_is, c.replace.ensures.after) (grows_other_object hs os at c.replace.result c.args.object (stood c).0 (stood c).1);
    }
