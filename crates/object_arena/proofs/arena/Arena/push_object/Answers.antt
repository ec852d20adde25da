use Rattle.object_arena.proofs.Names.{◌++◌, ◌∷◌, [], ◌∙◌, contents_in, held_of, store_in, rules, false, sym, ap, subst, OwnsContents, View, view_more_objects, grows_more_objects, sound_more_objects}
use Rattle.star_values.specs.Objects.{seen}
use Rattle.object_arena.proofs.arena.Arena.push_object.Goals as goal

pub invariant_of-self-2 : goal.invariant_of-self-2
unfolding seen
invariant_of-self-2 c = rw (c.in_ok-push.ensures.items, c.new.ensures) (sound_more_objects _ _ (record { contents = c.args.contents; frozen = false }) c.self.invariant (subst (λ a. OwnsContents (seen a) c.args.contents) (sym c.self.view_is) c.requires.owns))

pub returns : goal.returns
unfolding seen
returns c = record {
  here = search rules;
  store = rw (← c.self.view_is, c.in_ok-push.ensures.items, c.new.ensures) (ap (λ (v : View). v.store) (view_more_objects c.self.inside.held.keys c.self.inside.objects.items (record { contents = c.args.contents; frozen = false })) ∙ ap (λ n. store_in (held_of c.self.inside.held.keys) c.self.inside.objects.items ++ record { contents = contents_in (held_of c.self.inside.held.keys) c.args.contents; frozen = false; loops = n } ∷ []) c.requires.still);
  held = ap (λ a. (seen a).held) c.self.view_is;
  grows = rw (← c.self.view_is, c.in_ok-push.ensures.items) (grows_more_objects c.self.inside.held.keys c.self.inside.objects.items _);
  err = tt;
}
