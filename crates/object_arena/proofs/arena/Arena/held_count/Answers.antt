use Rattle.object_arena.proofs.Names.{sym, ap, ◌∙◌, length, held_known, held_length}
use Rattle.star_values.specs.Objects.{seen}
use Rattle.object_arena.proofs.arena.Arena.held_count.Goals as goal

pub returns : goal.returns
unfolding seen
returns c = record {
  count = c.len.ensures.len ∙ sym (held_length c.self.inside.held.keys) ∙ ap (λ a. length (seen a).held) c.self.view_is;
  each = rw (← c.self.view_is) (λ i. held_known c.self.inside.held.keys c.self.inside.objects.items i c.self.invariant);
}
