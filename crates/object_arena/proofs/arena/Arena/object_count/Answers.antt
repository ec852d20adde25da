use Rattle.object_arena.proofs.Names.{sym, ap, ◌∙◌, length, length-map, held_of, object_in}
use Rattle.star_values.specs.Objects.{seen}
use Rattle.object_arena.proofs.arena.Arena.object_count.Goals as goal

pub returns : goal.returns
unfolding seen
returns c = c.len.ensures ∙ c.self.inside.objects.ok.0 ∙ sym (length-map c.self.inside.objects.items (object_in (held_of c.self.inside.held.keys))) ∙ ap (λ a. length (seen a).store) c.self.view_is
