use Rattle.std.proofs.Common.{◌+◌, ◌∷◌, [], length, ap, sym, subst, ◌∙◌}
use Rattle.star_spec.specs.Flow.{on}
use Rattle.star_values.specs.Owns.{OwnsAll, note_values}
use Rattle.star_values.specs.View.{notes_in}
use Rattle.value_spec.specs.Outcomes.{done}
use Rattle.node_build.proofs.Owned.{notes_joined}
use Rattle.node_build.proofs.Notes.{notes_last}
use Rattle.node_build.specs.View.{node_at, nodes_from}
use Rattle.node_build.proofs.builder.Builder.note.Goals as goal

pub returns-clause-meaning : goal.returns-clause-meaning
returns-clause-meaning c = λ a s.
    let self = c.args.self.now in
    let node = node_at a.held (length self.below.items + self.around) self.top in
    ap (λ ns. done (on (record node { notes = ns } ∷ nodes_from a.held self.around self.below.items [])) s)
    (sym (ap (notes_in a.held) c.in_ok-push.ensures.ok ∙ notes_last a.held self.top.notes c.args.note))

pub returns-clause-owned : goal.returns-clause-owned
returns-clause-owned c = λ a n o.
    let notes = subst (λ ns. OwnsAll a (note_values ns)) (sym c.in_ok-push.ensures.ok) (notes_joined a c.args.self.now.top.notes c.args.note o.0.0 n) in
    ((notes, o.0.1, o.0.2), o.1)
