use Rattle.std.proofs.Common.{suc, ◌+◌, length, ◌∷◌, ◌++◌, [], ap, sym, subst, ◌∙◌}
use Rattle.star_spec.specs.Flow.{on}
use Rattle.star_values.proofs.Growing.{each_joined}
use Rattle.star_values.specs.Owns.{Each}
use Rattle.value_spec.specs.Outcomes.{done}
use Rattle.node_build.proofs.Stacks.{nodes-more}
use Rattle.node_build.specs.View.{OwnsNode, nodes_in}
use Rattle.node_build.proofs.builder.Builder.start.Goals as goal

pub returns-in-Ok-clause-meaning : goal.returns-in-Ok-clause-meaning
returns-in-Ok-clause-meaning c = λ a s.
    let self = c.args.self.now in
    let below = c.in-Ok.ensures.items ∙ ap (λ n. self.below.items ++ n ∷ []) c.replace-under.ensures.value in
    ap (λ ns. done (on ns) s)
    (sym (ap (nodes_in a.held self.around c.replace-under.new.dest) below ∙ nodes-more a.held self.around self.top c.replace-under.new.dest self.below.items
    ∙ ap (λ n. n ∷ nodes_in a.held self.around self.top self.below.items)
    (rw c.replace-under.ensures.after (c.new-node.ensures.opened a.held (suc (length self.below.items + self.around))))))

pub returns-in-Ok-clause-owned : goal.returns-in-Ok-clause-owned
returns-in-Ok-clause-owned c = λ a o.
    let self = c.args.self.now in
    let below = c.in-Ok.ensures.items ∙ ap (λ n. self.below.items ++ n ∷ []) c.replace-under.ensures.value in (
      subst (OwnsNode a) (sym c.replace-under.ensures.after) (c.new-node.ensures.owned a),
      subst (Each (OwnsNode a)) (sym below) (each_joined (OwnsNode a) self.below.items (self.top ∷ []) o.1 (o.0, tt)),
    )
