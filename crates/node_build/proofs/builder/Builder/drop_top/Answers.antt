use Rattle.std.proofs.Common.{[], ◌∷◌, ap, sym, subst, ◌∙◌}
use Rattle.star_values.specs.Owns.{Each}
use Rattle.node_build.proofs.Owned.{parted}
use Rattle.node_build.proofs.Stacks.{from-last}
use Rattle.node_build.specs.View.{OwnsNode, nodes_from}
use Rattle.node_build.proofs.builder.Builder.drop_top.Goals as goal

pub returns-clause-meaning : goal.returns-clause-meaning
returns-clause-meaning c = λ a.
    let self = c.args.self.now in
    sym (ap (λ ns. nodes_from a.held self.around ns []) c.in-Some.ensures.items ∙ from-last a.held self.around c.pop.new.self.items c.in-Some.node [])

pub returns-clause-owned : goal.returns-clause-owned
returns-clause-owned c = λ a h.
    let k = parted (OwnsNode a) c.pop.new.self.items (c.in-Some.node ∷ []) (subst (Each (OwnsNode a)) c.in-Some.ensures.items h) in
    (k.1.0, k.0)
