use Rattle.std.proofs.Common.{◌≡◌, ◌+◌, ◌∷◌, [], ap, sym, subst, ◌∙◌, arith}
use Rattle.star_values.specs.Owns.{Each}
use Rattle.node_build.specs.View.{OwnsNode, node_at, nodes_in}
use Rattle.node_build.proofs.builder.Builder.within.Goals as goal

pub returns-clause-meaning : goal.returns-clause-meaning
returns-clause-meaning c = λ a.
    let level : 0 + c.args.around ≡ c.args.around = omega arith in
    ap (nodes_in a.held c.args.around c.new.result) c.new-2.ensures.items ∙ ap (λ l. node_at a.held l c.new.result ∷ []) level ∙ ap (λ n. n ∷ []) (c.new.ensures.opened a.held c.args.around)

pub returns-clause-owned : goal.returns-clause-owned
returns-clause-owned c = λ a. (c.new.ensures.owned a, subst (Each (OwnsNode a)) (sym c.new-2.ensures.items) tt)
