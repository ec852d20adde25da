use Rattle.std.proofs.Common.{[], ◌+◌, ap, sym, subst, ◌∙◌, arith}
use Rattle.star_values.specs.Owns.{Each}
use Rattle.node_build.proofs.Owned.{taken_each}
use Rattle.node_build.proofs.Stacks.{cut-below, cut-nothing}
use Rattle.node_build.specs.View.{OwnsNode, nodes_from}
use Rattle.node_build.proofs.builder.Builder.cut_back.Goals as goal

pub returns-then-height-len-clause-meaning : goal.returns-then-height-len-clause-meaning
returns-then-height-len-clause-meaning c = λ a.
    let self = c.args.self.now in
    c.drop_top.ensures.meaning a ∙ ap (λ ns. nodes_from a.held self.around ns []) c.truncate.ensures.items
    ∙ cut-below a.held self.around c.args.height self.top self.below.items (omega (arith, c.if-height-len.true, c.len.ensures, self.below.ok.0))

pub returns-then-height-len-clause-owned : goal.returns-then-height-len-clause-owned
returns-then-height-len-clause-owned c = λ a o.
    c.drop_top.ensures.owned a (subst (Each (OwnsNode a)) (sym c.truncate.ensures.items) (taken_each (OwnsNode a) (c.args.height + 1) c.args.self.now.below.items o.1))

pub returns-else-height-len-clause-meaning : goal.returns-else-height-len-clause-meaning
returns-else-height-len-clause-meaning c = λ a.
    let self = c.args.self.now in
    cut-nothing a.held self.around c.args.height self.top self.below.items (omega (arith, c.if-height-len.false, c.len.ensures, self.below.ok.0))
