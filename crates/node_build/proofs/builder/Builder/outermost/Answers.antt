use Rattle.std.proofs.Common.{sym}
use Rattle.node_build.proofs.Owned.{first_of}
use Rattle.node_build.proofs.Stacks.{finished-alone, finished-zero}
use Rattle.node_build.specs.View.{OwnsNode}
use Rattle.node_build.proofs.builder.Builder.outermost.Goals as goal

pub returns-then-is_empty-clause-children : goal.returns-then-is_empty-clause-children
returns-then-is_empty-clause-children c = λ a.
    let self = c.args.self in
    finished-alone a.held self.around self.top self.below.items _ self.below.ok.0 (sym c.if-is_empty.ensures)

pub returns-then-is_empty-clause-owned : goal.returns-then-is_empty-clause-owned
returns-then-is_empty-clause-owned c = λ a. λ o. o.0

pub returns-else-is_empty-clause-children : goal.returns-else-is_empty-clause-children
returns-else-is_empty-clause-children c = λ a.
    let self = c.args.self in
    finished-zero a.held self.around self.top c.swap_remove.result self.below.items _ self.below.ok.0 (sym c.if-is_empty.ensures) c.swap_remove.ensures.value

pub returns-else-is_empty-clause-owned : goal.returns-else-is_empty-clause-owned
returns-else-is_empty-clause-owned c = λ a. λ o.
    first_of (OwnsNode a) c.swap_remove.result c.args.self.below.items _ c.args.self.below.ok.0 (sym c.if-is_empty.ensures) c.swap_remove.ensures.value o.1
