use Rattle.std.proofs.Common.{sym, subst}
use Rattle.node_build.specs.View.{OwnsNodes}
use Rattle.node_build.proofs.builder.Builder.take.Goals as goal

pub returns-clause-owned : goal.returns-clause-owned
returns-clause-owned c = λ a o. rw c.into_items.ensures (c.outermost.ensures.owned a (subst (OwnsNodes a) (sym c.replace.ensures.value) o)).2

pub returns-clause-fresh : goal.returns-clause-fresh
returns-clause-fresh c = λ a. subst (OwnsNodes a) (sym c.replace.ensures.after) (c.new.ensures.owned a)
