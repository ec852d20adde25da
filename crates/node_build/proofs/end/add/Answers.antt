use Rattle.std.proofs.Common.{subst}
use Rattle.node_build.specs.View.{OwnsFilled}
use Rattle.node_build.proofs.end.add.Goals as goal

pub returns-clause-owned : goal.returns-clause-owned
returns-clause-owned c = λ a n o. c.add_many.ensures.owned a (rw c.as_slice.ensures (subst (OwnsFilled a) c.in-Many.is n.1)) o
