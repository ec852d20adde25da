use Rattle.node_build.proofs.Owned.{item_owned}
use Rattle.node_build.proofs.end.closed.Goals as goal

pub returns-clause-owned : goal.returns-clause-owned
returns-clause-owned c = λ a o. item_owned a _ o.0 (c.body.ensures.owned a o.1 (rw c.from_vec.ensures o.2))
