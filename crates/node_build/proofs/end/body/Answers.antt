use Rattle.node_build.proofs.Owned.{list_held, map_held}
use Rattle.node_build.proofs.end.body.Goals as goal

pub returns-in-Map-clause-owned : goal.returns-in-Map-clause-owned
returns-in-Map-clause-owned c = λ a f o. map_held a c.args.children o

pub returns-in-List-clause-owned : goal.returns-in-List-clause-owned
returns-in-List-clause-owned c = λ a f o. list_held a c.args.children o
