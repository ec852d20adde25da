use Rattle.star_read.proofs.Deciding.{one_tree}
use Rattle.star_read.proofs.laws.one_tree.Goals as goal

pub returns : goal.returns
returns c = one_tree
