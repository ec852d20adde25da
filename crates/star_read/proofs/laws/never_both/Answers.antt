use Rattle.star_read.proofs.Deciding.{never_both}
use Rattle.star_read.proofs.laws.never_both.Goals as goal

pub returns : goal.returns
returns c = never_both
