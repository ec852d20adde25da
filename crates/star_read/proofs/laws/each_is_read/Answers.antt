use Rattle.star_read.proofs.Deciding.{each_is_read}
use Rattle.star_read.proofs.laws.each_is_read.Goals as goal

pub returns : goal.returns
returns c = each_is_read
