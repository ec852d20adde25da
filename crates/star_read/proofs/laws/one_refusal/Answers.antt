use Rattle.star_read.proofs.Refusing.{one_refusal}
use Rattle.star_read.proofs.laws.one_refusal.Goals as goal

pub returns : goal.returns
returns c = one_refusal
