use Rattle.std.proofs.Common.{subst, sym}
use Rattle.star_number.proofs.Kept.{Kept}
use Rattle.star_number.proofs.owned.number_owned.Goals as goal

pub returns-then-has_no_lambda : goal.returns-then-has_no_lambda
returns-then-has_no_lambda c = sym (subst (Kept c.args.file) c.get.ensures (c.has_no_lambda.ensures c.args.file c.if-has_no_lambda.true) c.args.next.now)
