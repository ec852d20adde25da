use Rattle.std.proofs.Common.{ℕ, drop}
use Rattle.star_number.proofs.Kept.{AllKept}
use Rattle.star_number.proofs.owned.+seen.Given as goal

abbrev pub invariant-none_has_lambda-loop-expr : goal.invariant-none_has_lambda-loop-expr
invariant-none_has_lambda-loop-expr l = (file : ℕ) → AllKept file (drop l.expr-index l.exprs) → AllKept file l.exprs
