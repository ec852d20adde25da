use Rattle.std.proofs.Common.{◌≡◌, ◌++◌, length}
use Rattle.mod_basic.proofs.fields.copied_pairs.Given as goal

abbrev pub invariant-loop-key : goal.invariant-loop-key
invariant-loop-key l = l.all ++ l.rest ≡ l.fn.pairs

abbrev pub decreases-loop-key : goal.decreases-loop-key
decreases-loop-key l = length l.rest
