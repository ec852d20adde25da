use Rattle.std.proofs.Common.{length}
use Rattle.test_values.proofs.owned.+are_plain_keys.Given as goal

abbrev pub decreases-are_plain_keys : goal.decreases-are_plain_keys
decreases-are_plain_keys l = length l.values.now
