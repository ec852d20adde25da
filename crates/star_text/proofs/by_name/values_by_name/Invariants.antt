use Rattle.std.proofs.Common.{length}
use Rattle.star_text.proofs.FirstNamed.{Behind}
use Rattle.star_text.proofs.by_name.values_by_name.Given as goal

abbrev pub invariant-loop-field : goal.invariant-loop-field
invariant-loop-field l = Behind l.values l.rest l.named

abbrev pub decreases-loop-field : goal.decreases-loop-field
decreases-loop-field l = length l.rest
