use Rattle.std.proofs.Common.{◌≡◌, length}
use Rattle.star_text.specs.ByName.{first_named}
use Rattle.star_text.proofs.by_name.first_value.Given as goal

-- what is left decides
abbrev pub invariant-loop-field : goal.invariant-loop-field
invariant-loop-field l = first_named l.name l.named ≡ first_named l.name l.rest

abbrev pub decreases-loop-field : goal.decreases-loop-field
decreases-loop-field l = length l.rest
