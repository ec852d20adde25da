use denote.Shadow.{shadow}
use denote.Text.{Utf8}
use Rattle.std.proofs.Common.{◌≡◌, length}
use Rattle.world_spec.specs.Paths.{have_dots, parts_of}
use Rattle.load_names.proofs.paths.has_dots.Given as goal

-- the parts that are left have dots just where all have
abbrev pub invariant-loop-part : goal.invariant-loop-part
invariant-loop-part l = shadow (Utf8 l.rest) × (have_dots (parts_of l.path) ≡ have_dots (parts_of l.rest))

abbrev pub decreases-loop-part : goal.decreases-loop-part
decreases-loop-part l = length l.rest
