use Rattle.std.proofs.Common.{◌≡◌, ℕ, ◌+◌, ◌≤◌, length}
use Rattle.text_spec.specs.Cutting.{pieces}
use Rattle.text_pieces.proofs.between.count_places.Given as goal

abbrev pub invariant-loop-at : goal.invariant-loop-at
invariant-loop-at l = record {
  within : l.count + length l.rest ≤ length l.text;
  same : (n : ℕ) → l.count + length (pieces l.part n l.rest) ≡ length (pieces l.part (l.count + n) l.text);
}

abbrev pub decreases-loop-at : goal.decreases-loop-at
decreases-loop-at l = length l.rest
