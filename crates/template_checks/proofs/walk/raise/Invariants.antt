use Rattle.std.proofs.Common.{◌≡◌, ℕ, ◌+◌, ◌-◌, length}
use Rattle.template_checks.specs.Walk.{flag}
use Rattle.template_checks.proofs.walk.raise.Given as goal

abbrev pub invariant-loop-flags : goal.invariant-loop-flags
invariant-loop-flags l = (k : ℕ) → flag l.flags k ≡ flag l.initial.flags k

abbrev pub decreases-loop-flags : goal.decreases-loop-flags
decreases-loop-flags l = l.at + 1 - length l.flags
