use Rattle.std.proofs.Common.{◌≡◌, ◌+◌, ℕ, length}
use Rattle.star_steps.proofs.Names.{OwnsAll, seen, value_of, values_of, ◌∷◌}
use Rattle.text_spec.specs.Answers.{all_bytes, all_members}
use Rattle.star_text.specs.View.{IsCount}
use Rattle.star_text.proofs.costs.pay_operation.Given as goal

-- what is counted so far, and what the rest has
abbrev pub invariant-loop-first : goal.invariant-loop-first
invariant-loop-first l = record {
  bytes : (b : ℕ) → IsCount l.fn.bytes b → (n : ℕ) × IsCount l.all_bytes n × (n + all_bytes (values_of (seen l.arena) l.rest) ≡ all_bytes (value_of (seen l.arena) l.fn.value ∷ values_of (seen l.arena) l.others) + b);
  members : (m : ℕ) → IsCount l.fn.members m → (n : ℕ) × IsCount l.all_members n × (n + all_members (seen l.arena).store (values_of (seen l.arena) l.rest) ≡ all_members (seen l.arena).store (value_of (seen l.arena) l.fn.value ∷ values_of (seen l.arena) l.others) + m);
  owns : OwnsAll (seen l.arena) l.rest;
}

abbrev pub decreases-loop-first : goal.decreases-loop-first
decreases-loop-first l = length l.rest
