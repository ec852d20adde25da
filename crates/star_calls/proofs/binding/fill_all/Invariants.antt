use Rattle.std.proofs.Common.{◌≡◌, ℕ, length}
use Rattle.object_arena.specs.Names.{Grows, seen}
use Rattle.star_steps.specs.Meets.{state_in}
use Rattle.star_tree.specs.Whole.{parameters_of}
use Rattle.star_calls.specs.Left.{OwnsRest, completed, rest_of}
use Rattle.star_calls.proofs.binding.fill_all.Given as goal

-- what is to be completed is what was to be
abbrev pub invariant-loop-param : goal.invariant-loop-param
invariant-loop-param l = record {
  same : (file n : ℕ) → completed l.at (parameters_of file l.params) (rest_of (seen l.fn.arena) l.fn.left) (state_in (seen l.fn.arena) n) ≡ completed l.at (parameters_of file l.rest) (rest_of (seen l.arena) l.left) (state_in (seen l.arena) n);
  owns : OwnsRest (seen l.arena) l.left;
  grows : Grows (seen l.fn.arena) (seen l.arena);
}

abbrev pub decreases-loop-param : goal.decreases-loop-param
decreases-loop-param l = length l.rest
