use Rattle.star_steps.proofs.Names.{◌≡◌, ℕ, equal_members, seen, state_in}
use Rattle.star_compare.specs.Alike.{alike, numbers_from}
use Rattle.star_compare.proofs.Numbers.{numbers_left}
use Rattle.star_compare.proofs.equality.numbers_equal.Given as goal

-- what is left of the numbers decides
abbrev pub invariant-loop-number : goal.invariant-loop-number
invariant-loop-number l = (k : ℕ) → equal_members (alike k l.place) l.place (numbers_from l.left) (numbers_from l.right) (state_in (seen l.arena) l.initial.steps) ≡ numbers_left k l.place l.left l.right l.count l.number (state_in (seen l.arena) l.steps)
