use Rattle.std.proofs.Common.{rules}
use Rattle.star_values.specs.Objects.{seen, view_of}
use Rattle.object_arena.proofs.arena.Arena.new.Goals as goal

pub invariant_of-result : goal.invariant_of-result
invariant_of-result c = rw (c.new.ensures.empty, c.new-2.ensures.items) (record { held = tt; once = λ i j x k e f. absurd (search (rules, e)); objects = tt })

pub returns : goal.returns
unfolding seen
returns c = λ i. view_of (c.new.ensures.empty i) (c.new-2.ensures.items i)
