use Rattle.std.proofs.Common.{drop, map as each}
use Rattle.star_values.specs.Objects.{seen}
use Rattle.load_names.proofs.Making.{Made}
use Rattle.load_names.proofs.module_values.make_calls.Given as goal

-- the calls before the index are made
abbrev pub invariant-loop-call : goal.invariant-loop-call
invariant-loop-call l = Made l.of (each (λ c. c.now) l.calls) (each (λ c. c.now) (drop l.call-index l.calls)) l.made (seen l.fn.arena) (seen l.arena)
