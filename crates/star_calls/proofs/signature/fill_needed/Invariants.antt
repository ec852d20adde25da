use Rattle.std.proofs.Common.{◌≡◌, ℕ, drop, map as each}
use Rattle.object_arena.specs.Names.{seen}
use Rattle.star_steps.specs.Meets.{state_in}
use Rattle.value_spec.specs.Binding.{parameters_named}
use Rattle.star_calls.specs.Left.{OwnsRest, completed, rest_of}
use Rattle.star_calls.proofs.signature.fill_needed.Given as goal

-- what is to be completed is what was to be
abbrev pub invariant-loop-name : goal.invariant-loop-name
invariant-loop-name l = record {
  same : (n : ℕ) → completed l.at (parameters_named (each (λ w. w.now) l.needed) (each (λ w. w.now) l.optional)) (rest_of (seen l.arena) l.fn.left) (state_in (seen l.arena) n) ≡ completed l.at (parameters_named (each (λ w. w.now) (drop l.name-index l.needed)) (each (λ w. w.now) l.optional)) (rest_of (seen l.arena) l.left) (state_in (seen l.arena) n);
  owns : OwnsRest (seen l.arena) l.left;
}
