use Rattle.std.proofs.Common.{◌≡◌, ◌++◌, ℕ, length}
use Rattle.code_spec.specs.Allowed.{parameter_names}
use Rattle.object_arena.specs.Names.{Grows, OwnsAll, OwnsEnv, env_in, seen, values_of}
use Rattle.star_spec.specs.Binding.{boxes_for}
use Rattle.star_steps.specs.Meets.{state_in}
use Rattle.star_tree.specs.Whole.{parameters_of}
use Rattle.value_spec.specs.Outcomes.{give, then_do}
use Rattle.star_calls.proofs.own.own_boxes.Given as goal

-- the boxes that were made, and those that are to come
abbrev pub invariant-loop-value : goal.invariant-loop-value
invariant-loop-value l = record {
  same : (file n : ℕ) → boxes_for (parameter_names (parameters_of file l.params)) (values_of (seen l.fn.arena) l.values) (state_in (seen l.fn.arena) n)
      ≡ then_do (boxes_for (parameter_names (parameters_of file l.left)) (values_of (seen l.arena) l.rest) (state_in (seen l.arena) n)) (λ more. give (env_in (seen l.arena).held l.made ++ more));
  made : OwnsEnv (seen l.arena) l.made;
  rest : OwnsAll (seen l.arena) l.rest;
  grows : Grows (seen l.fn.arena) (seen l.arena);
}

abbrev pub decreases-loop-value : goal.decreases-loop-value
decreases-loop-value l = length l.rest
