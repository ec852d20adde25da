-- How many tuples the members of several values make, and their steps.
use Rattle.std.specs.Prelude.{ℕ, ◌+◌, List, map as each}
use Rattle.ytt_base.specs.declared.fault.Place.{Place}
use Rattle.builtin_spec.specs.Builtins.{least_of, sum_of}
use Rattle.star_values.specs.View.{View, values_of}
use Rattle.star_values.specs.declared.value.Value.{Value}
use Rattle.value_spec.specs.Members.{count_in}
use Rattle.value_spec.specs.Outcomes.{Computation, give, paid_by}

-- how many members each value has
abbrev pub counts_of : View → List Value → List ℕ
counts_of a vs = each (count_in a.store) (values_of a vs)

-- how many tuples there are, after a step for each member and for each tuple
abbrev pub turns_paid : Place → List ℕ → Computation (Unit {0}) ℕ
turns_paid p ns = paid_by (sum_of ns + least_of ns) p (give (least_of ns))
