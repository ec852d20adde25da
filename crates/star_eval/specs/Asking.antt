-- Keys that a function is asked for, and what a native of a host is asked for, over a machine.
use Rattle.std.specs.Prelude.{ℕ, List}
use Rattle.star_sorting.specs.View.{wanted_of}
use Rattle.star_sorting.specs.declared.wanted.Wanted.{Wanted}
use Rattle.star_values.specs.View.{value_of, values_of}
use Rattle.star_values.specs.declared.value.Value.{Value}
use Rattle.value_spec.specs.Outcomes.{Computation}
use Rattle.value_spec.specs.Values as plain
use Rattle.value_spec.specs.Values.{one_value}
use Rattle.ytt_base.specs.declared.fault.Place.{Place}
use Rattle.star_eval.specs.Calling.{calls_from}
use Rattle.star_eval.specs.Doing.{keys_then}
use Rattle.star_eval.specs.Meets.{Here}
use Rattle.star_eval.specs.View.{arena_in, setting_of}
use Rattle.star_eval.specs.declared.frame.Machine.{Machine}

-- what is wanted of members by these keys, and those that the function gives for the members that are left
abbrev pub keys_in : Machine → (left : ℕ) → Place → Wanted → (function : Value) → (members before : List Value) → Computation Here plain.Value
keys_in m left p w f vs ks = keys_then (setting_of m) left p (wanted_of w) (value_of (arena_in m) f) (values_of (arena_in m) vs) (values_of (arena_in m) ks)

-- a call with one argument by position
abbrev pub called_with : Machine → (left : ℕ) → Place → (function member : Value) → Computation Here plain.Value
called_with m left p f v = calls_from (setting_of m).function left p (value_of (arena_in m) f) (one_value (value_of (arena_in m) v))
