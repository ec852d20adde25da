-- How a change of a list or a dict ends, and what bounds of a search are.
use Rattle.std.specs.Prelude.{◌≡◌, ℤ, true, false, Option, Some, None, unwrap_or, Result, Ok, Err}
use Rattle.ytt_base.specs.declared.fault.Place.{Place}
use Rattle.ytt_base.specs.declared.fault.Stop.{Stop}
use Rattle.builtin_spec.specs.Lists.{bound_in}
use Rattle.index_spec.specs.Slices.{is_bound}
use Rattle.star_steps.specs.Meets.{stop_of}
use Rattle.star_values.specs.declared.object.ArenaStop.{ArenaStop}
use Rattle.star_values.specs.declared.value.Value.{Value}
use Rattle.star_values.specs.declared.value.Value.TheVariants as value
use Rattle.value_spec.specs.Values as plain

-- None, or the refusal at a place
abbrev pub changed_to : Place → Result (Unit {0}) ArenaStop → Result Value Stop
changed_to p (Ok u) = Ok value.None
changed_to p (Err e) = Err (stop_of p e)

-- a bound that is read: none, a number, or neither
abbrev pub IsBound : Option (Option ℤ) → plain.Value → Type 0
IsBound None v = is_bound v ≡ false
IsBound (Some o) v = (is_bound v ≡ true) × ((absent : ℤ) → bound_in absent v ≡ unwrap_or o absent)
