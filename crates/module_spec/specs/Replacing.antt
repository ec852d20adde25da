-- What stands in the place of an item.
use Rattle.std.specs.Prelude.{[], ◌∷◌}
use Rattle.ytt_base.specs.declared.fault.Place.{Place}
use Rattle.text_spec.specs.Answers.{paid_operation}
use Rattle.value_spec.specs.Outcomes.{Computation, give}
use Rattle.value_spec.specs.Values.{Value, native_value, replacement}

-- A native that holds the value. What an item gives whose value it is are the value's children.
abbrev pub replace : {H : Type 0} → Place → Value → Computation H Value
replace p v = paid_operation p (v ∷ []) 0 0 (give (native_value (replacement v)))
