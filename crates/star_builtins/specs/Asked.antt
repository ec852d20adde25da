-- What a call gives that may ask for keys, and rows over an arena before and after them.
use Rattle.std.specs.Prelude.{ℕ, nat_le, Bool, ◌&&◌, List, true, false, Option, None, Result, IfOk}
use Rattle.ytt_base.specs.declared.fault.FaultKind.TheVariants as kind
use Rattle.ytt_base.specs.declared.fault.Place.{Place}
use Rattle.ytt_base.specs.declared.fault.Stop.{Stop}
use Rattle.builtin_spec.specs.Sorting as plain
use Rattle.builtin_spec.specs.Sorting.{asks_keys, first_row, is_flag, is_key_function, is_true, keyed_builtin, keyed_by, members_taken, sorted_row, without_keys}
use Rattle.star_sorting.specs.View.{wanted_of}
use Rattle.star_steps.specs.Meets.{Gives, Meets, state_in}
use Rattle.star_values.specs.Objects.{Slots, seen}
use Rattle.star_values.specs.Owns.{Grows, Owns, OwnsAll}
use Rattle.star_values.specs.View.{View, arguments_in, fields_in, value_of, values_of}
use Rattle.star_values.specs.declared.value.CallArgs.{CallArgs}
use Rattle.star_values.specs.declared.value.Ref.{Ref}
use Rattle.star_values.specs.declared.value.Value.{Value as Held}
use Rattle.star_values.specs.declared.value.Value.TheVariants as held
use Rattle.text_spec.specs.Signatures.{value_at}
use Rattle.value_spec.specs.Numbers.{range_count}
use Rattle.value_spec.specs.Outcomes.{Computation, need, ◌>>=◌}
use Rattle.value_spec.specs.Values.{Arguments, Fields, Value, builtin, native_value, range_value}
use Rattle.star_builtins.specs.View.{Here}
use Rattle.star_builtins.specs.declared.asked.Asked.{Asked}
use Rattle.star_builtins.specs.declared.asked.Asked.TheVariants as asked
use Rattle.star_builtins.specs.declared.asked.KeyedBuiltin.{KeyedBuiltin}
use Rattle.star_builtins.specs.declared.asked.KeyedBuiltin.TheVariants as which

-- ---- rows that give a value

-- what a computation gives that goes on from an arena and so many steps
abbrev pub Yields : Computation Here Value → Result Held Stop → (before after : Slots) → (steps left : ℕ) → Type 0
Yields m result before after n k = Gives (m (state_in (seen before) n)) result (seen before) (seen after) k

-- what a call tells that leaves the arena as it is, seen by view
abbrev pub Tells : {A B : Type 0} → (A → B) → Computation Here B → Result A Stop → (now : Slots) → (steps left : ℕ) → Type 0
Tells view m result now n k = Meets view result (state_in (seen now) k) (m (state_in (seen now) n))

-- a row of a native and the arguments of its call
abbrev pub of_native : {A : Type 0} → (Place → Value → Arguments → Computation Here A) → Place → Slots → Ref → CallArgs → Computation Here A
of_native row p before r args = row p (value_of (seen before) (held.Native r)) (arguments_in (seen before).held args)

-- a row of the arguments by position and those by name
abbrev pub of_arguments : {A : Type 0} → View → CallArgs → (List Value → Fields → Computation Here A) → Computation Here A
of_arguments a args row = row (values_of a args.positional) (fields_in a.held args.named)

-- ---- what may ask for keys

-- a value, or what is wanted, the function that is asked, and the members
abbrev pub asked_in : View → Asked → plain.Keyed
asked_in a (asked.Value v) = without_keys (value_of a v)
asked_in a (asked.Keys w f ms) = asks_keys (wanted_of w) (value_of a f) (values_of a ms)

abbrev pub OwnsAsked : View → Asked → Type 0
OwnsAsked a (asked.Value v) = Owns a v
OwnsAsked a (asked.Keys w f ms) = Owns a f × OwnsAll a ms

-- The computation, which goes on from an arena and so many steps, ends so: what it gives is owned by the arena that is left, which has
-- grown from the one that was.
pub record GivesAsked (m : Computation Here plain.Keyed) (result : Result Asked Stop) (before after : View) (steps left : ℕ) : Type 0 where
  pub meaning : Meets (asked_in after) result (state_in after left) (m (state_in before steps))
  pub owns : IfOk result (OwnsAsked after)
  pub grows : Grows before after

-- the same of an arena before and after it
abbrev pub Asks : Computation Here plain.Keyed → Result Asked Stop → (before after : Slots) → (steps left : ℕ) → Type 0
Asks m result before after n k = GivesAsked m result (seen before) (seen after) n k

-- ---- the functions that may ask for keys

abbrev pub keyed_row : KeyedBuiltin → Place → Arguments → Computation Here plain.Keyed
keyed_row which.Sorted = sorted_row
keyed_row which.Min = first_row false
keyed_row which.Max = first_row true

-- such a function, if a value is one
abbrev pub row_with_keys : Value → Option (Place → Arguments → Computation Here plain.Keyed)
row_with_keys (native_value (builtin x)) = keyed_builtin x
row_with_keys _ = None

-- ---- their parts

-- `sorted` of the values of its parameters
abbrev pub ordered_row : Place → List Value → Computation Here plain.Keyed
ordered_row p os = do
  u ← need kind.ValueKind p (is_key_function (value_at 1 os) && is_flag (value_at 2 os))
  vs ← members_taken p (value_at 0 os)
  keyed_by p (record { first_alone = false; descending = is_true (value_at 2 os) }) (value_at 1 os) vs

-- a range has no more members than this
abbrev pub room_within : ℕ → Value → Bool
room_within n (range_value start stop step) = nat_le (range_count start stop step) n
room_within n _ = true

abbrev pub is_none : Held → Bool
is_none held.None = true
is_none _ = false
