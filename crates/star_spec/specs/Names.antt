-- The names of scopes: their boxes, and what is read and written by a name. Which names of the language are values.
use Rattle.std.specs.Prelude.{ℕ, true, false, List, [], ◌∷◌, Option, Some, None, if◌then◌else◌, bytes_eq, codes}
use Rattle.ytt_base.specs.declared.fault.FaultKind.TheVariants as kind
use Rattle.ytt_base.specs.declared.fault.Place.{Place}
use Rattle.code_spec.specs.Code.{Name}
use Rattle.value_spec.specs.Values.{Value, none_value, bool_value, native_value, builtin, Env, of_box}
use Rattle.value_spec.specs.Outcomes.{done, Computation, give, fail_with, on_store, reads, new_object, ◌>>=◌}
use Rattle.value_spec.specs.Store.{box_at, change, with_contents}
use Rattle.code_spec.specs.Names.{own_functions, is_among}

-- ---- the names of the language

-- those that are values
abbrev pub constant : Name → Option Value
constant x =
    if bytes_eq x (codes "None") then Some none_value
    else if bytes_eq x (codes "True") then Some (bool_value true)
    else if bytes_eq x (codes "False") then Some (bool_value false)
    else None

-- ---- boxes

-- the box of a name
abbrev pub box_of : Name → Env → Option ℕ
box_of x [] = None
box_of x (b ∷ env) = if bytes_eq b.0 x then Some b.1 else box_of x env

-- a box without a value for a name that has none yet
abbrev pub with_box : {H : Type 0} → Name → Env → Option ℕ → Computation H Env
with_box x env (Some r) = give env
with_box x env None = new_object (of_box None) >>= λ r. give ((x, r) ∷ env)

abbrev pub with_boxes : {H : Type 0} → List Name → Env → Computation H Env
with_boxes [] env = give env
with_boxes (x ∷ xs) env = with_box x env (box_of x env) >>= with_boxes xs

abbrev pub value_or_unset : {H : Type 0} → Place → Name → Option Value → Computation H Value
value_or_unset p x None = fail_with kind.NameUnset p x
value_or_unset p x (Some v) = give v

-- a name that has no box: a value of the language, or one of its own functions
abbrev pub unbound : {H : Type 0} → Place → Name → Option Value → Computation H Value
unbound p x (Some v) = give v
unbound p x None = if is_among x own_functions then give (native_value (builtin x)) else fail_with kind.NameUnknown p x

-- the value of a name, by its box, or of one of the language's
abbrev pub read_name : {H : Type 0} → Place → Name → Option ℕ → Computation H Value
read_name p x None = unbound p x (constant x)
read_name p x (Some r) = reads (box_at r) >>= value_or_unset p x

-- a box gets a value, whatever its marks say
abbrev pub fill_box : {H : Type 0} → ℕ → Value → Computation H (Unit {0})
fill_box r v = λ s. done tt (on_store (change (with_contents (of_box (Some v))) r) s)

abbrev pub write_name : {H : Type 0} → Place → Name → Value → Option ℕ → Computation H (Unit {0})
write_name p x v None = fail_with kind.NameUnknown p x
write_name p x v (Some r) = fill_box r v
