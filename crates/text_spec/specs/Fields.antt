-- The method `format`: each field in braces is filled by an argument, by turn, by number or by name.
use Rattle.std.specs.Prelude.{ℕ, zero, suc, ◌+◌, ◌-◌, ◌*◌, ◌==◌, Bool, true, false, not, ◌&&◌, ◌||◌, List, [], ◌∷◌, ◌++◌, length, Option, Some, None, bytes_eq, codes, slice_get, if◌then◌else◌}
use Rattle.ytt_base.specs.declared.fault.FaultKind.TheVariants as kind
use Rattle.ytt_base.specs.declared.fault.Place.{Place}
use Rattle.code_spec.specs.Code.{Name}
use Rattle.value_spec.specs.Binding.{field_of, has_twice}
use Rattle.value_spec.specs.Outcomes.{Computation, fail, fail_with, give, need, ◌>>=◌}
use Rattle.value_spec.specs.Values.{Value, text_value, Values, values_in, Fields, no_fields, a_field, Arguments, arguments}
use Rattle.text_spec.specs.Answers.{paid_operation}
use Rattle.text_spec.specs.Classes.{every, is_digit, is_letter_or_digit}
use Rattle.text_spec.specs.Percent.{Conversion, by_str, by_repr, no_conversion, converted, text_before}

-- ---- a field

-- the bytes up to this one, and what stands behind it
abbrev pub onto_first : ℕ → Option (List ℕ × List ℕ) → Option (List ℕ × List ℕ)
onto_first b None = None
onto_first b (Some q) = Some (b ∷ q.0, q.1)

abbrev pub cut_at : ℕ → List ℕ → Option (List ℕ × List ℕ)
cut_at x [] = None
cut_at x (b ∷ t) = if b == x then Some ([], t) else onto_first b (cut_at x t)

-- `!s`, `!r`, or nothing
abbrev pub conversion_named : List ℕ → Conversion
conversion_named t = if bytes_eq t (codes "s") then by_str else if bytes_eq t (codes "r") then by_repr else no_conversion

-- which argument fills a field: the next one, that of a number, that of a name; or none
pub data Which : Type 0 where
  next_one : Which
  numbered : ℕ → Which
  named : Name → Which
  no_which : Which

-- a number in decimal digits
abbrev pub digits_number : (so_far : ℕ) → List ℕ → ℕ
digits_number n [] = n
digits_number n (b ∷ t) = digits_number (n * 10 + (b - 48)) t

-- a letter or `_`, and then letters, digits and `_`
abbrev pub is_name_byte : ℕ → Bool
is_name_byte b = is_letter_or_digit b || b == 95

abbrev pub which_of : List ℕ → Which
which_of [] = next_one
which_of (b ∷ t) =
    if every is_digit (b ∷ t) then numbered (digits_number 0 (b ∷ t))
    else if not (is_digit b) && every is_name_byte (b ∷ t) then named (b ∷ t)
    else no_which

pub record Field : Type 0 where
  pub which : Which
  pub conversion : Conversion

abbrev pub field_by : List ℕ → Option (List ℕ × List ℕ) → Field
field_by t None = record { which = which_of t; conversion = by_str }
field_by t (Some q) = record { which = which_of q.0; conversion = conversion_named q.1 }

-- what stands between braces: which argument, and how it is shown, behind a `!`
abbrev pub field_in : List ℕ → Field
field_in t = field_by t (cut_at 33 t)

-- ---- the argument of a field

-- which kinds of fields were met: none so far, so many by turn, or those by number
pub data Met : Type 0 where
  none_met : Met
  by_turn : ℕ → Met
  by_number : Met

abbrev pub found : {H A : Type 0} → Computation H (A × Met) → Option A → Met → Computation H (A × Met)
found otherwise None met = otherwise
found otherwise (Some v) met = give (v, met)

abbrev pub at_place : {H : Type 0} → Place → ℕ → Met → List Value → Computation H (Value × Met)
at_place p n met vs = found (fail kind.IndexRange p) (slice_get vs n) met

-- fields by turn and fields by number don't stand in one text
abbrev pub argument_for : {H : Type 0} → Place → Values → Fields → Met → Which → Computation H (Value × Met)
argument_for p vs fs none_met next_one = at_place p 0 (by_turn 1) (values_in vs)
argument_for p vs fs (by_turn n) next_one = at_place p n (by_turn (suc n)) (values_in vs)
argument_for p vs fs by_number next_one = fail kind.ValueKind p
argument_for p vs fs none_met (numbered k) = at_place p k by_number (values_in vs)
argument_for p vs fs (by_turn n) (numbered k) = fail kind.ValueKind p
argument_for p vs fs by_number (numbered k) = at_place p k by_number (values_in vs)
argument_for p vs fs met (named x) = found (fail_with kind.KeyMissing p x) (field_of x fs) met
argument_for p vs fs met no_which = fail kind.ValueKind p

abbrev pub is_shown : Conversion → Bool
is_shown by_str = true
is_shown by_repr = true
is_shown _ = false

abbrev pub field_filled : {H : Type 0} → Place → Values → Fields → Met → Field → Computation H (List ℕ × Met)
field_filled p vs fs met f = do
  u ← need kind.ValueKind p (is_shown f.conversion)
  v ← argument_for p vs fs met f.which
  t ← converted p f.conversion v.0
  give (t, v.1)

-- ---- the text

abbrev pub begins : ℕ → List ℕ → Bool
begins b [] = false
begins b (c ∷ t) = b == c

-- a field, and then the text behind it, so many bytes further on
abbrev pub opened : {H : Type 0} → Place → Values → Fields → Met → Option (List ℕ × List ℕ) → (Met → ℕ → Computation H (List ℕ)) → Computation H (List ℕ)
opened p vs fs met None rest = fail kind.ValueKind p
opened p vs fs met (Some q) rest = field_filled p vs fs met (field_in q.0) >>= λ r. text_before r.0 (rest r.1 (suc (length q.0)))

-- The text from here on, behind so many bytes that are passed over. Two braces of a kind are one brace; a field goes up to the
-- next `}`.
abbrev pub formatted : {H : Type 0} → Place → Values → Fields → Met → (skip : ℕ) → List ℕ → Computation H (List ℕ)
formatted p vs fs met k [] = give []
formatted p vs fs met (suc k) (b ∷ t) = formatted p vs fs met k t
formatted p vs fs met zero (b ∷ t) =
    if b == 123 || b == 125 then
    (if begins b t then text_before (b ∷ []) (formatted p vs fs met 1 t)
    else if b == 125 then fail kind.ValueKind p
    else opened p vs fs met (cut_at 125 t) (λ m k. formatted p vs fs m k t))
    else text_before (b ∷ []) (formatted p vs fs met 0 t)

abbrev pub values_of_fields : Fields → List Value
values_of_fields no_fields = []
values_of_fields (a_field x v fs) = v ∷ values_of_fields fs

-- no name may be given twice
abbrev pub format : {H : Type 0} → Place → List ℕ → Arguments → Computation H Value
format p t (arguments vs fs) = do
  u ← need kind.ArgBind p (not (has_twice fs))
  r ← formatted p vs fs none_met 0 t
  paid_operation p (text_value t ∷ (values_in vs ++ values_of_fields fs)) (length r) 0 (give (text_value r))
