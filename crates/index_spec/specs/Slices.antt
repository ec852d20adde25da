-- `x[a:b:c]`, with bounds that are counted from the end where they are negative, and go no further than the ends.
use Rattle.std.specs.Prelude.{ℕ, zero, suc, ◌+◌, ℤ, pos, negsuc, ◌+ℤ◌, ◌-ℤ◌, int_lt, Bool, true, false, not, ◌&&◌, List, [], ◌∷◌, ◌++◌, length, Option, Some, None, slice_get, if◌then◌else◌}
use Rattle.ytt_base.specs.declared.fault.FaultKind.TheVariants as kind
use Rattle.ytt_base.specs.declared.fault.Place.{Place}
use Rattle.ytt_base.specs.Trees.{same_integer}
use Rattle.value_spec.specs.Values.{Value, none_value, int_value, text_value, tuple_value, list_value, values_in}
use Rattle.value_spec.specs.Keys.{text_cost}
use Rattle.value_spec.specs.Outcomes.{Computation, give, fail, need, paid_by, reads, new_list, ◌>>=◌}
use Rattle.value_spec.specs.Numbers.{at_least_zero, is_zero, range_count}
use Rattle.value_spec.specs.Store.{list_at}
use Rattle.operator_spec.specs.Operators.{tuple_of}
use Rattle.index_spec.specs.Index.{cut_text}

-- the parts of a slice, None where one is absent
pub record Cut : Type 0 where
  pub from : Value
  pub to : Value
  pub step : Value

-- None, or an integer
abbrev pub is_bound : Value → Bool
is_bound none_value = true
is_bound (int_value z) = true
is_bound _ = false

abbrev pub step_in : Value → ℤ
step_in (int_value z) = z
step_in _ = pos 1

abbrev pub has_bounds : Cut → Bool
has_bounds c = is_bound c.from && (is_bound c.to && (is_bound c.step && not (is_zero (step_in c.step))))

-- ---- places

-- a number, no further down or up than this
abbrev pub between : (low high : ℤ) → ℤ → ℤ
between low high z = if int_lt z low then low else if int_lt high z then high else z

-- from the end of so many members, where it is negative
abbrev pub from_end : ℕ → ℤ → ℤ
from_end n (pos i) = pos i
from_end n (negsuc i) = negsuc i +ℤ pos n

abbrev pub bound_or : (absent low high : ℤ) → ℕ → Value → ℤ
bound_or absent low high n (int_value z) = between low high (from_end n z)
bound_or absent low high n _ = absent

-- Upwards the bounds are from 0 to the count; downwards they are one less, so that the end of the whole slice stands before
-- the first member.
abbrev pub first_place : (step : ℤ) → ℕ → Value → ℤ
first_place (pos s) n v = bound_or (pos 0) (pos 0) (pos n) n v
first_place (negsuc s) n v = bound_or (pos n -ℤ pos 1) (negsuc 0) (pos n -ℤ pos 1) n v

abbrev pub end_place : (step : ℤ) → ℕ → Value → ℤ
end_place (pos s) n v = bound_or (pos n) (pos 0) (pos n) n v
end_place (negsuc s) n v = bound_or (negsuc 0) (negsuc 0) (pos n -ℤ pos 1) n v

-- the places of a slice: the first, the one before which they end, and the step
pub record Places : Type 0 where
  pub first : ℤ
  pub end : ℤ
  pub step : ℤ

abbrev pub places_of : ℕ → Cut → Places
places_of n c = record { first = first_place (step_in c.step) n c.from; end = end_place (step_in c.step) n c.to; step = step_in c.step }

abbrev pub place_count : Places → ℕ
place_count q = range_count q.first q.end q.step

-- ---- what stands there

abbrev pub and_more : {A : Type 0} → Option A → List A → List A
and_more None more = more
and_more (Some v) more = v ∷ more

-- so many members, from a place on
abbrev pub picked : {A : Type 0} → List A → ℕ → (place step : ℤ) → List A
picked vs zero z step = []
picked vs (suc n) z step = and_more (slice_get vs (at_least_zero z)) (picked vs n (z +ℤ step) step)

abbrev pub members_cut : {A : Type 0} → List A → Places → List A
members_cut vs q = picked vs (place_count q) q.first q.step

-- so many bytes, each of which is a whole character
abbrev pub picked_bytes : {H : Type 0} → Place → List ℕ → ℕ → (place step : ℤ) → Computation H (List ℕ)
picked_bytes p t zero z step = give []
picked_bytes p t (suc n) z step = do
  c ← cut_text p t (at_least_zero z) (suc (at_least_zero z))
  more ← picked_bytes p t n (z +ℤ step) step
  give (c ++ more)

-- Bytes one after another are cut as a whole, and each stands alone otherwise.
abbrev pub bytes_cut : {H : Type 0} → Place → List ℕ → Places → Computation H (List ℕ)
bytes_cut p t q =
    if same_integer q.step (pos 1) then cut_text p t (at_least_zero q.first) (at_least_zero q.first + place_count q)
    else picked_bytes p t (place_count q) q.first q.step

-- ---- all kinds

abbrev pub text_slice : {H : Type 0} → Place → List ℕ → Places → Computation H Value
text_slice p t q = paid_by (text_cost (length t + place_count q)) p (bytes_cut p t q >>= λ c. give (text_value c))

abbrev pub members_slice : {H : Type 0} → Place → List Value → Places → (List Value → Computation H Value) → Computation H Value
members_slice p vs q make = paid_by (length vs + place_count q) p (make (members_cut vs q))

abbrev pub give_tuple : {H : Type 0} → List Value → Computation H Value
give_tuple vs = give (tuple_of vs)

abbrev pub cut_row : {H : Type 0} → Place → Value → Cut → Computation H Value
cut_row p (text_value t) c = text_slice p t (places_of (length t) c)
cut_row p (tuple_value vs) c = members_slice p (values_in vs) (places_of (length (values_in vs)) c) give_tuple
cut_row p (list_value r) c = reads (list_at r) >>= λ vs. members_slice p vs (places_of (length vs) c) new_list
cut_row p v c = fail kind.ValueKind p

-- the kinds of the parts are tested first, and that the step isn't 0
abbrev pub slice_row : {H : Type 0} → Place → Value → Cut → Computation H Value
slice_row p v c = need kind.ValueKind p (has_bounds c) >>= λ u. cut_row p v c
