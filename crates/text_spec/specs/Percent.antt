-- `%` with a text at the left: each conversion is filled by the next of the values at the right.
use Rattle.std.specs.Prelude.{ℕ, suc, ℤ, pos, negsuc, nat_le, ◌==◌, Bool, true, false, ◌&&◌, List, [], ◌∷◌, ◌++◌, length, if◌then◌else◌}
use Rattle.std.specs.Fmt.{digits}
use Rattle.ytt_base.specs.declared.fault.FaultKind.TheVariants as kind
use Rattle.ytt_base.specs.declared.fault.Place.{Place}
use Rattle.index_spec.specs.KeyTexts.{integer_text}
use Rattle.value_spec.specs.Outcomes.{Computation, fail, give, ◌>>=◌}
use Rattle.value_spec.specs.Values.{Value, int_value, text_value, tuple_value, values_in}
use Rattle.text_spec.specs.Answers.{paid_operation}
use Rattle.text_spec.specs.Shown.{repr_of, str_of}

-- a text, and then another
abbrev pub text_before : {H : Type 0} → List ℕ → Computation H (List ℕ) → Computation H (List ℕ)
text_before t m = m >>= λ more. give (t ++ more)

-- ---- conversions

-- `%s`, `%r`; an integer by `%d`, `%x`, `%X`, `%o`; `%%`; `%e`, `%f`, `%g`, which are of floats; and any other
pub data Conversion : Type 0 where
  by_str : Conversion
  by_repr : Conversion
  by_decimal : Conversion
  by_base : (base : ℕ) → (capitals : Bool) → Conversion
  percent_sign : Conversion
  of_float : Conversion
  no_conversion : Conversion

abbrev pub conversion_of : ℕ → Conversion
conversion_of b =
    if b == 37 then percent_sign
    else if b == 115 then by_str
    else if b == 114 then by_repr
    else if b == 100 then by_decimal
    else if b == 120 then by_base 16 false
    else if b == 88 then by_base 16 true
    else if b == 111 then by_base 8 false
    else if nat_le 101 b && nat_le b 103 then of_float
    else no_conversion

-- an integer in a base, with a sign before it where it is negative
abbrev pub in_base : ℕ → Bool → ℤ → List ℕ
in_base base capitals (pos n) = digits base capitals n
in_base base capitals (negsuc n) = 45 ∷ digits base capitals (suc n)

abbrev pub integer_by : {H : Type 0} → (ℤ → List ℕ) → Place → Value → Computation H (List ℕ)
integer_by f p (int_value z) = give (f z)
integer_by f p _ = fail kind.ValueKind p

abbrev pub converted : {H : Type 0} → Place → Conversion → Value → Computation H (List ℕ)
converted p by_str v = str_of p v
converted p by_repr v = repr_of p v
converted p by_decimal v = integer_by integer_text p v
converted p (by_base base capitals) v = integer_by (in_base base capitals) p v
converted p _ v = fail kind.ValueKind p

-- ---- the text

-- a conversion takes the next value
abbrev pub by_next : {H : Type 0} → Place → Conversion → List Value → (List Value → Computation H (List ℕ)) → Computation H (List ℕ)
by_next p c [] k = fail kind.ValueKind p
by_next p c (v ∷ vs) k = converted p c v >>= λ t. text_before t (k vs)

abbrev pub by_conversion : {H : Type 0} → Place → Conversion → List Value → (List Value → Computation H (List ℕ)) → Computation H (List ℕ)
by_conversion p percent_sign vs k = text_before (37 ∷ []) (k vs)
by_conversion p of_float vs k = fail kind.FloatRefused p
by_conversion p no_conversion vs k = fail kind.ValueKind p
by_conversion p c vs k = by_next p c vs k

-- at the end no value may be left
abbrev pub at_end : {H : Type 0} → Place → List Value → Computation H (List ℕ)
at_end p [] = give []
at_end p (v ∷ vs) = fail kind.ValueKind p

-- the text from here on, with the values that are left
abbrev pub filled : {H : Type 0} → Place → List ℕ → List Value → Computation H (List ℕ)
filled p [] vs = at_end p vs
filled p (b ∷ []) vs = if b == 37 then fail kind.ValueKind p else text_before (b ∷ []) (at_end p vs)
filled p (b ∷ c ∷ t) vs = if b == 37 then by_conversion p (conversion_of c) vs (filled p t) else text_before (b ∷ []) (filled p (c ∷ t) vs)

-- the members of a tuple, or one value
abbrev pub values_for : Value → List Value
values_for (tuple_value vs) = values_in vs
values_for v = v ∷ []

abbrev pub percent_row : {H : Type 0} → Place → List ℕ → Value → Computation H Value
percent_row p t v = filled p t (values_for v) >>= λ r. paid_operation p (text_value t ∷ v ∷ []) (length r) 0 (give (text_value r))
