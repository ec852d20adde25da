-- How the text of `%` or `format` goes on behind what was made so far.
use Rattle.std.specs.Prelude.{◌≡◌, ◌≤◌, ◌∷◌, ℕ, List, [], Result, Ok, Err, Bool, true, false}
use Rattle.ytt_base.specs.declared.fault.Stop.{Stop}
use Rattle.ytt_base.specs.declared.fault.Stop.TheVariants as stop
use Rattle.text_spec.specs.Percent as percent
use Rattle.text_spec.specs.Percent.{conversion_of}
use Rattle.value_spec.specs.Outcomes.{Ending, State, bad}
use Rattle.star_text.specs.declared.percent.Conversion.{Conversion}
use Rattle.star_text.specs.declared.percent.Conversion.TheVariants as conversion

-- a call returned what is left, and the whole is what goes on from there; or it ended as the whole does
abbrev pub GoesOn : {A : Type 0} → Result A Stop → (whole : Ending (Unit {0}) (List ℕ)) → (A → Ending (Unit {0}) (List ℕ)) → State (Unit {0}) → Type 0
GoesOn (Ok x) whole rest s = whole ≡ rest x
GoesOn (Err (stop.Fault f)) whole rest s = whole ≡ bad f s
GoesOn (Err stop.Memory) whole rest s = Unit {0}

abbrev pub conversion_in : Conversion → percent.Conversion
conversion_in conversion.Str = percent.by_str
conversion_in conversion.Repr = percent.by_repr
conversion_in conversion.Decimal = percent.by_decimal
conversion_in conversion.Hexadecimal = percent.by_base 16 false
conversion_in conversion.Capitals = percent.by_base 16 true
conversion_in conversion.Octal = percent.by_base 8 false
conversion_in conversion.Percent = percent.percent_sign
conversion_in conversion.Float = percent.of_float

abbrev pub takes_value : Conversion → Bool
takes_value conversion.Percent = false
takes_value conversion.Float = false
takes_value _ = true

abbrev pub is_of_float : Conversion → Bool
is_of_float conversion.Float = true
is_of_float _ = false

-- a text is empty, or begins with a byte beyond ASCII
abbrev pub BeginsHigh : List ℕ → Type 0
BeginsHigh [] = Unit {0}
BeginsHigh (b ∷ t) = 128 ≤ b

-- what stands behind a `%` is no conversion
abbrev pub NoConversion : List ℕ → Type 0
NoConversion [] = Unit {0}
NoConversion (b ∷ t) = conversion_of b ≡ percent.no_conversion

-- it is this one, and that stands behind it
abbrev pub IsConversion : List ℕ → Conversion → (behind : List ℕ) → Type 0
IsConversion text c t = (b : ℕ) × (text ≡ b ∷ t) × (conversion_of b ≡ conversion_in c)
