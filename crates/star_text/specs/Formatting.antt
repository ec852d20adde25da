-- A field of `format` as the code has it.
use Rattle.std.specs.Prelude.{◌≡◌, ◌≤◌, ◌++◌, ◌∷◌, ◌^◌, ℕ, List, [], ◌==◌, ◌||◌, Bool, true, false, not, MatchOption, Option}
use Rattle.text_spec.specs.Classes.{is_digit}
use Rattle.ytt_base.specs.declared.fault.Place.{Place}
use Rattle.text_spec.specs.Fields as fields
use Rattle.text_spec.specs.Fields.{argument_for, field_filled, formatted, is_shown}
use Rattle.text_spec.specs.Percent as percent
use Rattle.value_spec.specs.Outcomes.{Computation, give, need, ◌>>=◌}
use Rattle.value_spec.specs.Binding.{has_twice}
use Rattle.ytt_base.specs.declared.fault.FaultKind.TheVariants as kind
use Rattle.value_spec.specs.Values as plain
use Rattle.value_spec.specs.Values.{values_from}
use Rattle.star_values.specs.View.{View, fields_in, value_of, values_of}
use Rattle.star_values.specs.declared.value.CallArgs.{CallArgs}
use Rattle.star_values.specs.declared.value.Value.{Value}
use Rattle.star_text.specs.declared.format.Met.{Met}
use Rattle.star_text.specs.declared.format.Met.TheVariants as met
use Rattle.star_text.specs.Filling.{conversion_in}
use Rattle.star_text.specs.declared.percent.Conversion.{Conversion}
use Rattle.star_text.specs.declared.fields.Which.{Which}
use Rattle.star_text.specs.declared.fields.Which.TheVariants as which

-- a number, or none for one past every place
abbrev pub IsPlace : Option ℕ → ℕ → Type 0
IsPlace o n = MatchOption o (2 ^ 64 ≤ n) (λ k. k ≡ n)

abbrev pub IsWhich : Which → fields.Which → Type 0
IsWhich which.Next w = w ≡ fields.next_one
IsWhich (which.Numbered o) w = (n : ℕ) × (w ≡ fields.numbered n) × IsPlace o n
IsWhich (which.Named x) w = w ≡ fields.named x.now
IsWhich which.Nothing w = w ≡ fields.no_which

-- the first byte is no digit
abbrev pub begins_name : List ℕ → Bool
begins_name [] = false
begins_name (b ∷ t) = not (is_digit b)

-- a field is shown so
abbrev pub IsShownAs : percent.Conversion → Conversion → Type 0
IsShownAs k c = (is_shown k ≡ true) × (k ≡ conversion_in c)

-- ---- what was met, and the arguments

abbrev pub met_in : Met → fields.Met
met_in met.Nothing = fields.none_met
met_in (met.ByTurn n) = fields.by_turn n
met_in met.ByNumber = fields.by_number

abbrev pub value_and_met : View → Value × Met → plain.Value × fields.Met
value_and_met a q = (value_of a q.0, met_in q.1)

abbrev pub argument_here : View → Place → CallArgs → fields.Met → fields.Which → Computation (Unit {0}) (plain.Value × fields.Met)
argument_here a p args m w = argument_for p (values_from (values_of a args.positional)) (fields_in a.held args.named) m w

-- a field behind what was made
abbrev pub behind_made : List ℕ → List ℕ × fields.Met → Computation (Unit {0}) (List ℕ × fields.Met)
behind_made made r = give (made ++ r.0, r.1)

abbrev pub filled_here : View → Place → CallArgs → (made : List ℕ) → fields.Met → fields.Field → Computation (Unit {0}) (List ℕ × fields.Met)
filled_here a p args made m f = field_filled p (values_from (values_of a args.positional)) (fields_in a.held args.named) m f >>= behind_made made

abbrev pub formatted_here : View → Place → CallArgs → fields.Met → List ℕ → Computation (Unit {0}) (List ℕ)
formatted_here a p args m t = formatted p (values_from (values_of a args.positional)) (fields_in a.held args.named) m 0 t

-- no name may be given twice
abbrev pub unless_twice : View → Place → CallArgs → Computation (Unit {0}) (List ℕ) → Computation (Unit {0}) (List ℕ)
unless_twice a p args m = need kind.ArgBind p (not (has_twice (fields_in a.held args.named))) >>= λ u. m

-- ---- braces

abbrev pub brace : (opens : Bool) → ℕ
brace true = 123
brace false = 125

-- none of the bytes is a brace
abbrev pub HasNoBrace : List ℕ → Type 0
HasNoBrace [] = Unit {0}
HasNoBrace (b ∷ t) = (not (b == 123 || b == 125) ≡ true) × HasNoBrace t

-- the text is cut at its first brace
abbrev pub IsCut : (whole before : List ℕ) → (opens : Bool) → (behind : List ℕ) → Type 0
IsCut t before o behind = HasNoBrace before × (t ≡ before ++ brace o ∷ behind)
