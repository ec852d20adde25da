-- How the calls of this crate end, from the arena and the steps that there were to those that are left.
use Rattle.std.specs.Prelude.{◌≡◌, ℕ, List, Option, None, Result, String, string_bytes}
use Rattle.std.specs.Borrow.{Bor}
use Rattle.star_shown.specs.Pushes.{Texts, behind}
use Rattle.star_steps.specs.Names.{Computation, Gives, Meets, Place, Stop, Value, View, as_is, as_text, fail, give, state_in, text_value, value_of, values_of}
use Rattle.star_values.specs.View.{arguments_in}
use Rattle.star_values.specs.declared.value.CallArgs.{CallArgs}
use Rattle.text_spec.specs.Answers.{paid_operation}
use Rattle.text_spec.specs.Fields as fields
use Rattle.text_spec.specs.Fields.{none_met}
use Rattle.text_spec.specs.Methods.{method_answer}
use Rattle.text_spec.specs.Percent.{by_next, filled}
use Rattle.value_spec.specs.Values as plain
use Rattle.ytt_base.specs.declared.fault.FaultKind.TheVariants as kind
use Rattle.star_text.specs.declared.answers.Made.{Made}
use Rattle.star_text.specs.declared.fields.Which.{Which}
use Rattle.star_text.specs.declared.format.Met.{Met}
use Rattle.star_text.specs.declared.percent.Conversion.{Conversion}
use Rattle.star_text.specs.declared.table.TextMethod.{TextMethod}
use Rattle.star_text.specs.Filling.{GoesOn, conversion_in}
use Rattle.star_text.specs.Formatting.{IsWhich, argument_here, filled_here, formatted_here, met_in, unless_twice, value_and_met}
use Rattle.star_text.specs.View.{IsCount, made_of, method_of}

-- ---- calls that leave the arena

-- a call that leaves the arena returned how the computation ends
abbrev pub MeetsFrom : {A B : Type 0} → View → (A → B) → Result A Stop → Computation (Unit {0}) B → (old new : ℕ) → Type 0
MeetsFrom a view result m old new = Meets view result (state_in a new) (m (state_in a old))

-- the cost of an operation on these values was paid, with so many bytes and members more
abbrev pub PaysOperation : View → Place → List Value → (bytes members : Option ℕ) → Result (Unit {0}) Stop → (old new : ℕ) → Type 0
PaysOperation a p vs bytes members result old new =
    (b m : ℕ) → IsCount bytes b → IsCount members m → MeetsFrom a as_is result (paid_operation p (values_of a vs) b m (give tt)) old new

-- of the text that a value is, a method answered so for these values of its parameters
abbrev pub MethodAnswers : View → Place → TextMethod → (on : Value) → List Value → Result Made Stop → (old new : ℕ) → Type 0
MethodAnswers a p method v vs result old new =
    (t : List ℕ) → value_of a v ≡ text_value t → MeetsFrom a made_of result (method_answer p (method_of method) t (values_of a vs)) old new

-- the argument of a field was found, which takes no step
abbrev pub Finds : View → Result (Value × Met) Stop → Computation (Unit {0}) (plain.Value × fields.Met) → Type 0
Finds a result m = (n : ℕ) → MeetsFrom a (value_and_met a) result m n n

-- the same for what a field asks for
abbrev pub FindsFor : View → Place → CallArgs → Met → Which → Result (Value × Met) Stop → Type 0
FindsFor a p args met which result = (w : fields.Which) → IsWhich which w → Finds a result (argument_here a p args (met_in met) w)

-- ---- calls that make a text

-- what a computation gives was put behind what had been made
abbrev pub Fills : {Z : Type 0} → View → Result (Unit {0}) Stop → Texts → (made_old made_new : String Z) → (old new : ℕ) → Type 0
Fills a result m x y old new = MeetsFrom a (λ u. string_bytes y) result (behind (string_bytes x) m) old new

-- what a field shows was put behind what had been made, and such fields were met then
abbrev pub FillsField : {Z : Type 0} → View → Place → CallArgs → Met → fields.Field → Result Met Stop → (made_old made_new : String Z) → (old new : ℕ) → Type 0
FillsField a p args met f result x y old new = MeetsFrom a (λ m. (string_bytes y, met_in m)) result (filled_here a p args (string_bytes x) (met_in met) f) old new

-- the text of a computation, behind what had been made, goes on with that of another, behind what was made
abbrev pub GoesOnWith : {A Z : Type 0} → View → Result A Stop → (whole : Texts) → (A → Texts) → (made_old made_new : String Z) → (old new : ℕ) → Type 0
GoesOnWith a result whole rest x y old new =
    GoesOn result (behind (string_bytes x) whole (state_in a old)) (λ r. behind (string_bytes y) (rest r) (state_in a new)) (state_in a new)

-- a text with fields goes on with what is left of it
abbrev pub FieldsGoOn : {Z : Type 0} → View → Place → CallArgs → Met → List ℕ → Result (Bor (List ℕ) × Met) Stop → (made_old made_new : String Z) → (old new : ℕ) → Type 0
FieldsGoOn a p args met t result x y old new =
    GoesOnWith a result (formatted_here a p args (met_in met) t) (λ q. formatted_here a p args (met_in q.1) q.0.now) x y old new

-- a text with conversions goes on with what is left of it and of the values
abbrev pub ConversionsGoOn : {Z : Type 0} → View → Place → List ℕ → List Value → Result (Bor (List ℕ) × Bor (List Value)) Stop → (made_old made_new : String Z) → (old new : ℕ) → Type 0
ConversionsGoOn a p t vs result x y old new =
    GoesOnWith a result (filled p t (values_of a vs)) (λ q. filled p q.0.now (values_of a q.1.now)) x y old new

-- a conversion is filled by the next of these values, whatever is to come of those that are left
abbrev pub ConversionGoesOn : {Z : Type 0} → View → Place → Conversion → List Value → Result (Bor (List Value)) Stop → (made_old made_new : String Z) → (old new : ℕ) → Type 0
ConversionGoesOn a p c vs result x y old new =
    (rest : List plain.Value → Texts) → GoesOnWith a result (by_next p (conversion_in c) (values_of a vs) rest) (λ left. rest (values_of a left.now)) x y old new

-- the text with its fields filled, where no name is given twice
abbrev pub formatted_once : View → Place → CallArgs → List ℕ → Texts
formatted_once a p args t = unless_twice a p args (formatted_here a p args none_met t)

-- ---- calls that give a value

-- of the text that a value is, a computation gives what was returned
abbrev pub GivesOf : (on : Value) → (List ℕ → Computation (Unit {0}) plain.Value) → Result Value Stop → (before after : View) → (old new : ℕ) → Type 0
GivesOf v f result a b old new = (t : List ℕ) → value_of a v ≡ text_value t → Gives (f t (state_in a old)) result a b new

-- the same of a computation that takes arguments
abbrev pub GivesWith : (on : Value) → (List ℕ → plain.Arguments → Computation (Unit {0}) plain.Value) → CallArgs → Result Value Stop → (before after : View) → (old new : ℕ) → Type 0
GivesWith v f args result a b old new = GivesOf v (λ t. f t (arguments_in a.held args)) result a b old new

-- a value that is no text is refused
abbrev pub RefusesOther : (on : Value) → Place → Result Value Stop → (before after : View) → (old new : ℕ) → Type 0
RefusesOther v p result a b old new = as_text (value_of a v) ≡ None → Gives (fail kind.ValueKind p (state_in a old)) result a b new
