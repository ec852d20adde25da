-- The natives of this crate, each by the row that it has in the table of the definitions.
use Rattle.std.specs.Prelude.{ℕ, List, [], ◌∷◌, codes, map as each, Bool, true, false, Result}
use Rattle.std.specs.Borrow.{Bor}
use Rattle.ytt_base.specs.declared.fault.FaultKind.TheVariants as kind
use Rattle.ytt_base.specs.declared.fault.Place.{Place}
use Rattle.builtin_spec.specs.Binding.{Own, taking}
use Rattle.code_spec.specs.Code.{Name}
use Rattle.module_spec.specs.Codecs as codecs
use Rattle.module_spec.specs.JsonCodec as json
use Rattle.module_spec.specs.Rows.{Row, of_own}
use Rattle.module_spec.specs.YamlCodec as yaml
use Rattle.text_spec.specs.Signatures.{value_at}
use Rattle.value_spec.specs.Members.{as_text}
use Rattle.ytt_base.specs.declared.fault.Stop.{Stop}
use Rattle.star_steps.specs.Meets.{Meets}
use Rattle.value_spec.specs.Outcomes.{Computation, State, or_fail, ◌>>=◌}
use Rattle.value_spec.specs.Values.{Value}
use Rattle.mod_codec.specs.declared.table.Codec.{Codec}
use Rattle.mod_codec.specs.declared.table.Codec.TheVariants as codec

-- the name of its one parameter
abbrev pub parameter_of : Codec → Name
parameter_of codec.JsonEncode = codes "x"
parameter_of codec.YamlEncode = codes "x"
parameter_of _ = codes "text"

-- its argument is a text
abbrev pub takes_text : Codec → Bool
takes_text codec.JsonEncode = false
takes_text codec.YamlEncode = false
takes_text _ = true

-- of a text, or ValueKind
abbrev pub of_text : (Place → List ℕ → Computation (Unit {0}) Value) → Place → Value → Computation (Unit {0}) Value
of_text f p v = or_fail kind.ValueKind p (as_text v) >>= f p

-- what it gives for the value of its parameter
abbrev pub answer_of : Codec → Place → Value → Computation (Unit {0}) Value
answer_of codec.JsonEncode = json.encode
answer_of codec.JsonDecode = of_text json.decode
answer_of codec.YamlEncode = yaml.encode
answer_of codec.YamlDecode = of_text yaml.decode
answer_of codec.Base64Encode = of_text codecs.encode
answer_of codec.Base64Decode = of_text codecs.decode
answer_of codec.Sha256 = of_text codecs.sha256_row
answer_of codec.Md5 = of_text codecs.md5_row

-- what it gives for its arguments
unfoldable pub value_row_of : Codec → Own (Unit {0})
value_row_of c = taking (parameter_of c ∷ []) [] (λ p vs. answer_of c p (value_at 0 vs))

-- its row, which holds nothing and answers with a value
abbrev pub row_of : Codec → Row (Unit {0})
row_of c = of_own (value_row_of c)

abbrev pub named_rows : List (Bor (List ℕ) × Codec) → List (Name × Row (Unit {0}))
named_rows cs = each (λ c. (c.0.now, row_of c.1)) cs

-- what a call returned is how a computation ends that leaves each state as it is
abbrev pub Tells : {A B : Type 0} → (A → B) → Result A Stop → Computation (Unit {0}) B → Type 0
Tells view result m = (state : State (Unit {0})) → Meets view result state (m state)
