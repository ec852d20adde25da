-- What a comment of a template says. How its code is read is a parameter.
use Rattle.std.specs.Prelude.{ℕ, Bool, not, ◌&&◌, ◌||◌, ◌==◌, if◌then◌else◌, List, [], ◌∷◌, ◌++◌, codes, length, drop, Some, Ok, Err}
use Rattle.std.specs.Char.{is_ascii_alphanumeric}
use Rattle.std.specs.List.{after_first, before_first, list_any, starts_with}
use Rattle.ytt_base.specs.declared.fault.FaultKind.TheVariants as kind
use Rattle.ytt_base.specs.declared.fault.Place.{Place}
use Rattle.ytt_base.specs.Outcomes.{Outcome, ◌>>=◌}
use Rattle.yaml_spec.specs.Bytes.{first, is_empty, is_word, skip_white, space}
use Rattle.yaml_spec.specs.Noted.{Comment, is_note, is_code, code_in}
use Rattle.yaml_spec.specs.Refusals.{refused}
use Rattle.code_spec.specs.Code.{Name, Expr, Exprs, no_exprs, an_expr}
use Rattle.code_spec.specs.CodeReading.{CodeReader, Header, elif_header, else_header, end_header}
use Rattle.code_spec.specs.Program.{Instruction}

-- what a comment says
pub data Said : Type 0 where
  ignored : Said
  -- a note, by its name, with its arguments
  a_note : Name → Exprs → Said
  -- the value expression of the item on its line
  a_value : Expr → Said
  -- the simple statements of a line of its own
  statements : List Instruction → Said
  -- the head of an `if`, a `for` or a `def`; with `/end` it holds for one item alone
  opens : Header → (for_one : Bool) → Said
  elif : Expr → Said
  otherwise : Said
  closes : Said

abbrev pub begins : (text front : List ℕ) → Bool
begins text front = starts_with (λ a b. a == b) text front

-- ---- notes

abbrev pub note_names : List Name
note_names =
    codes "yaml/text-templated-strings" ∷ codes "yaml/map-key-override" ∷ codes "data/values" ∷ codes "data/values-schema"
    ∷ codes "schema/nullable" ∷ codes "schema/type" ∷ codes "schema/default" ∷ codes "schema/title" ∷ codes "schema/desc"
    ∷ codes "schema/examples" ∷ codes "schema/deprecated"
    ∷ codes "overlay/match" ∷ codes "overlay/match-child-defaults" ∷ codes "overlay/merge" ∷ codes "overlay/remove"
    ∷ codes "overlay/replace" ∷ codes "overlay/insert" ∷ codes "overlay/append" ∷ codes "overlay/assert" ∷ []

-- notes of documents alone
abbrev pub is_data_note : Name → Bool
is_data_note x = begins x (codes "data/")

-- notes without arguments
abbrev pub is_bare_note : Name → Bool
is_bare_note x = is_data_note x || begins x (codes "yaml/")

-- the name goes up to the first space, and the arguments stand behind that
abbrev pub name_in : List ℕ → Name
name_in text = before_first (λ b. b == space) text

abbrev pub arguments_in : List ℕ → List ℕ
arguments_in text = after_first (λ b. b == space) text

abbrev pub note_with : Place → Name → Exprs → Outcome Said
note_with place x no_exprs = Ok (a_note x no_exprs)
note_with place x (an_expr e es) = if is_bare_note x then refused kind.NoteForm place else Ok (a_note x (an_expr e es))

-- a note of no known name; the name is told
abbrev pub unknown_note : Place → Name → Outcome Said
unknown_note place x = Err (record { kind = kind.NoteUnknown; place = Some place; detail = x })

-- a note of a known name, with the arguments that this text is
abbrev pub known_said : CodeReader → Place → Name → (arguments : List ℕ) → Outcome Said
known_said r place x arguments = r.args place arguments >>= note_with place x

-- a note, from behind its `#@`
abbrev pub note_said : CodeReader → Place → (text : List ℕ) → Outcome Said
note_said r place text =
    if is_empty text then refused kind.NoteForm place
    else if is_word note_names (name_in text) then known_said r place (name_in text) (arguments_in text) else unknown_note place (name_in text)

-- ---- heads and ends of blocks

-- the byte stands in names of code
abbrev pub in_word : ℕ → Bool
in_word b = is_ascii_alphanumeric b || b == 95

-- the text begins with this word, which ends there
abbrev pub begins_with_word : List ℕ → (word : List ℕ) → Bool
begins_with_word text word = begins text word && not (in_word (first (drop (length word) text)))

abbrev pub header_words : List (List ℕ)
header_words = codes "if" ∷ codes "elif" ∷ codes "else" ∷ codes "for" ∷ codes "def" ∷ codes "end" ∷ []

-- the code is the head or the end of a block
abbrev pub is_header : (code : List ℕ) → Bool
is_header code = list_any (begins_with_word (skip_white code)) header_words

abbrev pub opening_words : List (List ℕ)
opening_words = codes "if" ∷ codes "for" ∷ codes "def" ∷ []

abbrev pub for_one_word : List ℕ → List ℕ
for_one_word word = word ++ codes "/end"

-- it begins with `if/end`, `for/end` or `def/end`
abbrev pub is_for_one : (code : List ℕ) → Bool
is_for_one code = list_any (λ word. begins_with_word (skip_white code) (for_one_word word)) opening_words

abbrev pub without_end_of : (words : List (List ℕ)) → (code : List ℕ) → List ℕ
without_end_of [] code = code
without_end_of (word ∷ words) code =
    if begins_with_word (skip_white code) (for_one_word word) then word ++ drop (length (for_one_word word)) (skip_white code) else without_end_of words code

-- the code without the `/end` of its head
abbrev pub without_end : (code : List ℕ) → List ℕ
without_end code = without_end_of opening_words code

abbrev pub header_said : (for_one : Bool) → Header → Outcome Said
header_said z (elif_header e) = Ok (elif e)
header_said z else_header = Ok otherwise
header_said z end_header = Ok closes
header_said z h = Ok (opens h z)

-- ---- comments

-- the head or the end of a block
abbrev pub head_said : CodeReader → Place → (code : List ℕ) → Outcome Said
head_said r place code = r.header place (without_end code) >>= header_said (is_for_one code)

abbrev pub statements_said : CodeReader → Place → (code : List ℕ) → Outcome Said
statements_said r place code = r.simple place code >>= (λ is. Ok (statements is))

-- code on a line of its own
abbrev pub code_said : CodeReader → Place → (code : List ℕ) → Outcome Said
code_said r place code = if is_header code then head_said r place code else statements_said r place code

-- code on the line of an item, which is its value expression
abbrev pub value_said : CodeReader → Place → (code : List ℕ) → Outcome Said
value_said r place code = r.expr place code >>= (λ e. Ok (a_value e))

-- a comment that begins with `#@`: with a space behind it code, else a note
abbrev pub marked_said : CodeReader → Place → (own_line : Bool) → (text : List ℕ) → Outcome Said
marked_said r place own_line text =
    if is_code text then (if own_line then code_said r place (code_in text) else value_said r place (code_in text)) else note_said r place (drop 2 text)

-- a comment that doesn't begin with `#@`: after `#!` it is ignored, any other only under `--ignore-unknown-comments`
abbrev pub plain_said : (ignore_unknown : Bool) → Place → (text : List ℕ) → Outcome Said
plain_said ignore place text = if begins text (codes "#!") || ignore then Ok ignored else refused kind.PlainComment place

-- what a comment of a template says, or the first fault in it
unfoldable pub comment_said : CodeReader → (ignore_unknown : Bool) → Place → Comment → Outcome Said
comment_said r ignore place c = if is_note c.text then marked_said r place c.own_line c.text else plain_said ignore place c.text
