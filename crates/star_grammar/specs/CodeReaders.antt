-- What it is to read the code of comments and of files as the grammar says.
use Rattle.std.specs.Prelude.{◌≡◌, ℕ, nat_lt, Bool, false, ◌⊎◌, List, [], ◌∷◌, Result, Ok, Err}
use Rattle.ytt_base.specs.declared.fault.Fault.{Fault}
use Rattle.ytt_base.specs.declared.fault.FaultKind.TheVariants as kind
use Rattle.ytt_base.specs.declared.fault.Place.{Place}
use Rattle.ytt_base.specs.declared.fault.Stop.{Stop}
use Rattle.ytt_base.specs.Outcomes.{Gives, Outcome, fault_at, place_at}
use Rattle.code_spec.specs.CodeReading.{CodeReader}
use Rattle.code_spec.specs.Program.{Instruction}
use Rattle.star_tree.specs.Whole.{expr_of, exprs_of, header_of, instructions_of}
use Rattle.star_grammar.specs.declared.part.Part.{Part}
use Rattle.star_grammar.specs.declared.start.Start.{Start}
use Rattle.star_grammar.specs.declared.start.Start.TheVariants as start
use Rattle.star_grammar.specs.declared.token.Origin.{Origin}
use Rattle.star_grammar.specs.declared.token.Origin.TheVariants as origin
use Rattle.star_grammar.specs.declared.token.Token.{Token}
use Rattle.star_grammar.specs.declared.token.TokenKind.{TokenKind}
use Rattle.star_grammar.specs.declared.token.TokenKind.TheVariants as token
use Rattle.star_grammar.specs.Parts.{top, expr_in, exprs_in, code_in}
use Rattle.star_grammar.specs.Reading.{IsRead, Refusal, code_form, too_deep, Refuses, header_in}
use Rattle.star_grammar.specs.Tokens.{Tokens, Refused, tokens_of, depth_of_mark}

-- of a text whose first line is this place's
abbrev pub tokens_from : Origin → Place → List ℕ → Tokens
tokens_from o place text = tokens_of o place.line text

abbrev pub tokens_at : Place → List ℕ → Tokens
tokens_at place text = tokens_from origin.Comment place text

-- ---- what a text is, or why it is refused

-- the tokens of the text are read as this
abbrev pub IsTree : {A : Type 0} → Origin → Start → (Part → A) → Place → List ℕ → A → Type 0
IsTree o s view place text x = (ts : List Token) × (ps : List Part) × (tokens_from o place text ≡ Ok ts) × IsRead s ts ps × (x ≡ view (top ps))

-- a piece of the text is no token
abbrev pub IsNoToken : Origin → Place → List ℕ → Fault → Type 0
IsNoToken o place text f = (r : Refused) × (tokens_from o place text ≡ Err r) × (f ≡ fault_at r.fault (place_at place.file r.line))

abbrev pub refusal_fault : (file : ℕ) → Refusal → Fault
refusal_fault file (code_form line) = fault_at kind.CodeForm (place_at file line)
refusal_fault file (too_deep line) = fault_at kind.TooDeep (place_at file line)

-- its tokens are refused
abbrev pub IsRefused : Origin → Start → Place → List ℕ → Fault → Type 0
IsRefused o s place text f = (ts : List Token) × (r : Refusal) × (tokens_from o place text ≡ Ok ts) × Refuses s ts r × (f ≡ refusal_fault place.file r)

abbrev pub ReadsFrom : {A : Type 0} → Origin → Start → (Part → A) → Place → List ℕ → Outcome A → Type 0
ReadsFrom o s view place text (Ok x) = IsTree o s view place text x
ReadsFrom o s view place text (Err f) = IsNoToken o place text f ⊎ IsRefused o s place text f

-- the text of a comment
abbrev pub ReadsAs : {A : Type 0} → Start → (Part → A) → Place → List ℕ → Outcome A → Type 0
ReadsAs s view place text o = ReadsFrom origin.Comment s view place text o

-- the text of a file
abbrev pub ReadsFileAs : (number : ℕ) → List ℕ → Outcome (List Instruction) → Type 0
ReadsFileAs n text o = ReadsFrom origin.File start.File (λ p. instructions_of n (code_in p)) (place_at n 1) text o

-- ---- brackets

abbrev pub depth_behind : ℕ → TokenKind → ℕ
depth_behind n (token.Mark m) = depth_of_mark n m
depth_behind n k = n

-- how many brackets are open behind the tokens, where so many are before them
abbrev pub brackets : ℕ → List Token → ℕ
brackets n [] = n
brackets n (k ∷ ks) = brackets (depth_behind n k.kind) ks

-- none where a piece is no token
abbrev pub leaves_open : Tokens → Bool
leaves_open (Ok ts) = nat_lt 0 (brackets 0 ts)
leaves_open (Err r) = false

-- ---- readers

-- it reads each text as the grammar says
pub record IsCodeReader (r : CodeReader) : Type 0 where
  pub expr : (place : Place) (text : List ℕ) → ReadsAs start.Expr (λ p. expr_of place.file (expr_in p)) place text (r.expr place text)
  pub args : (place : Place) (text : List ℕ) → ReadsAs start.Args (λ p. exprs_of place.file (exprs_in p)) place text (r.args place text)
  pub simple : (place : Place) (text : List ℕ) → ReadsAs start.Line (λ p. instructions_of place.file (code_in p)) place text (r.simple place text)
  pub header : (place : Place) (text : List ℕ) → ReadsAs start.Header (λ p. header_of place.file (header_in (code_in p))) place text (r.header place text)
  pub is_open : (place : Place) (text : List ℕ) → r.is_open place text ≡ leaves_open (tokens_at place text)
  pub file : (number : ℕ) (text : List ℕ) → ReadsFileAs number text (r.file number text)

-- What a call returned is the outcome by each of them; want of memory says nothing.
abbrev pub GivesCode : {A B : Type 0} → (A → B) → Result A Stop → (CodeReader → Outcome B) → Type 0
GivesCode view result outcome = (r : CodeReader) → IsCodeReader r → Gives view result (outcome r)

-- it means this by each of them
abbrev pub MeansCode : {A : Type 0} → (CodeReader → A) → A → Type 0
MeansCode meaning x = (r : CodeReader) → IsCodeReader r → meaning r ≡ x

-- ---- laws

-- some reader reads so
abbrev pub ACodeReaderExists : Type 0
ACodeReaderExists = (r : CodeReader) × IsCodeReader r

-- and any two read each text as the same
pub record CodeReadersAgree : Type 0 where
  pub expr : (r s : CodeReader) → IsCodeReader r → IsCodeReader s → (place : Place) (text : List ℕ) → r.expr place text ≡ s.expr place text
  pub args : (r s : CodeReader) → IsCodeReader r → IsCodeReader s → (place : Place) (text : List ℕ) → r.args place text ≡ s.args place text
  pub simple : (r s : CodeReader) → IsCodeReader r → IsCodeReader s → (place : Place) (text : List ℕ) → r.simple place text ≡ s.simple place text
  pub header : (r s : CodeReader) → IsCodeReader r → IsCodeReader s → (place : Place) (text : List ℕ) → r.header place text ≡ s.header place text
  pub is_open : (r s : CodeReader) → IsCodeReader r → IsCodeReader s → (place : Place) (text : List ℕ) → r.is_open place text ≡ s.is_open place text
  pub file : (r s : CodeReader) → IsCodeReader r → IsCodeReader s → (number : ℕ) (text : List ℕ) → r.file number text ≡ s.file number text
