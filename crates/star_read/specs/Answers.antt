-- What the calls say of their results.
use Rattle.std.specs.Prelude.{◌≡◌, ◌⊎◌, ℕ, true, List, if◌then◌else◌, Result, Ok, Err, [], ◌∷◌}
use Rattle.ytt_base.specs.declared.fault.FaultKind.TheVariants as kind
use Rattle.ytt_base.specs.declared.fault.Stop.{Stop}
use Rattle.ytt_base.specs.declared.fault.Stop.TheVariants as stop
use Rattle.star_tree.specs.declared.code.Header.{Header}
use Rattle.star_tree.specs.declared.code.Program.{Program}
use Rattle.star_grammar.specs.declared.part.Part.{Part}
use Rattle.star_grammar.specs.declared.start.Stand.{Stand}
use Rattle.star_grammar.specs.declared.start.Start.{Start}
use Rattle.star_grammar.specs.declared.token.Token.{Token}
use Rattle.star_grammar.specs.Language.{kind_of_token}
use Rattle.star_grammar.specs.Parts.{code_in}
use Rattle.star_grammar.specs.Reading.{IsRead, Refusal, code_form, too_deep, Refuses, header_in}
use Rattle.star_grammar.specs.Standing.{opens_too_many}
use Rattle.star_grammar.specs.Tokens.{stop_of, ends}
use Rattle.star_token.specs.declared.found.Tokens.{Tokens}

abbrev pub program_in : ℕ → Part → Program
program_in file p = record { file = file; code = code_in p }

abbrev pub head_in : Part → Header
head_in p = header_in (code_in p)

-- what a caller is told of a refusal, in a file of this number
abbrev pub told : ℕ → Refusal → Stop
told file (code_form line) = stop_of file kind.CodeForm line
told file (too_deep line) = stop_of file kind.TooDeep line

-- why a token is refused with which no text goes on: it opens one block more than may be open, or has no place here
abbrev pub refusal_at : Stand → Token → Refusal
refusal_at s k = if opens_too_many s (kind_of_token k.kind) then too_deep k.line else code_form k.line

-- The tokens are one part, in which this stands; or why they are refused. Want of memory says nothing.
abbrev pub HasRead : {A : Type 0} → Start → (Part → A) → Tokens → Result A Stop → Type 0
HasRead s view ts (Ok x) = (p : Part) × (x ≡ view p) × IsRead s ts.tokens (p ∷ [])
HasRead s view ts (Err (stop.Fault f)) = (r : Refusal) × (stop.Fault f ≡ told ts.file r) × Refuses s ts.tokens r
HasRead s view ts (Err stop.Memory) = Unit {0}

-- The tokens are these parts; or why they are refused. Want of memory says nothing.
abbrev pub HasParts : {A : Type 0} → Start → Tokens → Result A Stop → List Part → Type 0
HasParts s ts (Ok x) ps = IsRead s ts.tokens ps
HasParts s ts (Err (stop.Fault f)) ps = (r : Refusal) × (stop.Fault f ≡ told ts.file r) × Refuses s ts.tokens r
HasParts s ts (Err stop.Memory) ps = Unit {0}

-- ---- laws

-- tokens are at most one list of parts
abbrev pub OneTree : Type 0
OneTree = (s : Start) (ts : List Token) (ps qs : List Part) → IsRead s ts ps → IsRead s ts qs → ps ≡ qs

-- tokens that end are read or refused
abbrev pub EachIsRead : Type 0
EachIsRead = (s : Start) (ts : List Token) → ends ts ≡ true → ((ps : List Part) × IsRead s ts ps) ⊎ ((r : Refusal) × Refuses s ts r)

-- and for one reason
abbrev pub OneRefusal : Type 0
OneRefusal = (s : Start) (ts : List Token) (r q : Refusal) → Refuses s ts r → Refuses s ts q → r ≡ q

-- none are both
abbrev pub NeverBoth : Type 0
NeverBoth = (s : Start) (ts : List Token) (ps : List Part) (r : Refusal) → IsRead s ts ps → Refuses s ts r → ⊥
