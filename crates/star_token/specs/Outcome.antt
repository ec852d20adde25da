-- What the calls say of their results.
use Rattle.std.specs.Prelude.{◌≡◌, ℕ, List, Result, Ok, Err}
use Rattle.ytt_base.specs.Outcomes.{fault_at, place_at}
use Rattle.ytt_base.specs.declared.fault.Stop.{Stop}
use Rattle.ytt_base.specs.declared.fault.Stop.TheVariants as stop
use Rattle.star_grammar.specs.Tokens.{Refused, tokens_of}
use Rattle.star_grammar.specs.declared.token.Origin.{Origin}
use Rattle.star_grammar.specs.declared.token.Token.{Token}
use Rattle.star_token.specs.declared.lexer.Halt.{Halt}
use Rattle.star_token.specs.declared.lexer.Halt.TheVariants as halt
use Rattle.star_token.specs.declared.found.Tokens.{Tokens}

-- the tokens of a text, or the first piece that is none
abbrev pub HasCut : Origin → ℕ → List ℕ → Result (List Token) Halt → Type 0
HasCut o line text (Ok ts) = tokens_of o line text ≡ Ok ts
HasCut o line text (Err (halt.Refused kind l)) = tokens_of o line text ≡ Err (record { fault = kind; line = l })
HasCut o line text (Err halt.Memory) = Unit {0}

-- so in a file of this number, with the fault that a caller is told
abbrev pub HasTokens : Origin → (file line : ℕ) → List ℕ → Result Tokens Stop → Type 0
HasTokens o file line text (Ok ts) = (tokens_of o line text ≡ Ok ts.tokens) × (ts.file ≡ file)
HasTokens o file line text (Err (stop.Fault f)) = (r : Refused) × (tokens_of o line text ≡ Err r) × (f ≡ fault_at r.fault (place_at file r.line))
HasTokens o file line text (Err stop.Memory) = Unit {0}
