-- What tokens are read as, or why they are refused: at the least token with which no text of the grammar begins, or
-- none of at most this height.
use Rattle.std.specs.Prelude.{◌≡◌, ℕ, Bool, true, false, ◌⊎◌, List, [], ◌∷◌, ◌++◌}
use Rattle.ll.specs.Grammar.{Entry, Parses, FormAt, DeepAt}
use Rattle.ll.specs.Shapes.{shape}
use Rattle.star_tree.specs.declared.code.Header.{Header}
use Rattle.star_tree.specs.declared.code.Header.TheVariants as header
use Rattle.star_tree.specs.declared.code.Stmt.{Stmt}
use Rattle.star_tree.specs.declared.code.Stmt.TheVariants as stmt
use Rattle.star_grammar.specs.declared.part.Block.TheVariants as block
use Rattle.star_grammar.specs.declared.part.Part.{Part}
use Rattle.star_grammar.specs.declared.part.Part.TheVariants as part
use Rattle.star_grammar.specs.declared.start.Start.{Start}
use Rattle.star_grammar.specs.declared.start.Start.TheVariants as start
use Rattle.star_grammar.specs.declared.table.Kind.TheVariants as kind
use Rattle.star_grammar.specs.declared.table.Rule.{Rule}
use Rattle.star_grammar.specs.declared.table.Rule.TheVariants as rule
use Rattle.star_grammar.specs.declared.table.Terminal.TheVariants as terminal
use Rattle.star_grammar.specs.declared.token.Token.{Token}
use Rattle.star_grammar.specs.Language.{language, Value, value, kind_of_token}
use Rattle.star_grammar.specs.Standing.{at_first, stands, opens_too_many}

-- how high an expression may be
abbrev pub max_height : ℕ
max_height = 100

abbrev pub rule_of : Start → Rule
rule_of start.Expr = rule.Expr
rule_of start.Args = rule.Args
rule_of start.Line = rule.Line
rule_of start.Header = rule.Header
rule_of start.File = rule.Top

-- `return`, `break`, `continue` and `load` may stand anywhere in a comment's code
abbrev pub empty_of : Start → Value
empty_of start.Expr = value [] [] (block.Anywhere ∷ [])
empty_of start.Args = value (part.Exprs 0 [] ∷ []) (shape 0 true ∷ []) (block.Anywhere ∷ [])
empty_of start.Line = value (part.Code [] ∷ []) (shape 0 false ∷ []) (block.Anywhere ∷ [])
empty_of start.Header = value (part.Code [] ∷ []) (shape 0 false ∷ []) (block.Anywhere ∷ [])
empty_of start.File = value (part.Code [] ∷ []) (shape 0 false ∷ []) []

-- the text's end stands behind the rule that a reader reads
abbrev pub entry_of : Start → Entry language
entry_of s = record { start = rule_of s; end = terminal.Passed kind.TextEnd; empty = empty_of s }

-- the tokens are these parts
abbrev pub IsRead : Start → List Token → List Part → Type 0
IsRead s ts ps = (v : Value) × (ps ≡ v.parts) × Parses language (entry_of s) max_height ts v

-- some token of these is refused for this reason
abbrev pub RefusedAt : List Token → (List Token → Token → Type 0) → Type 0
RefusedAt ts Why = (before : List Token) × (k : Token) × (after : List Token) × (ts ≡ before ++ k ∷ after) × Why before k

-- no text goes on with this token
abbrev pub IsFormAt : Start → List Token → Token → Type 0
IsFormAt s before k = FormAt language (entry_of s) max_height before k

-- none of at most this height does
abbrev pub IsDeepAt : Start → List Token → Token → Type 0
IsDeepAt s before k = DeepAt language (entry_of s) max_height before k

-- the token would open one block more than may be open
abbrev pub opens_more : Start → List Token → Token → Bool
opens_more s before k = opens_too_many (stands s at_first before) (kind_of_token k.kind)

-- the line where the outermost expression that holds the last of these begins
abbrev pub outer_line : Start → List Token → ℕ
outer_line s ts = (stands s at_first ts).line

-- why tokens are not read, and on which line
pub data Refusal : Type 0 where
  code_form : (line : ℕ) → Refusal
  too_deep : (line : ℕ) → Refusal

-- the token itself tells the line, or where an expression is too high its first line
abbrev pub Refuses : Start → List Token → Refusal → Type 0
Refuses s ts (code_form line) = RefusedAt ts (λ before k. (line ≡ k.line) × (opens_more s before k ≡ false) × IsFormAt s before k)
Refuses s ts (too_deep line) = RefusedAt ts (λ before k. ((line ≡ k.line) × (opens_more s before k ≡ true) × IsFormAt s before k)
    ⊎ ((line ≡ outer_line s (before ++ k ∷ [])) × IsDeepAt s before k))

-- ---- the head or the end of a block

abbrev pub header_of : Stmt → Header
header_of (stmt.If l e) = header.If e
header_of (stmt.Elif l e) = header.Elif e
header_of (stmt.Else l) = header.Else
header_of (stmt.For l t m) = header.For t m
header_of (stmt.Def l k fragment x ps) = header.Def x ps
header_of s = header.End

-- that of the last statement
abbrev pub header_in : List Stmt → Header
header_in [] = header.End
header_in (s ∷ []) = header_of s
header_in (s ∷ t ∷ ss) = header_in (t ∷ ss)
