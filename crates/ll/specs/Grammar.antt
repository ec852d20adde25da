-- A grammar as data, and what it says of tokens.
use Rattle.std.specs.Prelude.{◌≡◌, ℕ, ◌≤◌, Bool, true, List, [], ◌∷◌, ◌++◌, Option, Some}

-- what stands in an alternative of a rule
pub data Symbol (Terminal Rule : Type 0) : Type 0 where
  terminal : Terminal → Symbol Terminal Rule
  rule : Rule → Symbol Terminal Rule

-- A grammar, and the value that reading builds.
pub record Grammar : Type 1 where
  pub Token : Type 0
  pub Terminal : Type 0
  pub Rule : Type 0
  -- the alternatives of all rules
  pub Choice : Type 0
  pub Value : Type 0
  pub head : Choice → Rule
  pub body : Choice → List (Symbol Terminal Rule)
  -- whether an alternative may begin after what was read
  pub allows : Choice → Value → Bool
  -- what a token makes of the value where a terminal stands, if it may stand there
  pub shift : Terminal → Token → Value → Option Value
  -- what the end of an alternative makes of the value
  pub finish : Choice → Value → Value
  -- it makes nothing
  pub silent : Choice → Bool
  pub height : Value → ℕ

-- What a reader reads: the rule of a whole text, what stands behind it, and the value at the text's beginning.
pub record Entry (g : Grammar) : Type 0 where
  pub start : g.Rule
  pub end : g.Terminal
  pub empty : g.Value

abbrev pub Symbols : Grammar → Type 0
Symbols g = List (Symbol g.Terminal g.Rule)

-- A source: the parts of an alternative in their order, each with those that follow it.
pub data Source (Token Choice : Type 0) : Type 0 where
  done : Source Token Choice
  token : Token → Source Token Choice → Source Token Choice
  node : Choice → Source Token Choice → Source Token Choice → Source Token Choice

abbrev pub Parts : Grammar → Type 0
Parts g = Source g.Token g.Choice

-- the tokens of a source, and then these
abbrev pub spell : {T C : Type 0} → Source T C → List T → List T
spell done ts = ts
spell (token t s) ts = t ∷ spell s ts
spell (node c inner s) ts = spell inner (spell s ts)

-- the source has these symbols, and makes w of the value v
abbrev pub IsWhole : (g : Grammar) → Symbols g → Parts g → g.Value → g.Value → Type 0
IsWhole g [] done v w = v ≡ w
IsWhole g (terminal a ∷ xs) (token t s) v w = (u : g.Value) × (g.shift a t v ≡ Some u) × IsWhole g xs s u w
IsWhole g (rule r ∷ xs) (node c inner s) v w = (u : g.Value) × (g.head c ≡ r) × (g.allows c v ≡ true) × IsWhole g (g.body c) inner v u × IsWhole g xs s (g.finish c u) w
IsWhole g _ _ v w = ⊥

-- ---- what a reader of tokens answers

-- the tokens spell a source that makes this value, which is at most so high
pub record Parses (g : Grammar) (from : Entry g) (limit : ℕ) (ts : List g.Token) (w : g.Value) : Type 0 where
  pub source : Parts g
  pub spelled : spell source [] ≡ ts
  pub whole : IsWhole g (rule from.start ∷ terminal from.end ∷ []) source from.empty w
  pub low : g.height w ≤ limit

-- some text begins with these tokens
pub record Front (g : Grammar) (from : Entry g) (limit : ℕ) (ts : List g.Token) : Type 0 where
  pub rest : List g.Token
  pub value : g.Value
  pub text : Parses g from limit (ts ++ rest) value

-- the tokens before this one begin some text, and with this one they begin none
pub record FormAt (g : Grammar) (from : Entry g) (limit : ℕ) (before : List g.Token) (t : g.Token) : Type 0 where
  pub front : Front g from limit before
  pub none : (h : ℕ) → Front g from h (before ++ t ∷ []) → ⊥

-- with this token they only begin texts that are higher
pub record DeepAt (g : Grammar) (from : Entry g) (limit : ℕ) (before : List g.Token) (t : g.Token) : Type 0 where
  pub front : Front g from limit before
  pub tall : (h : ℕ) × Front g from h (before ++ t ∷ [])
  pub not_low : Front g from limit (before ++ t ∷ []) → ⊥
