-- The reader of a grammar: a machine that takes one token at a time.
use Rattle.std.specs.Prelude.{◌≡◌, ℕ, zero, suc, ◌+◌, nat_le, Bool, true, false, if◌then◌else◌, List, [], ◌∷◌, Option, Some, None}
use Rattle.std.specs.Option.{option_and_then, option_map}
use Rattle.ll.specs.Grammar.{Symbol, terminal, rule, Grammar, Symbols, Entry}

-- what is still to be read, and where an alternative ends
pub data Item (Terminal Rule Choice : Type 0) : Type 0 where
  want : Symbol Terminal Rule → Item Terminal Rule Choice
  close : Choice → Item Terminal Rule Choice

abbrev pub Stack : Grammar → Type 0
Stack g = List (Item g.Terminal g.Rule g.Choice)

pub record State (g : Grammar) : Type 0 where
  pub stack : Stack g
  pub value : g.Value

-- The tables of a machine.
pub record Tables (g : Grammar) : Type 1 where
  pub Class : Type 0
  pub class : g.Token → Class
  -- the alternative of a rule by the class of the token ahead
  pub predict : g.Rule → Class → Option g.Choice
  -- what bounds how many alternatives are opened at one token: none of a solid rule is empty
  pub rank : g.Rule → ℕ
  pub solid : g.Rule → Bool
  -- the least height of a text that goes on from here
  pub least : Stack g → g.Value → ℕ

-- what the tokens are
pub data Verdict (Token Value : Type 0) : Type 0 where
  Whole : Value → Verdict Token Value
  Unfinished : Verdict Token Value
  -- the tokens from the refused one on
  Form : List Token → Verdict Token Value
  Deep : List Token → Verdict Token Value

module _ (g : Grammar) where
  abbrev pub state : Stack g → g.Value → State g
  state stack value = record { stack = stack; value = value }

  abbrev pub wants : Symbols g → Stack g → Stack g
  wants [] rest = rest
  wants (x ∷ xs) rest = want x ∷ wants xs rest

  -- the end of an alternative, where it makes something, and then these
  abbrev pub ended : g.Choice → Stack g → Stack g
  ended c rest = if g.silent c then rest else close c ∷ rest

  -- the parts of an alternative, its end, and then these
  abbrev pub opened : g.Choice → Stack g → Stack g
  opened c rest = wants (g.body c) (ended c rest)

  abbrev pub at_start : Entry g → Stack g
  at_start from = want (rule from.start) ∷ want (terminal from.end) ∷ []

module _ (g : Grammar) (t : Tables g) where
  abbrev pub allowed : g.Value → Option g.Choice → Option g.Choice
  allowed v None = None
  allowed v (Some c) = if g.allows c v then Some c else None

  -- how many turns one token takes at most
  abbrev pub turns : Stack g → ℕ
  turns [] = 1
  turns (close c ∷ rest) = suc (turns rest)
  turns (want (terminal a) ∷ rest) = 1
  turns (want (rule r) ∷ rest) = suc (t.rank r + (if t.solid r then 0 else turns rest))

  -- a turn: an alternative ends, a token is taken, or an alternative is opened
  abbrev pub step : ℕ → g.Token → Stack g → g.Value → Option (State g)
  step zero k stack v = None
  step (suc n) k [] v = None
  step (suc n) k (close c ∷ rest) v = step n k rest (g.finish c v)
  step (suc n) k (want (terminal a) ∷ rest) v = option_map (state g rest) (g.shift a k v)
  step (suc n) k (want (rule r) ∷ rest) v = option_and_then (λ c. step n k (opened g c rest) v) (allowed v (t.predict r (t.class k)))

  -- the state after a token
  abbrev pub next : g.Token → Stack g → g.Value → Option (State g)
  next k stack v = step (turns stack) k stack v

  -- ---- all tokens

  abbrev pub finished : Stack g → g.Value → Verdict g.Token g.Value
  finished [] v = Whole v
  finished (close c ∷ rest) v = finished rest (g.finish c v)
  finished (want x ∷ rest) v = Unfinished

  abbrev pub go_on : ℕ → List g.Token → (Stack g → g.Value → Verdict g.Token g.Value) → Option (State g) → Verdict g.Token g.Value
  go_on limit ks go None = Form ks
  go_on limit ks go (Some s) = if nat_le (t.least s.stack s.value) limit then go s.stack s.value else Deep ks

  unfoldable pub read : ℕ → List g.Token → Stack g → g.Value → Verdict g.Token g.Value
  read limit [] stack v = finished stack v
  read limit (k ∷ ks) stack v = go_on limit (k ∷ ks) (read limit ks) (next k stack v)
