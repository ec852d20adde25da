-- What the tables of a grammar must keep.
use Rattle.std.proofs.Common.{◌≡◌, ℕ, ◌+◌, ◌≤◌, List, [], ◌∷◌, Option, Some, None}
use Rattle.std.specs.Prelude.{suc, Bool, true, false, if◌then◌else◌}
use Rattle.ll.specs.Grammar.{Symbol, terminal, rule, Grammar, Symbols, Entry, Parts, IsWhole, spell}
use Rattle.ll.specs.Machine.{Item, want, close, Stack, Tables, opened, turns}

-- What may come next, by the class of the token: where a terminal stands, where a rule and what is behind it stand, and behind a rule.
pub record Ahead (g : Grammar) (t : Tables g) : Type 0 where
  pub takes : g.Terminal → t.Class → Bool
  pub may : g.Rule → t.Class → Bool
  pub follow : g.Rule → t.Class → Bool

module _ (g : Grammar) (t : Tables g) (l : Ahead g t) where
  -- the token may be the first of these symbols and of what stands behind them
  abbrev pub ahead : (t.Class → Bool) → Symbols g → t.Class → Bool
  ahead after [] k = after k
  ahead after (terminal a ∷ xs) k = l.takes a k
  ahead after (rule r ∷ xs) k = l.may r k

  -- each rule among these symbols is followed by what may stand behind it
  abbrev pub Followed : (t.Class → Bool) → Symbols g → t.Class → Type 0
  Followed after [] k = Unit {0}
  Followed after (terminal a ∷ xs) k = Followed after xs k
  Followed after (rule r ∷ xs) k = (ahead after xs k ≡ true → l.follow r k ≡ true) × Followed after xs k

  pub record Consistent : Type 0 where
    pub taken : (a : g.Terminal) (k : g.Token) (v w : g.Value) → g.shift a k v ≡ Some w → l.takes a (t.class k) ≡ true
    pub chosen : (c : g.Choice) (k : t.Class) → ahead (l.follow (g.head c)) (g.body c) k ≡ true → (t.predict (g.head c) k ≡ Some c) × (l.may (g.head c) k ≡ true)
    pub followed : (c : g.Choice) (k : t.Class) → Followed (l.follow (g.head c)) (g.body c) k
    pub quiet : (c : g.Choice) (v : g.Value) → g.silent c ≡ true → g.finish c v ≡ v
    pub headed : (r : g.Rule) (k : t.Class) (c : g.Choice) → t.predict r k ≡ Some c → g.head c ≡ r
    pub ranked : (c : g.Choice) (rest : Stack g) → turns g t (opened g c rest) ≤ t.rank (g.head c) + (if t.solid (g.head c) then 0 else turns g t rest)

-- what stands behind a whole text may follow its rule
abbrev pub Ended : (g : Grammar) (t : Tables g) (l : Ahead g t) → Entry g → Type 0
Ended g t l from = (k : t.Class) → l.takes from.end k ≡ true → l.follow from.start k ≡ true

-- heights never fall
pub record Rising (g : Grammar) (t : Tables g) : Type 0 where
  pub closing : (c : g.Choice) (rest : Stack g) (v : g.Value) → t.least (close c ∷ rest) v ≤ t.least rest (g.finish c v)
  pub opening : (c : g.Choice) (rest : Stack g) (v : g.Value) → g.allows c v ≡ true → t.least (want (rule (g.head c)) ∷ rest) v ≤ t.least (opened g c rest) v
  pub taking : (a : g.Terminal) (rest : Stack g) (k : g.Token) (v w : g.Value) → g.shift a k v ≡ Some w → t.least (want (terminal a) ∷ rest) v ≤ t.least rest w
  pub ending : (v : g.Value) → t.least [] v ≡ g.height v

module _ (g : Grammar) where
  -- the tokens are what is still to be read, and make w of the value v
  abbrev pub Goes : Stack g → g.Value → List g.Token → g.Value → Type 0
  Goes [] v ts w = (v ≡ w) × (ts ≡ [])
  Goes (close c ∷ rest) v ts w = Goes rest (g.finish c v) ts w
  Goes (want (terminal a) ∷ rest) v ts w = (k : g.Token) × (u : g.Value) × (more : List g.Token) × (ts ≡ k ∷ more) × (g.shift a k v ≡ Some u) × Goes rest u more w
  Goes (want (rule r) ∷ rest) v ts w = (c : g.Choice) × (inner : Parts g) × (u : g.Value) × (more : List g.Token)
      × (ts ≡ spell inner more) × (g.head c ≡ r) × (g.allows c v ≡ true) × IsWhole g (g.body c) inner v u × Goes rest (g.finish c u) more w

-- what is begun can be completed, and no higher than it is
pub record Completed (g : Grammar) (t : Tables g) (stack : Stack g) (v : g.Value) : Type 0 where
  pub tokens : List g.Token
  pub value : g.Value
  pub goes : Goes g stack v tokens value
  pub low : g.height value ≤ t.least stack v

-- every state can be completed
abbrev pub Completes : (g : Grammar) → Tables g → Type 0
Completes g t = (stack : Stack g) (v : g.Value) → Completed g t stack v
