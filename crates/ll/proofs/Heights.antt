-- Heights never fall, and what is begun can be completed no higher than it is.
use Rattle.std.proofs.Common.{◌≡◌, ℕ, ◌+◌, ◌-◌, ◌^◌, ◌<◌, ◌≤◌, max, List, [], ◌∷◌, ◌++◌, Option, Some, None, refl, sym, ap, ◌∙◌, subst, arith}
use Rattle.std.specs.Prelude.{zero, suc, Bool, true, false, ◌&&◌, if◌then◌else◌}
use Rattle.ll.specs.Grammar.{Symbol, terminal, rule, Grammar, Symbols, Source, done, token, node as branch, Parts, IsWhole, spell}
use Rattle.ll.specs.Machine.{Item, want, close, Stack, Tables, wants, ended, opened}
use Rattle.ll.specs.declared.shapes.Shape.{Shape}
use Rattle.ll.specs.declared.shapes.Effect.{Effect}
use Rattle.ll.specs.declared.shapes.Effect.TheVariants as effect
use Rattle.ll.specs.Shapes.{shape, top, under, past, highest, apply, run, raised}
use Rattle.ll.specs.Measure.{Measure, along, weigh}
use Rattle.ll.proofs.Laws.{Rising, Goes, Completed}

-- a height that is kept exactly is one more
pub raised_plain : (h : ℕ) → h < 2 ^ 32 - 1 → raised h ≡ suc h
raised_plain h lt = omega arith

-- ---- the order of shapes

-- each at most as high
abbrev pub Low : List Shape → List Shape → Type 0
Low xs ys = (n : ℕ) → (top (past n xs)).high ≤ (top (past n ys)).high

pub low_same : (xs : List Shape) → Low xs xs
low_same xs n = omega arith

low_trans : (xs ys zs : List Shape) → Low xs ys → Low ys zs → Low xs zs
low_trans xs ys zs p q n = omega (arith, p n, q n)

pub low_cons : (x y : Shape) (xs ys : List Shape) → x.high ≤ y.high → Low xs ys → Low (x ∷ xs) (y ∷ ys)
low_cons x y xs ys p q zero = p
low_cons x y xs ys p q (suc n) = q n

-- a tree that grew
pub low_up : (xs : List Shape) (y : Shape) → (top xs).high ≤ y.high → Low xs (y ∷ under xs)
low_up xs y p zero = p
low_up xs y p (suc n) = omega arith

low_under : (xs ys : List Shape) → Low xs ys → Low (under xs) (under ys)
low_under xs ys p n = p (suc n)

low_past : (m : ℕ) (xs ys : List Shape) → Low xs ys → Low (past m xs) (past m ys)
low_past zero xs ys p = p
low_past (suc m) xs ys p = low_past m (under xs) (under ys) (low_under xs ys p)

low_highest : (m : ℕ) (xs ys : List Shape) → Low xs ys → highest m xs ≤ highest m ys
low_highest zero xs ys p = omega arith
low_highest (suc m) xs ys p = omega (arith, p 0, low_highest m (under xs) (under ys) (low_under xs ys p))

pub low_apply : (e : Effect) (xs ys : List Shape) → Low xs ys → Low (apply e xs) (apply e ys)
low_apply effect.Keep xs ys p = p
low_apply (effect.Push n f) xs ys p = low_cons _ _ xs ys (omega arith) p
low_apply (effect.Node n f) xs ys p = low_cons _ _ (past n xs) (past n ys) (omega (arith, low_highest n xs ys p)) (low_past n xs ys p)
low_apply (effect.Beside n f) xs ys p = low_cons _ _ (past n xs) (past n ys) (omega (arith, low_highest n xs ys p)) (low_past n xs ys p)
low_apply effect.Floor xs ys p = low_cons _ _ (under xs) (under ys) (omega (arith, p 0)) (low_under xs ys p)

pub low_run : (es : List Effect) (xs ys : List Shape) → Low xs ys → Low (run es xs) (run es ys)
low_run [] xs ys p = p
low_run (e ∷ es) xs ys p = low_run es (apply e xs) (apply e ys) (low_apply e xs ys p)

-- ---- the measure of a grammar

module _ (g : Grammar) (m : Measure g) where
  -- what symbols make of the trees at least, and a stack
  abbrev pub walk : Symbols g → List Shape → List Shape
  walk [] xs = xs
  walk (terminal a ∷ ss) xs = walk ss (apply (m.given a) xs)
  walk (rule r ∷ ss) xs = walk ss (run (m.least r) xs)

  abbrev pub closed : g.Choice → List Shape → List Shape
  closed c xs = apply (m.effect c) (walk (g.body c) xs)

  low_along : (stack : Stack g) (xs ys : List Shape) → Low xs ys → Low (along g m stack xs) (along g m stack ys)
  low_along [] xs ys p = p
  low_along (close c ∷ rest) xs ys p = low_along rest _ _ (low_apply (m.effect c) xs ys p)
  low_along (want (terminal a) ∷ rest) xs ys p = low_along rest _ _ (low_apply (m.given a) xs ys p)
  low_along (want (rule r) ∷ rest) xs ys p = low_along rest _ _ (low_run (m.least r) xs ys p)

  low_walk : (ss : Symbols g) (xs ys : List Shape) → Low xs ys → Low (walk ss xs) (walk ss ys)
  low_walk [] xs ys p = p
  low_walk (terminal a ∷ ss) xs ys p = low_walk ss _ _ (low_apply (m.given a) xs ys p)
  low_walk (rule r ∷ ss) xs ys p = low_walk ss _ _ (low_run (m.least r) xs ys p)

  along_wants : (ss : Symbols g) (rest : Stack g) (xs : List Shape) → along g m (wants g ss rest) xs ≡ along g m rest (walk ss xs)
  along_wants [] rest xs = refl
  along_wants (terminal a ∷ ss) rest xs = along_wants ss rest (apply (m.given a) xs)
  along_wants (rule r ∷ ss) rest xs = along_wants ss rest (run (m.least r) xs)

  pub record Measured : Type 0 where
    pub finished : (c : g.Choice) (v : g.Value) → m.shapes (g.finish c v) ≡ apply (m.effect c) (m.shapes v)
    pub shifted : (a : g.Terminal) (k : g.Token) (v w : g.Value) → g.shift a k v ≡ Some w → m.shapes w ≡ apply (m.given a) (m.shapes v)
    pub opened : (c : g.Choice) (v : g.Value) → g.allows c v ≡ true → Low (run (m.least (g.head c)) (m.shapes v)) (closed c (m.shapes v))
    pub silent : (c : g.Choice) (xs : List Shape) → g.silent c ≡ true → apply (m.effect c) xs ≡ xs
    pub high : (v : g.Value) → g.height v ≡ (top (m.shapes v)).high

  -- ---- what may be read of a rule, at least

  pub record Filled (r : g.Rule) (v : g.Value) : Type 0 where
    pub choice : g.Choice
    pub inner : Parts g
    pub value : g.Value
    pub headed : g.head choice ≡ r
    pub allowed : g.allows choice v ≡ true
    pub whole : IsWhole g (g.body choice) inner v value
    pub low : Low (m.shapes (g.finish choice value)) (run (m.least r) (m.shapes v))

  pub record Given (a : g.Terminal) (v : g.Value) : Type 0 where
    pub token : g.Token
    pub value : g.Value
    pub shifts : g.shift a token v ≡ Some value

  pub record Fillings : Type 0 where
    pub depth : g.Rule → ℕ
    pub tokens : (a : g.Terminal) (v : g.Value) → Given a v
    -- how each rule is filled, once those are that are less deep
    pub ways : (r : g.Rule) → ((s : g.Rule) → depth s < depth r → (v : g.Value) → Filled s v) → (v : g.Value) → Filled r v

  module _ (laws : Measured) where
    record FilledAll (ss : Symbols g) (v : g.Value) : Type 0 where
      inner : Parts g
      value : g.Value
      whole : IsWhole g ss inner v value
      low : Low (m.shapes value) (walk ss (m.shapes v))

    abbrev pub Shallow : (g.Rule → ℕ) → ℕ → Symbols g → Type 0
    Shallow depth n [] = Unit {0}
    Shallow depth n (terminal a ∷ ss) = Shallow depth n ss
    Shallow depth n (rule r ∷ ss) = (depth r < n) × Shallow depth n ss

    fill_all : (depth : g.Rule → ℕ) (n : ℕ) → ((a : g.Terminal) (v : g.Value) → Given a v) → ((s : g.Rule) → depth s < n → (v : g.Value) → Filled s v)
        → (ss : Symbols g) → Shallow depth n ss → (v : g.Value) → FilledAll ss v
    fill_all depth n tokens f [] sh v = record { inner = done; value = v; whole = refl; low = low_same (m.shapes v) }
    fill_all depth n tokens f (terminal a ∷ ss) sh v =
        let k = tokens a v in
        let q = fill_all depth n tokens f ss sh k.value in
        record { inner = token k.token q.inner; value = q.value; whole = (k.value, k.shifts, q.whole); low = rw (laws.shifted a k.token v k.value k.shifts) at q.low }
    fill_all depth n tokens f (rule r ∷ ss) sh v =
        let k = f r sh.0 v in
        let q = fill_all depth n tokens f ss sh.1 (g.finish k.choice k.value) in
        record {
          inner = branch k.choice k.inner q.inner;
          value = q.value;
          whole = (k.value, k.headed, k.allowed, k.whole, q.whole);
          low = low_trans _ _ _ q.low (low_walk ss _ _ k.low);
        }

    -- by an alternative that may always begin
    pub by_choice : (depth : g.Rule → ℕ) → ((a : g.Terminal) (v : g.Value) → Given a v) → (r : g.Rule) → ((s : g.Rule) → depth s < depth r → (v : g.Value) → Filled s v)
        → (c : g.Choice) (v : g.Value) → g.head c ≡ r → g.allows c v ≡ true → Shallow depth (depth r) (g.body c) → Low (closed c (m.shapes v)) (run (m.least r) (m.shapes v)) → Filled r v
    by_choice depth tokens r f c v h a sh low =
        let q = fill_all depth (depth r) tokens f (g.body c) sh v in
        record {
          choice = c;
          inner = q.inner;
          value = q.value;
          headed = h;
          allowed = a;
          whole = q.whole;
          low = rw laws.finished (low_trans _ _ _ (low_apply (m.effect c) _ _ q.low) low);
        }

    w_close : (c : g.Choice) (rest : Stack g) (v : g.Value) → weigh g m rest (g.finish c v) ≡ weigh g m (close c ∷ rest) v
    w_close c rest v = ap (λ xs. (top (along g m rest xs)).high) (laws.finished c v)

    w_take : (a : g.Terminal) (rest : Stack g) (k : g.Token) (v w : g.Value) → g.shift a k v ≡ Some w → weigh g m rest w ≡ weigh g m (want (terminal a) ∷ rest) v
    w_take a rest k v w e = ap (λ xs. (top (along g m rest xs)).high) (laws.shifted a k v w e)

    along_ended : (c : g.Choice) (rest : Stack g) (xs : List Shape) → along g m (ended g c rest) xs ≡ along g m rest (apply (m.effect c) xs)
    along_ended c rest xs = on (g.silent c) refl
      where
        on : (b : Bool) → g.silent c ≡ b → along g m (if b then rest else close c ∷ rest) xs ≡ along g m rest (apply (m.effect c) xs)
        on true e = ap (along g m rest) (sym (laws.silent c xs e))
        on false e = refl

    w_open : (c : g.Choice) (rest : Stack g) (v : g.Value) → g.allows c v ≡ true → weigh g m (want (rule (g.head c)) ∷ rest) v ≤ weigh g m (opened g c rest) v
    w_open c rest v a =
        let e : weigh g m (opened g c rest) v ≡ (top (along g m rest (closed c (m.shapes v)))).high
        = ap (λ xs. (top xs).high) (along_wants (g.body c) (ended g c rest) (m.shapes v) ∙ along_ended c rest (walk (g.body c) (m.shapes v))) in
        omega (arith, e, (low_along rest _ _ (laws.opened c v a) 0))

    module _ (t : Tables g) (same : (stack : Stack g) (v : g.Value) → t.least stack v ≡ weigh g m stack v) where
      pub rising : Rising g t
      rising = record {
        closing = λ c rest v. omega (arith, same (close c ∷ rest) v, same rest (g.finish c v), w_close c rest v);
        opening = λ c rest v a. omega (arith, same (want (rule (g.head c)) ∷ rest) v, same (opened g c rest) v, w_open c rest v a);
        taking = λ a rest k v w e. omega (arith, same (want (terminal a) ∷ rest) v, same rest w, w_take a rest k v w e);
        ending = λ v. same [] v ∙ sym (laws.high v);
      }

      module _ (fs : Fillings) where
        fill : (n : ℕ) (r : g.Rule) → fs.depth r < n → (v : g.Value) → Filled r v
        fill zero r lt v = absurd (omega arith)
        fill (suc n) r lt v = fs.ways r (λ s h w. fill n s (omega arith) w) v

        pub completed : (stack : Stack g) (v : g.Value) → Completed g t stack v
        completed [] v = record { tokens = []; value = v; goes = (refl, refl); low = rw (same, laws.high) (omega arith) }
        completed (close c ∷ rest) v =
            let q = completed rest (g.finish c v) in
            record { tokens = q.tokens; value = q.value; goes = q.goes; low = omega (arith, same (close c ∷ rest) v, same rest (g.finish c v), w_close c rest v, q.low) }
        completed (want (terminal a) ∷ rest) v =
            let k = fs.tokens a v in
            let q = completed rest k.value in
            record {
              tokens = k.token ∷ q.tokens;
              value = q.value;
              goes = (k.token, k.value, q.tokens, refl, k.shifts, q.goes);
              low = omega (arith, same (want (terminal a) ∷ rest) v, same rest k.value, w_take a rest k.token v k.value k.shifts, q.low);
            }
        completed (want (rule r) ∷ rest) v =
            let k = fill (suc (fs.depth r)) r (omega arith) v in
            let q = completed rest (g.finish k.choice k.value) in
            record {
              tokens = spell k.inner q.tokens;
              value = q.value;
              goes = (k.choice, k.inner, k.value, q.tokens, refl, k.headed, k.allowed, k.whole, q.goes);
              low = omega (arith, same (want (rule r) ∷ rest) v, same rest (g.finish k.choice k.value), q.low, (low_along rest _ _ k.low 0));
            }
