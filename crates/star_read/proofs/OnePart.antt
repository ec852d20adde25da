-- A text is one part: each rule takes some of the parts that stand before it, mostly the last one, and leaves one for them.
use Rattle.std.proofs.Common.{◌≡◌, ℕ, ◌+◌, ◌-◌, ◌≤◌, List, [], ◌∷◌, length, Option, Some, None, refl, ap, ◌∙◌, subst, arith, leb-true}
use Rattle.std.proofs.lemmas.Bool.{eqb-true}
use Rattle.std.specs.Prelude.{zero, suc, Bool, true, false, nat_le, nat_eq, if◌then◌else◌}
use Rattle.ll.specs.declared.shapes.Effect.{Effect}
use Rattle.ll.specs.declared.shapes.Effect.TheVariants as gives
use Rattle.ll.specs.Grammar.{terminal, rule, Symbols, done, token, node, Parts, IsWhole}
use Rattle.ll.proofs.Check.{every, every_at}
use Rattle.star_grammar.specs.declared.part.Part.{Part}
use Rattle.star_grammar.specs.declared.start.Start.{Start}
use Rattle.star_grammar.specs.declared.start.Start.TheVariants as start
use Rattle.star_grammar.specs.declared.table.Action.{Action}
use Rattle.star_grammar.specs.declared.table.Action.TheVariants as action
use Rattle.star_grammar.specs.declared.table.Added.{Added}
use Rattle.star_grammar.specs.declared.table.Added.TheVariants as added
use Rattle.star_grammar.specs.declared.table.Choice.{Choice}
use Rattle.star_grammar.specs.declared.table.Kind.TheVariants as kind
use Rattle.star_grammar.specs.declared.table.Made.{Made}
use Rattle.star_grammar.specs.declared.table.Made.TheVariants as made
use Rattle.star_grammar.specs.declared.table.Opened.{Opened}
use Rattle.star_grammar.specs.declared.table.Opened.TheVariants as opened
use Rattle.star_grammar.specs.declared.table.Rule.{Rule}
use Rattle.star_grammar.specs.declared.table.Stated.{Stated}
use Rattle.star_grammar.specs.declared.table.Stated.TheVariants as stated
use Rattle.star_grammar.specs.declared.table.Terminal.{Terminal}
use Rattle.star_grammar.specs.declared.table.Terminal.TheVariants as a_terminal
use Rattle.star_grammar.specs.declared.token.Token.{Token}
use Rattle.star_grammar.specs.Effects.{effect_of, least}
use Rattle.star_grammar.specs.Language.{language, Value, symbols_of, may_stand, taken, with_token}
use Rattle.star_grammar.specs.Parts.{top, under}
use Rattle.star_grammar.specs.Reading.{IsRead, rule_of, empty_of}
use Rattle.star_grammar.specs.Table.{action_of, body, head}
use Rattle.star_grammar.specs.Trees.{built, added_parts, made_parts, stated_parts, past_two, past_three, past_four, past_five}
use Rattle.star_grammar.proofs.Checked.{all_choices}
use Rattle.star_grammar.proofs.Numbers.{choices}

-- how many parts an effect takes; it leaves one for them
abbrev consumed : Effect → ℕ
consumed (gives.Push h f) = 0
consumed (gives.Node n f) = n
consumed (gives.Beside n f) = n
consumed e = 1

-- how many some effects take of the parts before them, where so many of their own stand behind these
abbrev reach : List Effect → ℕ → ℕ
reach [] zero = 1
reach [] (suc n) = 0
reach (e ∷ es) n = (consumed e - n) + reach es (suc (n - consumed e))

-- how many parts a rule takes, and the end of an alternative
abbrev taken_by : Rule → ℕ
taken_by r = reach (least r) 0

abbrev takes : Action → ℕ
takes a = consumed (effect_of a)

-- ---- what an end leaves: one part for those that it takes

abbrev Leaves : ℕ → List Part → List Part → Type 0
Leaves n ps qs = n ≤ length ps → length qs + n ≡ suc (length ps)

abbrev Left : ℕ → List Part → List Part → Type 0
Left n ps rest = n ≤ length ps → suc (length rest) + n ≡ suc (length ps)

one : (ps : List Part) → Left 1 ps (under ps)
one [] h = absurd (omega arith)
one (p ∷ ps) h = omega arith

two : (ps : List Part) → Left 2 ps (past_two ps)
two [] h = absurd (omega arith)
two (p ∷ ps) h = omega (arith, one ps (omega (arith, h)))

three : (ps : List Part) → Left 3 ps (past_three ps)
three [] h = absurd (omega arith)
three (p ∷ ps) h = omega (arith, two ps (omega (arith, h)))

four : (ps : List Part) → Left 4 ps (past_four ps)
four [] h = absurd (omega arith)
four (p ∷ ps) h = omega (arith, three ps (omega (arith, h)))

five : (ps : List Part) → Left 5 ps (past_five ps)
five [] h = absurd (omega arith)
five (p ∷ ps) h = omega (arith, four ps (omega (arith, h)))

same : (ps : List Part) → Leaves 1 ps ps
same ps h = omega arith

added_leaves : (a : Added) (ps : List Part) → Leaves (takes (action.Add a)) ps (added_parts a ps)
added_leaves added.First ps = one ps
added_leaves added.BareStar ps = one ps
added_leaves added.EmptyList ps = same ps
added_leaves added.ListFor ps = three ps
added_leaves added.DictFor ps = four ps
added_leaves added.Entry ps = three ps
added_leaves added.ForClause ps = three ps
added_leaves added.LoadAs ps = three ps
added_leaves added.GroupIndex ps = three ps
added_leaves a ps = two ps

made_leaves : (m : Made) (ps : List Part) → Leaves (takes (action.Make m)) ps (made_parts m ps)
made_leaves made.Tuple ps = same ps
made_leaves made.Binary ps = three ps
made_leaves made.Conditional ps = four ps
made_leaves made.Lambda ps = three ps
made_leaves made.Dot ps = three ps
made_leaves made.Call ps = three ps
made_leaves made.Index ps = three ps
made_leaves made.Slice ps = five ps
made_leaves m ps = two ps

stated_leaves : (s : Stated) (ps : List Part) → Leaves (takes (action.State s)) ps (stated_parts s ps)
stated_leaves stated.Word ps = two ps
stated_leaves stated.Evaluate ps = two ps
stated_leaves stated.WordExpr ps = three ps
stated_leaves stated.Assign ps = three ps
stated_leaves s ps = four ps

opened_takes : (o : Opened) → takes (action.Open o) ≡ 0
opened_takes opened.Missing = refl
opened_takes o = refl

leaves : (a : Action) (ps : List Part) → Leaves (takes a) ps (built a ps)
leaves action.Keep ps = same ps
leaves action.Floor ps = same ps
leaves (action.Open o) ps = λ h. omega (arith, opened_takes o)
leaves (action.Add a) ps = added_leaves a ps
leaves (action.Make m) ps = made_leaves m ps
leaves (action.State s) ps = stated_leaves s ps

-- ---- what stands in an alternative

abbrev given_by : Terminal → ℕ
given_by (a_terminal.Passed k) = 0
given_by a = 1

-- of so many parts, how many are there behind these symbols, if each rule finds what it takes
abbrev behind : ℕ → Symbols language → Option ℕ
behind n [] = Some n
behind n (terminal a ∷ xs) = behind (given_by a + n) xs
behind n (rule r ∷ xs) = if nat_le (taken_by r) n then behind (suc (n - taken_by r)) xs else None

-- the end takes all that the rule took and made
abbrev ends_even : Choice → Option ℕ → Bool
ends_even c None = false
ends_even c (Some n) = nat_eq n (takes (action_of c))

abbrev is_even : Choice → Bool
is_even c = ends_even c (behind (taken_by (head c)) (symbols_of (body c)))

are_even : every is_even choices ≡ true
are_even = refl

found : (c : Choice) (o : Option ℕ) → ends_even c o ≡ true → o ≡ Some (takes (action_of c))
found c None e = absurd (grind arith)
found c (Some n) e = ap Some (eqb-true n (takes (action_of c)) e)

even : (c : Choice) → behind (taken_by (head c)) (symbols_of (body c)) ≡ Some (takes (action_of c))
unfolding all_choices
even c = found c (behind (taken_by (head c)) (symbols_of (body c))) (every_at all_choices is_even are_even c)

-- ---- whole sources

with_one : (a : Terminal) (k : Token) (ps : List Part) → length (with_token a k ps) ≡ given_by a + length ps
with_one (a_terminal.Passed k) t ps = omega arith
with_one a t ps = omega arith

shifted : (a : Terminal) (k : Token) (v u : Value) → language.shift a k v ≡ Some u → length u.parts ≡ given_by a + length v.parts
shifted a k v u e = on (may_stand a k.kind v.parts) e
  where
    on : (b : Bool) → (if b then Some (taken a k v) else None) ≡ Some u → length u.parts ≡ given_by a + length v.parts
    on true e = let h : taken a k v ≡ u = cc in rw (← h) (with_one a k v.parts)
    on false e = absurd (grind arith)

goes_on : (b : Bool) (o : Option ℕ) (m : ℕ) → (if b then o else None) ≡ Some m → (b ≡ true) × (o ≡ Some m)
goes_on true o m e = (refl, e)
goes_on false o m e = absurd (grind arith)

same_some : (n m : ℕ) → Some n ≡ Some m → n ≡ m
same_some n m e = cc

walk : (s : Parts language) (xs : Symbols language) (v w : Value) → IsWhole language xs s v w → (n m base : ℕ) → behind n xs ≡ Some m → length v.parts ≡ base + n → length w.parts ≡ base + m
walk done [] v w e n m base b h =
    let k : n ≡ m = same_some n m b in
    rw (← e, ← k) h
walk done (terminal a ∷ xs) v w e n m base b h = absurd e
walk done (rule r ∷ xs) v w e n m base b h = absurd e
walk (token t s) [] v w e n m base b h = absurd e
walk (token t s) (terminal a ∷ xs) v w e n m base b h = walk s xs e.0 w e.2 (given_by a + n) m base b (omega (arith, shifted a t v e.0 e.1, h))
walk (token t s) (rule r ∷ xs) v w e n m base b h = absurd e
walk (node c inner s) [] v w e n m base b h = absurd e
walk (node c inner s) (terminal a ∷ xs) v w e n m base b h = absurd e
walk (node c inner s) (rule r ∷ xs) v w e n m base b h =
    let q = goes_on (nat_le (taken_by r) n) (behind (suc (n - taken_by r)) xs) m b in
    let le : taken_by r ≤ n = leb-true (taken_by r) n q.0 in
    let from : taken_by (head c) ≡ taken_by r = ap taken_by e.1 in
    let below = base + (n - taken_by r) in
    let inside : length e.0.parts ≡ below + takes (action_of c) = walk inner (language.body c) v e.0 e.3 (taken_by (head c)) (takes (action_of c)) below (even c) (omega (arith, h, le, from)) in
    let left = leaves (action_of c) e.0.parts (omega (arith, inside)) in
    walk s xs (language.finish c e.0) w e.4 (suc (n - taken_by r)) m base q.1 (omega (arith, left, inside, le))

whole : (s : Start) → behind (length (empty_of s).parts) (rule (rule_of s) ∷ terminal (a_terminal.Passed kind.TextEnd) ∷ []) ≡ Some 1
whole start.Expr = refl
whole s = refl

alone : (ps : List Part) → length ps ≡ 1 → (p : Part) × (ps ≡ p ∷ [])
alone [] h = absurd (omega arith)
alone (p ∷ []) h = (p, refl)
alone (p ∷ q ∷ ps) h = absurd (omega arith)

pub one_part : (s : Start) (ts : List Token) (ps : List Part) → IsRead s ts ps → (p : Part) × (ps ≡ p ∷ [])
one_part s ts ps r =
    let n : length r.0.parts ≡ 0 + 1 = walk r.2.source (rule (rule_of s) ∷ terminal (a_terminal.Passed kind.TextEnd) ∷ []) (empty_of s) r.0 r.2.whole (length (empty_of s).parts) 1 0 (whole s) (omega arith) in
    let p = alone r.0.parts (omega (arith, n)) in
    (p.0, r.1 ∙ p.1)

-- and it is the last one
pub one_read : (s : Start) (ts : List Token) (ps : List Part) (x : Part) → IsRead s ts ps → x ≡ top ps → (p : Part) × (x ≡ p) × IsRead s ts (p ∷ [])
one_read s ts ps x r is = let q = one_part s ts ps r in (q.0, is ∙ ap top q.1, subst (IsRead s ts) q.1 r)
