-- By how much what waits makes a tree higher, and how high a new alternative makes a text.
use Rattle.std.proofs.Common.{◌≡◌, ℕ, ◌+◌, ◌≤◌, max, List, [], ◌∷◌, length, true, refl, ap, subst, sym, ◌∙◌, arith}
use Rattle.std.proofs.lemmas.Bool.{leb-true}
use Rattle.std.specs.Prelude.{leb, zero, suc, Bool, false, if◌then◌else◌}
use Rattle.ll.specs.declared.shapes.Effect.{Effect}
use Rattle.ll.specs.declared.shapes.Effect.TheVariants as gives
use Rattle.ll.specs.declared.shapes.Shape.{Shape}
use Rattle.ll.specs.Shapes.{apply, highest, past, run, top, under}
use Rattle.ll.proofs.Heights.{closed, walk}
use Rattle.star_grammar.specs.declared.table.Action.{Action}
use Rattle.star_grammar.specs.declared.table.Action.TheVariants as action
use Rattle.star_grammar.specs.declared.table.Choice.{Choice}
use Rattle.star_grammar.specs.declared.table.Choice.TheVariants as choice
use Rattle.star_grammar.specs.declared.table.Rule.{Rule}
use Rattle.star_grammar.specs.declared.table.Rule.TheVariants as rule
use Rattle.star_grammar.specs.declared.table.Symbol.{Symbol}
use Rattle.star_grammar.specs.declared.table.Symbol.TheVariants as symbol
use Rattle.star_grammar.specs.declared.table.Terminal.{Terminal}
use Rattle.star_grammar.specs.declared.table.Terminal.TheVariants as terminal
use Rattle.star_grammar.specs.Effects.{effect, effect_of, given, is_keep, least, silent}
use Rattle.star_grammar.specs.Language.{language, symbols_of}
use Rattle.star_grammar.specs.Machine.{measure}
use Rattle.star_grammar.specs.Reading.{max_height}
use Rattle.star_grammar.specs.Table.{action_of, body, head}
use Rattle.star_grammar.proofs.Checked.{silent_shapes}
use Rattle.star_machine.specs.declared.growth.Growth.{Growth}
use Rattle.star_machine.specs.declared.growth.Growth.TheVariants as grows
use Rattle.star_machine.specs.declared.pending.Item.{Item}
use Rattle.star_machine.specs.declared.pending.Item.TheVariants as item
use Rattle.star_machine.specs.Pending.{ended, opened, wanted, wants_rule}
use Rattle.star_machine.specs.Turns.{along, passed, weigh}
use Rattle.star_machine.specs.Weights.{added, growth, grown, rise, rise_of, rises, rises_in, Weighed}
use Rattle.star_machine.specs.declared.weight.Weight.{Weight}
use Rattle.star_machine.proofs.Lists.{one}

-- ---- how many levels what waits puts on

rule_rises : (r : Rule) → leb (rises_in (least r)) 1 ≡ true
rule_rises rule.Top = refl
rule_rises r = refl

choice_rises : (c : Choice) → leb (rise (effect c)) 1 ≡ true
choice_rises choice.Top = refl
choice_rises c = refl

item_rises : (x : Item) → rise_of x ≤ 1
item_rises (item.Close c) = leb-true (rise (effect c)) 1 (choice_rises c)
item_rises (item.Want (symbol.Token a)) = omega arith
item_rises (item.Want (symbol.Rule r)) = leb-true (rises_in (least r)) 1 (rule_rises r)

pub rises_few : (items : List Item) → rises items ≤ length items
rises_few [] = omega arith
rises_few (x ∷ xs) = omega (arith, item_rises x, rises_few xs)

terminal_rise : (a : Terminal) → rise (given a) ≡ 0
terminal_rise (terminal.Kept k) = refl
terminal_rise (terminal.Passed k) = refl
terminal_rise (terminal.Leaf k) = refl
terminal_rise terminal.Word = refl
terminal_rise terminal.Param = refl
terminal_rise (terminal.Enter k) = refl
terminal_rise terminal.Leave = refl

abbrev symbol_rises : List Symbol → ℕ
symbol_rises [] = 0
symbol_rises (x ∷ xs) = rise_of (item.Want x) + symbol_rises xs

adds : (c : Choice) → rises_in (least (head c)) + added (growth c) ≡ symbol_rises (body c) + rise (effect c)
adds choice.Top = refl
adds c = refl

quiet : (a : Action) → is_keep a ≡ true → rise (effect_of a) ≡ 0
quiet action.Keep e = refl
quiet action.Floor e = absurd (grind arith)
quiet (action.Open a) e = absurd (grind arith)
quiet (action.Add a) e = absurd (grind arith)
quiet (action.Make a) e = absurd (grind arith)
quiet (action.State a) e = absurd (grind arith)

rises_wanted : (ss : List Symbol) (rest : List Item) → rises (wanted ss rest) ≡ symbol_rises ss + rises rest
rises_wanted [] rest = omega arith
rises_wanted (s ∷ ss) rest = omega (arith, rises_wanted ss rest)

rises_ended : (c : Choice) (rest : List Item) → rises (ended c rest) ≡ rise (effect c) + rises rest
rises_ended c rest = on (silent c) refl
  where
    on : (b : Bool) → silent c ≡ b → rises (if b then rest else item.Close c ∷ rest) ≡ rise (effect c) + rises rest
    on true e = omega (arith, quiet (action_of c) e)
    on false e = refl

pub rises_opened : (c : Choice) (rest : List Item) → rises (opened c rest) ≡ (rises_in (least (head c)) + added (growth c)) + rises rest
rises_opened c rest = omega (arith, adds c, rises_wanted (body c) (ended c rest), rises_ended c rest)

length_wanted : (ss : List Symbol) (rest : List Item) → length rest ≤ length (wanted ss rest)
length_wanted [] rest = omega arith
length_wanted (s ∷ ss) rest = omega (arith, length_wanted ss rest)

length_ended : (c : Choice) (rest : List Item) → length rest ≤ length (ended c rest)
length_ended c rest = on (silent c)
  where
    on : (b : Bool) → length rest ≤ length (if b then rest else item.Close c ∷ rest)
    on true = omega arith
    on false = omega arith

pub length_opened : (c : Choice) (rest : List Item) → length rest ≤ length (opened c rest)
length_opened c rest = omega (arith, length_wanted (body c) (ended c rest), length_ended c rest)

-- ---- trees that are as low, but for some that are no higher than so many levels

abbrev Near : ℕ → List Shape → List Shape → Type 0
Near b xs ys = (n : ℕ) → (top (past n ys)).high ≤ max (top (past n xs)).high b

near_same : (b : ℕ) (xs : List Shape) → Near b xs xs
near_same b xs n = omega arith

near_more : (b c : ℕ) (xs ys : List Shape) → b ≤ c → Near b xs ys → Near c xs ys
near_more b c xs ys le p n = omega (arith, le, p n)

near_cons : (b : ℕ) (x y : Shape) (xs ys : List Shape) → y.high ≤ max x.high b → Near b xs ys → Near b (x ∷ xs) (y ∷ ys)
near_cons b x y xs ys p q zero = p
near_cons b x y xs ys p q (suc n) = q n

near_up : (b : ℕ) (xs : List Shape) (y : Shape) → y.high ≤ max (top xs).high b → Near b xs (y ∷ under xs)
near_up b xs y p zero = p
near_up b xs y p (suc n) = omega arith

near_under : (b : ℕ) (xs ys : List Shape) → Near b xs ys → Near b (under xs) (under ys)
near_under b xs ys p n = p (suc n)

near_past : (m b : ℕ) (xs ys : List Shape) → Near b xs ys → Near b (past m xs) (past m ys)
near_past zero b xs ys p = p
near_past (suc m) b xs ys p = near_past m b (under xs) (under ys) (near_under b xs ys p)

near_highest : (m b : ℕ) (xs ys : List Shape) → Near b xs ys → highest m ys ≤ max (highest m xs) b
near_highest zero b xs ys p = omega arith
near_highest (suc m) b xs ys p = omega (arith, p 0, near_highest m b (under xs) (under ys) (near_under b xs ys p))

near_apply : (e : Effect) (b : ℕ) (xs ys : List Shape) → Near b xs ys → Near (b + rise e) (apply e xs) (apply e ys)
near_apply gives.Keep b xs ys p = near_more b (b + 0) xs ys (omega arith) p
near_apply (gives.Push n f) b xs ys p = near_cons (b + 0) _ _ xs ys (omega arith) (near_more b (b + 0) xs ys (omega arith) p)
near_apply (gives.Node n f) b xs ys p =
    near_cons (b + 1) _ _ (past n xs) (past n ys) (omega (arith, near_highest n b xs ys p)) (near_more b (b + 1) (past n xs) (past n ys) (omega arith) (near_past n b xs ys p))
near_apply (gives.Beside n f) b xs ys p =
    near_cons (b + 0) _ _ (past n xs) (past n ys) (omega (arith, near_highest n b xs ys p)) (near_more b (b + 0) (past n xs) (past n ys) (omega arith) (near_past n b xs ys p))
near_apply gives.Floor b xs ys p = near_cons (b + 0) _ _ (under xs) (under ys) (omega (arith, p 0)) (near_more b (b + 0) (under xs) (under ys) (omega arith) (near_under b xs ys p))

near_run : (es : List Effect) (b : ℕ) (xs ys : List Shape) → Near b xs ys → Near (b + rises_in es) (run es xs) (run es ys)
near_run [] b xs ys p = near_more b (b + 0) xs ys (omega arith) p
near_run (e ∷ es) b xs ys p =
    near_more ((b + rise e) + rises_in es) (b + (rise e + rises_in es)) (run es (apply e xs)) (run es (apply e ys)) (omega arith) (near_run es (b + rise e) (apply e xs) (apply e ys) (near_apply e b xs ys p))

near_passed : (x : Item) (b : ℕ) (xs ys : List Shape) → Near b xs ys → Near (b + rise_of x) (passed x xs) (passed x ys)
near_passed (item.Close c) b xs ys p = near_apply (effect c) b xs ys p
near_passed (item.Want (symbol.Token a)) b xs ys p =
    near_more (b + rise (given a)) (b + 0) (apply (given a) xs) (apply (given a) ys) (omega (arith, terminal_rise a)) (near_apply (given a) b xs ys p)
near_passed (item.Want (symbol.Rule r)) b xs ys p = near_run (least r) b xs ys p

near_along : (items : List Item) (b : ℕ) (xs ys : List Shape) → Near b xs ys → Near (b + rises items) (along items xs) (along items ys)
near_along [] b xs ys p = near_more b (b + 0) xs ys (omega arith) p
near_along (x ∷ rest) b xs ys p =
    subst (λ l. Near (b + rises (x ∷ rest)) l (along (x ∷ rest) ys)) (sym (one x rest xs))
    (subst (λ l. Near (b + rises (x ∷ rest)) (along rest (passed x xs)) l) (sym (one x rest ys))
    (near_more ((b + rise_of x) + rises rest) (b + rises (x ∷ rest)) (along rest (passed x xs)) (along rest (passed x ys)) (omega arith)
    (near_along rest (b + rise_of x) (passed x xs) (passed x ys) (near_passed x b xs ys p))))

-- ---- what an alternative makes, and what its rule makes at least

high_three : (xs : List Shape) → highest 3 xs ≤ highest (length xs) xs
high_three [] = omega arith
high_three (x ∷ []) = omega arith
high_three (x ∷ y ∷ []) = omega arith
high_three (x ∷ y ∷ z ∷ xs) = omega arith

near_opened : (c : Choice) (xs : List Shape) → Near (grown (growth c) xs + rises_in (least (head c))) (run (least (head c)) xs) (closed language measure c xs)
near_opened choice.Top xs = near_up _ xs _ (omega arith)
near_opened choice.File xs = near_up _ xs _ (omega arith)
near_opened choice.DefStmt xs = near_cons _ _ _ _ _ (omega arith) (near_same _ _)
near_opened choice.IfStmt xs = near_cons _ _ _ _ _ (omega arith) (near_same _ _)
near_opened choice.ForStmt xs = near_cons _ _ _ _ _ (omega arith) (near_same _ _)
near_opened choice.Elif xs = near_up _ xs _ (omega arith)
near_opened choice.Else xs = near_up _ xs _ (omega arith)
near_opened choice.HeaderDef xs = near_cons _ _ _ _ _ (omega arith) (near_same _ _)
near_opened choice.HeaderIf xs = near_cons _ _ _ _ _ (omega arith) (near_same _ _)
near_opened choice.HeaderElif xs = near_cons _ _ _ _ _ (omega arith) (near_same _ _)
near_opened choice.HeaderFor xs = near_cons _ _ _ _ _ (omega arith) (near_same _ _)
near_opened choice.SimpleNext xs = near_up _ xs _ (omega arith)
near_opened choice.Return xs = near_cons _ _ _ _ _ (omega arith) (near_same _ _)
near_opened choice.Load xs = near_cons _ _ _ _ _ (omega arith) (near_same _ _)
near_opened choice.Statement xs = near_cons _ _ _ _ _ (omega arith) (near_same _ _)
near_opened choice.Result xs = near_cons _ _ _ _ _ (omega arith) (near_same _ _)
near_opened choice.Assign xs = near_cons _ _ _ _ _ (omega arith) (near_same _ _)
near_opened choice.Augment xs = near_cons _ _ _ _ _ (omega arith) (near_same _ _)
near_opened choice.LoadText xs = near_up _ xs _ (omega arith)
near_opened choice.LoadNamed xs = near_up _ xs _ (omega arith)
near_opened choice.Params xs = near_up _ xs _ (omega arith)
near_opened choice.StarParam xs = near_cons _ _ _ _ _ (omega arith) (near_same _ _)
near_opened choice.StarsParam xs = near_cons _ _ _ _ _ (omega arith) (near_same _ _)
near_opened choice.NoDefault xs = near_cons _ _ _ _ _ (omega arith) (near_same _ _)
near_opened choice.StarName xs = near_cons _ _ _ _ _ (omega arith) (near_same _ _)
near_opened choice.ExprComma xs = near_up _ xs _ (omega arith)
near_opened choice.ExprNext xs = near_up _ xs _ (omega arith)
near_opened choice.Lambda xs = near_cons _ _ _ _ _ (omega arith) (near_same _ _)
near_opened choice.IfElse xs = near_up _ xs _ (omega arith)
near_opened choice.OrMore xs = near_up _ xs _ (omega arith)
near_opened choice.AndMore xs = near_up _ xs _ (omega arith)
near_opened choice.Not xs = near_cons _ _ _ _ _ (omega arith) (near_same _ _)
near_opened choice.Compare xs = near_up _ xs _ (omega arith)
near_opened choice.CompareIn xs = near_up _ xs _ (omega arith)
near_opened choice.CompareNotIn xs = near_up _ xs _ (omega arith)
near_opened choice.BarMore xs = near_up _ xs _ (omega arith)
near_opened choice.CaretMore xs = near_up _ xs _ (omega arith)
near_opened choice.AmpersandMore xs = near_up _ xs _ (omega arith)
near_opened choice.ShiftMore xs = near_up _ xs _ (omega arith)
near_opened choice.SumMore xs = near_up _ xs _ (omega arith)
near_opened choice.ProductMore xs = near_up _ xs _ (omega arith)
near_opened choice.Signed xs = near_cons _ _ _ _ _ (omega arith) (near_same _ _)
near_opened choice.Inverted xs = near_cons _ _ _ _ _ (omega arith) (near_same _ _)
near_opened choice.SuffixMore xs = near_up _ xs _ (omega arith)
near_opened choice.SuffixCall xs = near_cons _ _ _ _ _ (omega arith) (near_same _ _)
near_opened choice.SuffixIndex xs = near_cons _ _ _ _ _ (omega arith) (near_same _ _)
near_opened choice.At xs = near_cons _ _ _ _ _ (omega arith) (near_same _ _)
near_opened choice.IndexComma xs = near_cons _ _ _ _ _ (omega arith) (near_same _ _)
near_opened choice.IndexSlice xs = near_cons _ _ _ _ _ (omega arith) (near_same _ _)
near_opened choice.Given xs = near_cons _ _ _ _ _ (omega arith) (near_same _ _)
near_opened choice.Constant xs = near_cons _ _ _ _ _ (omega arith) (near_same _ _)
near_opened choice.Int xs = near_cons _ _ _ _ _ (omega arith) (near_same _ _)
near_opened choice.Text xs = near_cons _ _ _ _ _ (omega arith) (near_same _ _)
near_opened choice.Grouped xs = near_cons _ _ _ _ _ (omega arith) (near_same _ _)
near_opened choice.Listed xs = near_cons _ _ _ _ _ (omega arith) (near_same _ _)
near_opened choice.Dicted xs = near_cons _ _ _ _ _ (omega arith) (near_same _ _)
near_opened choice.Inside xs = near_cons _ _ _ _ _ (omega arith) (near_same _ _)
near_opened choice.Members xs = near_cons _ _ _ _ _ (omega arith) (near_same _ _)
near_opened choice.ListFor xs = near_cons _ _ _ _ _ (omega arith) (near_same _ _)
near_opened choice.Elements xs = near_up _ xs _ (omega arith)
near_opened choice.Entries xs = near_up _ xs _ (omega arith)
near_opened choice.DictFor xs = near_cons _ _ _ _ _ (omega arith) (near_same _ _)
near_opened choice.Pairs xs = near_up _ xs _ (omega arith)
near_opened choice.ClauseFor xs = near_up _ xs _ (omega arith)
near_opened choice.ClauseIf xs = near_up _ xs _ (omega arith)
near_opened choice.Args xs = near_up _ xs _ (omega arith)
near_opened choice.StarArg xs = near_cons _ _ _ _ _ (omega arith) (near_same _ _)
near_opened choice.StarsArg xs = near_cons _ _ _ _ _ (omega arith) (near_same _ _)
near_opened choice.Named xs = near_up _ xs _ (omega arith)
near_opened choice.TargetsComma xs = near_up _ xs _ (omega arith)
near_opened choice.TargetsNext xs = near_up _ xs _ (omega arith)
near_opened choice.TargetConstant xs = near_cons _ _ _ _ _ (omega arith) (near_same _ _)
near_opened choice.TargetInt xs = near_cons _ _ _ _ _ (omega arith) (near_same _ _)
near_opened choice.TargetText xs = near_cons _ _ _ _ _ (omega arith) (near_same _ _)
near_opened choice.TargetGroup xs = near_cons _ _ _ _ _ (omega arith) (near_same _ _)
near_opened choice.TargetList xs = near_cons _ _ _ _ _ (omega arith) (near_same _ _)
near_opened choice.TargetDict xs = near_cons _ _ _ _ _ (omega arith) (near_same _ _)
near_opened choice.TargetIndex xs = near_up _ xs _ (omega arith)
near_opened choice.TargetDot xs = near_up _ xs _ (omega arith)
near_opened choice.TargetCall xs = near_up _ xs _ (omega arith)
near_opened choice.MustDot xs = near_cons _ _ _ _ _ (omega arith) (near_same _ _)
near_opened choice.MustCall xs = near_cons _ _ _ _ _ (omega arith) (near_same _ _)
near_opened choice.TargetFrom xs = near_cons _ _ _ _ _ (omega (arith, high_three xs)) (near_same _ _)
near_opened choice.TargetComma xs = near_cons _ _ _ _ _ (omega arith) (near_same _ _)
near_opened choice.TargetSlice xs = near_cons _ _ _ _ _ (omega (arith, high_three xs)) (near_same _ _)
near_opened choice.GroupDot xs = near_cons _ _ _ _ _ (omega arith) (near_same _ _)
near_opened choice.GroupCall xs = near_cons _ _ _ _ _ (omega arith) (near_same _ _)
near_opened choice.GroupEnd xs = near_cons _ _ _ _ _ (omega arith) (near_same _ _)
near_opened choice.GroupFrom xs = near_cons _ _ _ _ _ (omega (arith, high_three xs)) (near_same _ _)
near_opened choice.GroupComma xs = near_cons _ _ _ _ _ (omega arith) (near_same _ _)
near_opened choice.GroupSlice xs = near_cons _ _ _ _ _ (omega (arith, high_three xs)) (near_same _ _)
near_opened c xs = near_same _ _

along_wanted : (ss : List Symbol) (rest : List Item) (xs : List Shape) → along (wanted ss rest) xs ≡ along rest (walk language measure (symbols_of ss) xs)
along_wanted [] rest xs = refl
along_wanted (symbol.Token a ∷ ss) rest xs = along_wanted ss rest (apply (given a) xs)
along_wanted (symbol.Rule r ∷ ss) rest xs = along_wanted ss rest (run (least r) xs)

along_ended : (c : Choice) (rest : List Item) (xs : List Shape) → along (ended c rest) xs ≡ along rest (apply (effect c) xs)
along_ended c rest xs = on (silent c) refl
  where
    on : (b : Bool) → silent c ≡ b → along (if b then rest else item.Close c ∷ rest) xs ≡ along rest (apply (effect c) xs)
    on true e = ap (along rest) (sym (silent_shapes c xs e))
    on false e = refl

along_opened : (c : Choice) (rest : List Item) (xs : List Shape) → along (opened c rest) xs ≡ along rest (closed language measure c xs)
along_opened c rest xs = along_wanted (body c) (ended c rest) xs ∙ along_ended c rest (walk language measure (symbols_of (body c)) xs)

-- an alternative in place of its rule makes no text higher than its own new tree, with the levels on it that waited
weigh_opened : (c : Choice) (rest : List Item) (xs : List Shape) → weigh (opened c rest) xs ≤ max (weigh (wants_rule (head c) ∷ rest) xs) (grown (growth c) xs + rises (wants_rule (head c) ∷ rest))
weigh_opened c rest xs =
    let e : weigh (opened c rest) xs ≡ (top (along rest (closed language measure c xs))).high = ap (λ ys. (top ys).high) (along_opened c rest xs) in
    let near = near_along rest (grown (growth c) xs + rises_in (least (head c))) (run (least (head c)) xs) (closed language measure c xs) (near_opened c xs) 0 in
    omega (arith, e, near)

-- no alternative puts on more levels than the tree has that it makes
abbrev fair : Growth → Bool
fair (grows.New high levels) = leb levels high
fair g = true

all_fair : (c : Choice) → fair (growth c) ≡ true
all_fair choice.Top = refl
all_fair c = refl

few_added : (g : Growth) (xs : List Shape) → fair g ≡ true → added g ≤ grown g xs
few_added grows.None xs e = omega arith
few_added (grows.New high levels) xs e = leb-true levels high e
few_added (grows.Above levels) xs e = omega arith
few_added (grows.Around levels) xs e = omega arith

-- an alternative is opened
pub still_weighed : (w v : Weight) (c : Choice) (rest : List Item) (xs : List Shape) → v.rises ≡ w.rises + added (growth c)
    → (v.low ≡ true → (w.low ≡ true) × (grown (growth c) xs + w.rises ≤ max_height)) → Weighed w (wants_rule (head c) ∷ rest) xs → Weighed v (opened c rest) xs
still_weighed w v c rest xs e stays is = record {
  counted = omega (arith, e, is.counted, rises_opened c rest);
  low = λ yes.
      let p = stays yes in
      let before = is.low p.0 in
      let room = p.1 in
      omega (arith, before, room, is.counted, weigh_opened c rest xs);
  few = λ yes.
      let p = stays yes in
      let room = p.1 in
      omega (arith, e, room, few_added (growth c) xs (all_fair c));
}

-- one is opened that makes nothing higher
pub unchanged_weighed : (w : Weight) (c : Choice) (rest : List Item) (xs : List Shape) → growth c ≡ grows.None → Weighed w (wants_rule (head c) ∷ rest) xs → Weighed w (opened c rest) xs
unchanged_weighed w c rest xs e is =
    let none : added (growth c) ≡ 0 = ap added e in
    let flat : grown (growth c) xs ≡ 0 = ap (λ g. grown g xs) e in
    still_weighed w w c rest xs (omega (arith, none)) (λ yes. let few = is.few yes in (yes, omega (arith, flat, few))) is
