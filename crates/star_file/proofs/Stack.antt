-- How many parts each rule of the grammar takes off those that were read, and how many it puts in their place.
use Rattle.std.proofs.Common.{◌≡◌, ℕ, ◌+◌, ◌-◌, ◌&&◌, nat_eq, Bool, true, false, List, [], ◌∷◌, Some, None, drop, refl, sym, ap, ◌∙◌, subst, arith, rules, if◌then◌else◌}
use Rattle.std.proofs.lemmas.Bool.Decides.{nat_tests}
use Rattle.std.proofs.lemmas.List.{drop-drop}
use Rattle.ll.specs.Grammar.{Parts, done, token, node, IsWhole}
use Rattle.star_grammar.specs.declared.part.Part.{Part}
use Rattle.star_grammar.specs.declared.table.Action.{Action}
use Rattle.star_grammar.specs.declared.table.Action.TheVariants as action
use Rattle.star_grammar.specs.declared.table.Added.{Added}
use Rattle.star_grammar.specs.declared.table.Added.TheVariants as added
use Rattle.star_grammar.specs.declared.table.Choice.{Choice}
use Rattle.star_grammar.specs.declared.table.Choice.TheVariants as choice
use Rattle.star_grammar.specs.declared.table.Made.{Made}
use Rattle.star_grammar.specs.declared.table.Made.TheVariants as made
use Rattle.star_grammar.specs.declared.table.Rule.{Rule}
use Rattle.star_grammar.specs.declared.table.Rule.TheVariants as ruled
use Rattle.star_grammar.specs.declared.table.Stated.{Stated}
use Rattle.star_grammar.specs.declared.table.Stated.TheVariants as stated
use Rattle.star_grammar.specs.declared.table.Symbol.{Symbol}
use Rattle.star_grammar.specs.declared.table.Symbol.TheVariants as symbol
use Rattle.star_grammar.specs.declared.table.Terminal.{Terminal}
use Rattle.star_grammar.specs.declared.table.Terminal.TheVariants as terminals
use Rattle.star_grammar.specs.declared.token.Token.{Token}
use Rattle.star_grammar.specs.Effects.{takes}
use Rattle.star_grammar.specs.Language.{Value, ended, is_free, kind_of_token, language, may_stand, symbols_of, taken, with_token}
use Rattle.star_grammar.specs.Parts.{under}
use Rattle.star_grammar.specs.Table.{action_of, body, head}
use Rattle.star_grammar.specs.Trees.{added_parts, built, made_parts, stated_parts}

-- so many parts are taken, and so many put
pub record Move : Type 0 where
  pub off : ℕ
  pub put : ℕ

abbrev pub move : ℕ → ℕ → Move
move n m = record { off = n; put = m }

-- what stands under those that are put stood under those that were taken
abbrev pub Moves : Move → List Part → List Part → Type 0
Moves m ps qs = drop m.put qs ≡ drop m.off ps

-- ---- of tokens and ends

abbrev pub token_move : Terminal → Move
token_move (terminals.Passed k) = move 0 0
token_move a = move 0 1

abbrev added_move : Added → Move
added_move added.First = move 1 1
added_move added.Item = move 2 1
added_move added.EmptyList = move 0 0
added_move added.ListFor = move 3 1
added_move added.DictFor = move 4 1
added_move added.Entry = move 3 1
added_move added.ForClause = move 3 1
added_move added.IfClause = move 2 1
added_move added.Required = move 2 1
added_move added.Default = move 2 1
added_move added.Star = move 2 1
added_move added.BareStar = move 1 1
added_move added.Stars = move 2 1
added_move added.Load = move 2 1
added_move added.LoadAs = move 3 1
added_move added.GroupIndex = move 3 1

abbrev made_move : Made → Move
made_move made.Tuple = move 0 0
made_move made.Group = move 2 1
made_move made.List = move 2 1
made_move made.Dict = move 2 1
made_move made.Unary = move 2 1
made_move made.Binary = move 3 1
made_move made.Conditional = move 4 1
made_move made.Lambda = move 3 1
made_move made.Dot = move 3 1
made_move made.Call = move 3 1
made_move made.Index = move 3 1
made_move made.Slice = move 5 1
made_move made.Named = move 2 1
made_move made.Starred = move 2 1

abbrev stated_move : Stated → Move
stated_move stated.Word = move 2 1
stated_move stated.WordExpr = move 3 1
stated_move stated.Load = move 4 1
stated_move stated.Assign = move 3 1
stated_move stated.Augment = move 4 1
stated_move stated.Evaluate = move 2 1
stated_move stated.For = move 4 1
stated_move stated.Def = move 4 1

abbrev pub action_move : Action → Move
action_move action.Keep = move 0 0
action_move action.Floor = move 0 0
action_move (action.Open o) = move 0 1
action_move (action.Add a) = added_move a
action_move (action.Make m) = made_move m
action_move (action.State s) = stated_move s

-- ---- of rules

abbrev pub rule_move : Rule → Move
rule_move ruled.LastEnd = move 0 0
rule_move ruled.Result = move 0 1
rule_move ruled.LoadsOpen = move 0 1
rule_move ruled.ParamsOpen = move 0 1
rule_move ruled.Expr = move 0 1
rule_move ruled.Test = move 0 1
rule_move ruled.Or = move 0 1
rule_move ruled.And = move 0 1
rule_move ruled.Not = move 0 1
rule_move ruled.Bar = move 0 1
rule_move ruled.Caret = move 0 1
rule_move ruled.Ampersand = move 0 1
rule_move ruled.Shift = move 0 1
rule_move ruled.Sum = move 0 1
rule_move ruled.Product = move 0 1
rule_move ruled.Unary = move 0 1
rule_move ruled.OptionalTest = move 0 1
rule_move ruled.SliceStep = move 0 1
rule_move ruled.NoPart = move 0 1
rule_move ruled.Operand = move 0 1
rule_move ruled.Group = move 0 1
rule_move ruled.Inside = move 0 1
rule_move ruled.ExprsOpen = move 0 1
rule_move ruled.List = move 0 1
rule_move ruled.EntriesOpen = move 0 1
rule_move ruled.Dict = move 0 1
rule_move ruled.ClausesOpen = move 0 1
rule_move ruled.Arg = move 0 1
rule_move ruled.Targets = move 0 1
rule_move ruled.Target = move 0 1
rule_move ruled.SmallMore = move 2 1
rule_move ruled.Subscript = move 2 1
rule_move ruled.MembersMore = move 2 1
rule_move ruled.Joined = move 2 1
rule_move ruled.TargetSubscript = move 2 1
rule_move ruled.GroupSubscript = move 2 1
rule_move ruled.IndexMore = move 3 1
rule_move ruled.Index = move 3 1
rule_move ruled.SliceRest = move 3 1
rule_move ruled.EntriesMore = move 3 1
rule_move ruled.EntryJoined = move 3 1
rule_move ruled.TargetAfter = move 3 1
rule_move ruled.GroupAfter = move 3 1
rule_move ruled.GroupClose = move 3 1
rule_move ruled.Slice = move 5 1
rule_move r = move 1 1

-- ---- one after another

abbrev pub both : Move → Move → Move
both a b = move (a.off + (b.off - a.put)) ((a.put - b.off) + b.put)

abbrev pub moves_of : List Symbol → Move
moves_of [] = move 0 0
moves_of (symbol.Token a ∷ xs) = both (token_move a) (moves_of xs)
moves_of (symbol.Rule r ∷ xs) = both (rule_move r) (moves_of xs)

-- the move is this one, but for parts under all that it touches
abbrev pub is_within : Move → Move → Bool
is_within a b = nat_eq (a.off + (b.off - a.off)) b.off && nat_eq (a.put + (b.off - a.off)) b.put

abbrev pub choice_move : Choice → Move
choice_move c = both (moves_of (body c)) (action_move (action_of c))

-- each alternative takes and puts what its rule does
pub each_within : (c : Choice) → is_within (choice_move c) (rule_move (head c)) ≡ true
each_within choice.Top = refl
each_within c = refl

both_move : (a b : Move) (ps qs rs : List Part) → Moves a ps qs → Moves b qs rs → Moves (both a b) ps rs
both_move a b ps qs rs h g =
    ap (λ k. drop k rs) (omega arith)
    ∙ sym (drop-drop (a.put - b.off) b.put rs)
    ∙ ap (drop (a.put - b.off)) g
    ∙ drop-drop (a.put - b.off) b.off qs
    ∙ ap (λ k. drop k qs) (omega arith)
    ∙ sym (drop-drop (b.off - a.put) a.put qs)
    ∙ ap (drop (b.off - a.put)) h
    ∙ drop-drop (b.off - a.put) a.off ps

same_number : (n m : ℕ) → nat_eq n m ≡ true → n ≡ m
same_number n m e = grind (arith, nat_tests)

two_true : (a b : Bool) → (a && b) ≡ true → (a ≡ true) × (b ≡ true)
two_true true true e = (refl, refl)
two_true true false e = cc
two_true false b e = cc

within_move : (a b : Move) (ps qs : List Part) → is_within a b ≡ true → Moves a ps qs → Moves b ps qs
within_move a b ps qs e h =
    let k = b.off - a.off in
    let two = two_true (nat_eq (a.off + k) b.off) (nat_eq (a.put + k) b.put) e in
    ap (λ n. drop n qs) (sym (same_number (a.put + k) b.put two.1))
    ∙ sym (drop-drop k a.put qs)
    ∙ ap (drop k) h
    ∙ drop-drop k a.off ps
    ∙ ap (λ n. drop n ps) (same_number (a.off + k) b.off two.0)

-- ---- what tokens and ends do

pub token_moves : (a : Terminal) (k : Token) (ps : List Part) → Moves (token_move a) ps (with_token a k ps)
token_moves (terminals.Passed c) k ps = refl
token_moves a k ps = refl

pub past_one : (ps : List Part) → under ps ≡ drop 1 ps
past_one [] = refl
past_one (p ∷ ps) = refl

pub past_2 : (ps : List Part) → under (under ps) ≡ drop 2 ps
past_2 [] = refl
past_2 (p ∷ ps) = past_one ps

pub past_3 : (ps : List Part) → under (under (under ps)) ≡ drop 3 ps
past_3 [] = refl
past_3 (p ∷ ps) = past_2 ps

past_4 : (ps : List Part) → under (under (under (under ps))) ≡ drop 4 ps
past_4 [] = refl
past_4 (p ∷ ps) = past_3 ps

past_5 : (ps : List Part) → under (under (under (under (under ps)))) ≡ drop 5 ps
past_5 [] = refl
past_5 (p ∷ ps) = past_4 ps

added_moves : (a : Added) (ps : List Part) → Moves (added_move a) ps (added_parts a ps)
added_moves added.First ps = past_one ps
added_moves added.Item ps = past_2 ps
added_moves added.EmptyList ps = refl
added_moves added.ListFor ps = past_3 ps
added_moves added.DictFor ps = past_4 ps
added_moves added.Entry ps = past_3 ps
added_moves added.ForClause ps = past_3 ps
added_moves added.IfClause ps = past_2 ps
added_moves added.Required ps = past_2 ps
added_moves added.Default ps = past_2 ps
added_moves added.Star ps = past_2 ps
added_moves added.BareStar ps = past_one ps
added_moves added.Stars ps = past_2 ps
added_moves added.Load ps = past_2 ps
added_moves added.LoadAs ps = past_3 ps
added_moves added.GroupIndex ps = past_3 ps

made_moves : (m : Made) (ps : List Part) → Moves (made_move m) ps (made_parts m ps)
made_moves made.Tuple ps = refl
made_moves made.Group ps = past_2 ps
made_moves made.List ps = past_2 ps
made_moves made.Dict ps = past_2 ps
made_moves made.Unary ps = past_2 ps
made_moves made.Binary ps = past_3 ps
made_moves made.Conditional ps = past_4 ps
made_moves made.Lambda ps = past_3 ps
made_moves made.Dot ps = past_3 ps
made_moves made.Call ps = past_3 ps
made_moves made.Index ps = past_3 ps
made_moves made.Slice ps = past_5 ps
made_moves made.Named ps = past_2 ps
made_moves made.Starred ps = past_2 ps

stated_moves : (s : Stated) (ps : List Part) → Moves (stated_move s) ps (stated_parts s ps)
stated_moves stated.Word ps = past_2 ps
stated_moves stated.WordExpr ps = past_3 ps
stated_moves stated.Load ps = past_4 ps
stated_moves stated.Assign ps = past_3 ps
stated_moves stated.Augment ps = past_4 ps
stated_moves stated.Evaluate ps = past_2 ps
stated_moves stated.For ps = past_4 ps
stated_moves stated.Def ps = past_4 ps

action_moves : (a : Action) (ps : List Part) → Moves (action_move a) ps (built a ps)
action_moves action.Keep ps = refl
action_moves action.Floor ps = refl
action_moves (action.Open o) ps = refl
action_moves (action.Add a) ps = added_moves a ps
action_moves (action.Make m) ps = made_moves m ps
action_moves (action.State s) ps = stated_moves s ps

-- ---- what an alternative does

-- the parts behind each symbol, where of each rule something is known besides
abbrev pub Steps : (Rule → List Part → List Part → Type 0) → List Symbol → List Part → List Part → Type 0
Steps Does [] ps qs = ps ≡ qs
Steps Does (symbol.Token a ∷ xs) ps qs = (k : Token) × (takes a (kind_of_token k.kind) ≡ true) × Steps Does xs (with_token a k ps) qs
Steps Does (symbol.Rule r ∷ xs) ps qs = (rs : List Part) × Moves (rule_move r) ps rs × Does r ps rs × Steps Does xs rs qs

module _ (Does : Rule → List Part → List Part → Type 0) where
  pub steps_move : (xs : List Symbol) (ps qs : List Part) → Steps Does xs ps qs → Moves (moves_of xs) ps qs
  steps_move [] ps qs e = sym e
  steps_move (symbol.Token a ∷ xs) ps qs h = both_move (token_move a) (moves_of xs) ps (with_token a h.0 ps) qs (token_moves a h.0 ps) (steps_move xs (with_token a h.0 ps) qs h.2)
  steps_move (symbol.Rule r ∷ xs) ps qs h = both_move (rule_move r) (moves_of xs) ps h.0 qs h.1 (steps_move xs h.0 qs h.3)

  choice_moves : (c : Choice) (ps qs : List Part) → Steps Does (body c) ps qs → Moves (rule_move (head c)) ps (built (action_of c) qs)
  choice_moves c ps qs h =
      within_move (choice_move c) (rule_move (head c)) ps (built (action_of c) qs) (each_within c)
      (both_move (moves_of (body c)) (action_move (action_of c)) ps qs (built (action_of c) qs) (steps_move (body c) ps qs h) (action_moves (action_of c) qs))

  -- what each alternative does, each of its rules does too
  module _ (choice_does : (c : Choice) (ps qs : List Part) → Steps Does (body c) ps qs → Does (head c) ps (built (action_of c) qs)) where
    shifted : (b : Bool) (u w : Value) → (if b then Some u else None) ≡ Some w → (b ≡ true) × (u ≡ w)
    shifted true u w e = (refl, cc)
    shifted false u w e = absurd (search (rules, e))

    pub whole_steps : (xs : List Symbol) (s : Parts language) (v w : Value) → IsWhole language (symbols_of xs) s v w → Steps Does xs v.parts w.parts
    whole_steps [] done v w r = ap (λ (u : Value). u.parts) r
    whole_steps (symbol.Token a ∷ xs) (token k s) v w r =
        let e = shifted (may_stand a k.kind v.parts) (taken a k v) r.0 r.1 in
        (k, (two_true (takes a (kind_of_token k.kind)) (is_free a k.kind v.parts) e.0).0, whole_steps xs s (taken a k v) w (subst (λ u. IsWhole language (symbols_of xs) s u w) (sym e.1) r.2))
    whole_steps (symbol.Rule q ∷ xs) (node c inner s) v w r =
        let h = whole_steps (body c) inner v r.0 r.3 in
        let made = built (action_of c) r.0.parts in
        (made, subst (λ p. Moves (rule_move p) v.parts made) r.1 (choice_moves c v.parts r.0.parts h), subst (λ p. Does p v.parts made) r.1 (choice_does c v.parts r.0.parts h), whole_steps xs s (ended c r.0) w r.4)
    whole_steps [] (token k s) v w r = absurd r
    whole_steps [] (node c inner s) v w r = absurd r
    whole_steps (symbol.Token a ∷ xs) done v w r = absurd r
    whole_steps (symbol.Token a ∷ xs) (node c inner s) v w r = absurd r
    whole_steps (symbol.Rule q ∷ xs) done v w r = absurd r
    whole_steps (symbol.Rule q ∷ xs) (token k s) v w r = absurd r
