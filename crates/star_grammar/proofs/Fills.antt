-- Heights in this language, and how what is begun may end.
use Rattle.std.proofs.Common.{◌≡◌, ℕ, ◌<◌, max, List, [], ◌∷◌, length, Some, None, refl, ap, arith}
use Rattle.std.specs.Prelude.{zero, suc, pos, Bool, true, false, nat_eq, if◌then◌else◌, bytes_eq, codes}
use Rattle.std.proofs.Math.Bool.{and-false}
use Rattle.ll.specs.declared.shapes.Shape.{Shape}
use Rattle.ll.specs.Shapes.{run}
use Rattle.ll.proofs.Laws.{Rising, Completes}
use Rattle.ll.proofs.Heights.{Low, low_same, low_cons, low_up, Measured, closed, Given, Fillings, by_choice, Shallow, rising, completed}
use Rattle.star_tree.specs.declared.code.Param.{Param, out-Param}
use Rattle.star_grammar.specs.declared.table.Choice.{Choice}
use Rattle.star_grammar.specs.declared.table.Choice.TheVariants as choice
use Rattle.star_grammar.specs.declared.table.Kind.{Kind}
use Rattle.star_grammar.specs.declared.table.Kind.TheVariants as kind
use Rattle.star_grammar.specs.declared.table.Rule.{Rule}
use Rattle.star_grammar.specs.declared.table.Rule.TheVariants as rule
use Rattle.star_grammar.specs.declared.table.Terminal.{Terminal}
use Rattle.star_grammar.specs.declared.table.Terminal.TheVariants as terminal
use Rattle.star_grammar.specs.declared.token.Mark.TheVariants as mark
use Rattle.star_grammar.specs.declared.token.Token.{Token}
use Rattle.star_grammar.specs.declared.token.TokenKind.{TokenKind}
use Rattle.star_grammar.specs.declared.token.TokenKind.TheVariants as token
use Rattle.star_grammar.specs.Effects.{least, takes, place}
use Rattle.star_grammar.specs.Language.{language, Value, allowed, may_stand, taken, symbols_of, kind_of_token, is_constant}
use Rattle.star_grammar.specs.Machine.{tables, measure}
use Rattle.star_grammar.specs.Parts.{top, params_in}
use Rattle.star_params.specs.Parameters.{name_of_parameter, has_name}
use Rattle.star_grammar.specs.Table.{head, body}
use Rattle.star_grammar.proofs.Checked.{silent_shapes}
use Rattle.star_grammar.proofs.Numbers.{canon, depth}

-- what each alternative makes of the trees is no less than what its rule does at least
opened : (c : Choice) (xs : List Shape) → Low (run (least (head c)) xs) (closed language measure c xs)
opened choice.Top xs = low_up xs _ (omega arith)
opened choice.File xs = low_up xs _ (omega arith)
opened choice.DefStmt xs = low_cons _ _ _ _ (omega arith) (low_same _)
opened choice.IfStmt xs = low_cons _ _ _ _ (omega arith) (low_same _)
opened choice.ForStmt xs = low_cons _ _ _ _ (omega arith) (low_same _)
opened choice.Elif xs = low_up xs _ (omega arith)
opened choice.Else xs = low_up xs _ (omega arith)
opened choice.HeaderDef xs = low_cons _ _ _ _ (omega arith) (low_same _)
opened choice.HeaderIf xs = low_cons _ _ _ _ (omega arith) (low_same _)
opened choice.HeaderElif xs = low_cons _ _ _ _ (omega arith) (low_same _)
opened choice.HeaderFor xs = low_cons _ _ _ _ (omega arith) (low_same _)
opened choice.SimpleNext xs = low_up xs _ (omega arith)
opened choice.Return xs = low_cons _ _ _ _ (omega arith) (low_same _)
opened choice.Load xs = low_cons _ _ _ _ (omega arith) (low_same _)
opened choice.Statement xs = low_cons _ _ _ _ (omega arith) (low_same _)
opened choice.Result xs = low_cons _ _ _ _ (omega arith) (low_same _)
opened choice.Assign xs = low_cons _ _ _ _ (omega arith) (low_same _)
opened choice.Augment xs = low_cons _ _ _ _ (omega arith) (low_same _)
opened choice.LoadText xs = low_up xs _ (omega arith)
opened choice.LoadNamed xs = low_up xs _ (omega arith)
opened choice.Params xs = low_up xs _ (omega arith)
opened choice.StarParam xs = low_cons _ _ _ _ (omega arith) (low_same _)
opened choice.StarsParam xs = low_cons _ _ _ _ (omega arith) (low_same _)
opened choice.NoDefault xs = low_cons _ _ _ _ (omega arith) (low_same _)
opened choice.StarName xs = low_cons _ _ _ _ (omega arith) (low_same _)
opened choice.ExprComma xs = low_up xs _ (omega arith)
opened choice.ExprNext xs = low_up xs _ (omega arith)
opened choice.Lambda xs = low_cons _ _ _ _ (omega arith) (low_same _)
opened choice.IfElse xs = low_up xs _ (omega arith)
opened choice.OrMore xs = low_up xs _ (omega arith)
opened choice.AndMore xs = low_up xs _ (omega arith)
opened choice.Not xs = low_cons _ _ _ _ (omega arith) (low_same _)
opened choice.Compare xs = low_up xs _ (omega arith)
opened choice.CompareIn xs = low_up xs _ (omega arith)
opened choice.CompareNotIn xs = low_up xs _ (omega arith)
opened choice.BarMore xs = low_up xs _ (omega arith)
opened choice.CaretMore xs = low_up xs _ (omega arith)
opened choice.AmpersandMore xs = low_up xs _ (omega arith)
opened choice.ShiftMore xs = low_up xs _ (omega arith)
opened choice.SumMore xs = low_up xs _ (omega arith)
opened choice.ProductMore xs = low_up xs _ (omega arith)
opened choice.Signed xs = low_cons _ _ _ _ (omega arith) (low_same _)
opened choice.Inverted xs = low_cons _ _ _ _ (omega arith) (low_same _)
opened choice.SuffixMore xs = low_up xs _ (omega arith)
opened choice.SuffixCall xs = low_cons _ _ _ _ (omega arith) (low_same _)
opened choice.SuffixIndex xs = low_cons _ _ _ _ (omega arith) (low_same _)
opened choice.At xs = low_cons _ _ _ _ (omega arith) (low_same _)
opened choice.IndexComma xs = low_cons _ _ _ _ (omega arith) (low_same _)
opened choice.IndexSlice xs = low_cons _ _ _ _ (omega arith) (low_same _)
opened choice.Given xs = low_cons _ _ _ _ (omega arith) (low_same _)
opened choice.Constant xs = low_cons _ _ _ _ (omega arith) (low_same _)
opened choice.Int xs = low_cons _ _ _ _ (omega arith) (low_same _)
opened choice.Text xs = low_cons _ _ _ _ (omega arith) (low_same _)
opened choice.Grouped xs = low_cons _ _ _ _ (omega arith) (low_same _)
opened choice.Listed xs = low_cons _ _ _ _ (omega arith) (low_same _)
opened choice.Dicted xs = low_cons _ _ _ _ (omega arith) (low_same _)
opened choice.Inside xs = low_cons _ _ _ _ (omega arith) (low_same _)
opened choice.Members xs = low_cons _ _ _ _ (omega arith) (low_same _)
opened choice.ListFor xs = low_cons _ _ _ _ (omega arith) (low_same _)
opened choice.Elements xs = low_up xs _ (omega arith)
opened choice.Entries xs = low_up xs _ (omega arith)
opened choice.DictFor xs = low_cons _ _ _ _ (omega arith) (low_same _)
opened choice.Pairs xs = low_up xs _ (omega arith)
opened choice.ClauseFor xs = low_up xs _ (omega arith)
opened choice.ClauseIf xs = low_up xs _ (omega arith)
opened choice.Args xs = low_up xs _ (omega arith)
opened choice.StarArg xs = low_cons _ _ _ _ (omega arith) (low_same _)
opened choice.StarsArg xs = low_cons _ _ _ _ (omega arith) (low_same _)
opened choice.Named xs = low_up xs _ (omega arith)
opened choice.TargetsComma xs = low_up xs _ (omega arith)
opened choice.TargetsNext xs = low_up xs _ (omega arith)
opened choice.TargetConstant xs = low_cons _ _ _ _ (omega arith) (low_same _)
opened choice.TargetInt xs = low_cons _ _ _ _ (omega arith) (low_same _)
opened choice.TargetText xs = low_cons _ _ _ _ (omega arith) (low_same _)
opened choice.TargetGroup xs = low_cons _ _ _ _ (omega arith) (low_same _)
opened choice.TargetList xs = low_cons _ _ _ _ (omega arith) (low_same _)
opened choice.TargetDict xs = low_cons _ _ _ _ (omega arith) (low_same _)
opened choice.TargetIndex xs = low_up xs _ (omega arith)
opened choice.TargetDot xs = low_up xs _ (omega arith)
opened choice.TargetCall xs = low_up xs _ (omega arith)
opened choice.MustDot xs = low_cons _ _ _ _ (omega arith) (low_same _)
opened choice.MustCall xs = low_cons _ _ _ _ (omega arith) (low_same _)
opened choice.TargetFrom xs = low_cons _ _ _ _ (omega arith) (low_same _)
opened choice.TargetComma xs = low_cons _ _ _ _ (omega arith) (low_same _)
opened choice.TargetSlice xs = low_cons _ _ _ _ (omega arith) (low_same _)
opened choice.GroupDot xs = low_cons _ _ _ _ (omega arith) (low_same _)
opened choice.GroupCall xs = low_cons _ _ _ _ (omega arith) (low_same _)
opened choice.GroupEnd xs = low_cons _ _ _ _ (omega arith) (low_same _)
opened choice.GroupFrom xs = low_cons _ _ _ _ (omega arith) (low_same _)
opened choice.GroupComma xs = low_cons _ _ _ _ (omega arith) (low_same _)
opened choice.GroupSlice xs = low_cons _ _ _ _ (omega arith) (low_same _)
opened c xs = low_same _

shifted : (b : Bool) (u w : Value) → (if b then Some u else None) ≡ Some w → w ≡ u
shifted true u w e = cc
shifted false u w e = absurd (grind arith)

pub measured : Measured language measure
measured = record {
  finished = λ c v. refl;
  shifted = λ a k v w e. ap (λ (u : Value). u.shapes) (shifted (may_stand a k.kind v.parts) (taken a k v) w e);
  opened = λ c v a. opened c v.shapes;
  silent = silent_shapes;
  high = λ v. refl;
}

pub risen : Rising language tables
risen = rising language measure measured tables (λ s v. refl)

-- ---- a name that is free

longest : List Param → ℕ
longest [] = 0
longest (p ∷ ps) = max (length (name_of_parameter (out-Param p))) (longest ps)

-- a name of so many letters
letters : ℕ → List ℕ
letters zero = []
letters (suc n) = 97 ∷ letters n

length-letters : (n : ℕ) → length (letters n) ≡ n
unfolding letters
length-letters zero = refl
length-letters (suc n) = ap suc (length-letters n)

other_name : (x : List ℕ) (n : ℕ) → length x < n → bytes_eq x (letters n) ≡ false
unfolding letters
other_name [] zero lt = absurd (omega arith)
other_name [] (suc n) lt = refl
other_name (a ∷ x) zero lt = absurd (omega arith)
other_name (a ∷ x) (suc n) lt = rw (other_name x n (omega arith)) (and-false (nat_eq a 97))

none_has : (n : ℕ) (ps : List Param) → longest ps < n → has_name (letters n) ps ≡ false
unfolding longest
none_has n [] lt = refl
none_has n (p ∷ ps) lt = rw (other_name (name_of_parameter (out-Param p)) n (omega arith)) (none_has n ps (omega arith))

-- ---- a token for each place

example : Kind → TokenKind
example kind.Name = token.Name (codes "x")
example kind.Constant = token.Name (codes "None")
example kind.Int = token.Int (pos 0)
example kind.Text = token.Text []
example kind.Comma = token.Mark mark.Comma
example kind.Colon = token.Mark mark.Colon
example kind.Semicolon = token.Mark mark.Semicolon
example kind.Dot = token.Mark mark.Dot
example kind.Open = token.Mark mark.Open
example kind.Close = token.Mark mark.Close
example kind.OpenBracket = token.Mark mark.OpenBracket
example kind.CloseBracket = token.Mark mark.CloseBracket
example kind.OpenBrace = token.Mark mark.OpenBrace
example kind.CloseBrace = token.Mark mark.CloseBrace
example kind.Assign = token.Mark mark.Assign
example kind.Augment = token.Mark mark.PlusAssign
example kind.Compare = token.Mark mark.Less
example kind.Bar = token.Mark mark.Bar
example kind.Caret = token.Mark mark.Caret
example kind.Ampersand = token.Mark mark.Ampersand
example kind.Shift = token.Mark mark.ShiftLeft
example kind.Sign = token.Mark mark.Plus
example kind.Star = token.Mark mark.Star
example kind.Stars = token.Mark mark.Stars
example kind.Times = token.Mark mark.Percent
example kind.Tilde = token.Mark mark.Tilde
example kind.And = token.Mark mark.And
example kind.Break = token.Mark mark.Break
example kind.Continue = token.Mark mark.Continue
example kind.Def = token.Mark mark.Def
example kind.Elif = token.Mark mark.Elif
example kind.Else = token.Mark mark.Else
example kind.EndWord = token.Mark mark.End
example kind.For = token.Mark mark.For
example kind.If = token.Mark mark.If
example kind.In = token.Mark mark.In
example kind.Lambda = token.Mark mark.Lambda
example kind.Load = token.Mark mark.Load
example kind.Not = token.Mark mark.Not
example kind.Or = token.Mark mark.Or
example kind.Pass = token.Mark mark.Pass
example kind.Return = token.Mark mark.Return
example kind.LineEnd = token.Mark mark.LineEnd
example kind.TextEnd = token.Mark mark.TextEnd

stands : (k : Kind) → nat_eq (place (kind_of_token (example k))) (place k) ≡ true
unfolding example
stands kind.Name = refl
stands k = refl

-- a name may stand where any name may, whether it is a constant or not
any_name : (b : Bool) → takes terminal.Param (if b then kind.Constant else kind.Name) ≡ true
any_name true = refl
any_name false = refl

token_of : TokenKind → Token
token_of k = record { kind = k; start = 0; end = 0; line = 0 }

given : (a : Terminal) (k : TokenKind) (v : Value) → may_stand a k v.parts ≡ true → Given language measure a v
unfolding token_of
given a k v e = record { token = token_of k; value = taken a (token_of k) v; shifts = rw e refl }

tokens : (a : Terminal) (v : Value) → Given language measure a v
tokens (terminal.Kept k) v = given (terminal.Kept k) (example k) v (rw (stands k) refl)
tokens (terminal.Passed k) v = given (terminal.Passed k) (example k) v (rw (stands k) refl)
tokens (terminal.Leaf k) v = given (terminal.Leaf k) (example k) v (rw (stands k) refl)
tokens (terminal.Enter k) v = given (terminal.Enter k) (example k) v (rw (stands k) refl)
tokens terminal.Leave v = given terminal.Leave (token.Mark mark.End) v refl
tokens terminal.Word v = given terminal.Word (token.Name (codes "x")) v refl
tokens terminal.Param v =
    let n = suc (longest (params_in (top v.parts))) in
    given terminal.Param (token.Name (letters n)) v (rw (any_name (is_constant (letters n)), none_has n (params_in (top v.parts)) (omega arith)) refl)

-- ---- each rule by the alternative that may always begin

canon_headed : (r : Rule) → head (canon r) ≡ r
canon_headed rule.Top = refl
canon_headed r = refl

canon_allowed : (r : Rule) (v : Value) → allowed (canon r) v ≡ true
canon_allowed rule.Top v = refl
canon_allowed r v = refl

canon_shallow : (r : Rule) → Shallow language measure measured depth (depth r) (symbols_of (body (canon r)))
canon_shallow rule.Top = omega arith
canon_shallow r = omega arith

canon_low : (r : Rule) (xs : List Shape) → Low (closed language measure (canon r) xs) (run (least r) xs)
canon_low rule.Top xs = low_same _
canon_low r xs = low_same _

fillings : Fillings language measure
fillings = record {
  depth = depth;
  tokens = tokens;
  ways = λ r f v. by_choice language measure measured depth tokens r f (canon r) v (canon_headed r) (canon_allowed r v) (canon_shallow r) (canon_low r v.shapes);
}

pub completes : Completes language tables
completes = completed language measure measured tables (λ s v. refl) fillings
