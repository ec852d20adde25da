-- How high the trees are that alternatives and tokens make, and whether they are targets. A literal or a name is one
-- level high, and so is each pair of brackets, which is no level of its own where it belongs to a display, a call or
-- an index; what may be left out is none.
use Rattle.std.specs.Prelude.{ℕ, nat_eq, Bool, true, false, ◌&&◌, ◌||◌, List, [], ◌∷◌}
use Rattle.ll.specs.declared.shapes.Effect.{Effect}
use Rattle.ll.specs.declared.shapes.Effect.TheVariants as gives
use Rattle.ll.specs.declared.shapes.Flag.{Flag}
use Rattle.ll.specs.declared.shapes.Flag.TheVariants as is
use Rattle.star_grammar.specs.declared.table.Kind.{Kind}
use Rattle.star_grammar.specs.declared.table.Kind.TheVariants as kind
use Rattle.star_grammar.specs.declared.table.Rule.{Rule}
use Rattle.star_grammar.specs.declared.table.Rule.TheVariants as rule
use Rattle.star_grammar.specs.declared.table.Choice.{Choice}
use Rattle.star_grammar.specs.declared.table.Terminal.{Terminal}
use Rattle.star_grammar.specs.declared.table.Terminal.TheVariants as terminal
use Rattle.star_grammar.specs.declared.table.Action.{Action}
use Rattle.star_grammar.specs.declared.table.Action.TheVariants as action
use Rattle.star_grammar.specs.declared.table.Opened.{Opened}
use Rattle.star_grammar.specs.declared.table.Opened.TheVariants as opened
use Rattle.star_grammar.specs.declared.table.Added.{Added}
use Rattle.star_grammar.specs.declared.table.Added.TheVariants as added
use Rattle.star_grammar.specs.declared.table.Made.{Made}
use Rattle.star_grammar.specs.declared.table.Made.TheVariants as made
use Rattle.star_grammar.specs.declared.table.Stated.{Stated}
use Rattle.star_grammar.specs.declared.table.Stated.TheVariants as stated
use Rattle.star_grammar.specs.Table.{action_of}

abbrev pub opened_effect : Opened → Effect
opened_effect opened.Exprs = gives.Push 0 is.Always
opened_effect opened.Entries = gives.Push 0 is.Never
opened_effect opened.Clauses = gives.Push 0 is.Never
opened_effect opened.Params = gives.Push 0 is.Never
opened_effect opened.Loads = gives.Push 0 is.Never
opened_effect opened.Missing = gives.Push 0 is.Never
opened_effect opened.NoResult = gives.Push 1 is.Never
opened_effect opened.EmptyTuple = gives.Push 1 is.Never

abbrev pub added_effect : Added → Effect
added_effect added.First = gives.Beside 1 is.All
added_effect added.Item = gives.Beside 2 is.All
added_effect added.EmptyList = gives.Beside 1 is.Never
added_effect added.ListFor = gives.Beside 3 is.Never
added_effect added.DictFor = gives.Beside 4 is.Never
added_effect added.Entry = gives.Beside 3 is.Never
added_effect added.ForClause = gives.Beside 3 is.Never
added_effect added.IfClause = gives.Beside 2 is.Never
added_effect added.Required = gives.Beside 2 is.Never
added_effect added.Default = gives.Beside 2 is.Never
added_effect added.Star = gives.Beside 2 is.Never
added_effect added.BareStar = gives.Floor
added_effect added.Stars = gives.Beside 2 is.Never
added_effect added.Load = gives.Beside 2 is.Never
added_effect added.LoadAs = gives.Beside 3 is.Never
added_effect added.GroupIndex = gives.Beside 3 is.Always

abbrev pub made_effect : Made → Effect
made_effect made.Tuple = gives.Node 1 is.All
made_effect made.Group = gives.Node 2 is.All
made_effect made.List = gives.Node 2 is.All
made_effect made.Dict = gives.Node 2 is.Never
made_effect made.Unary = gives.Node 2 is.Never
made_effect made.Binary = gives.Node 3 is.Never
made_effect made.Conditional = gives.Node 4 is.Never
made_effect made.Lambda = gives.Node 3 is.Never
made_effect made.Dot = gives.Node 3 is.Never
made_effect made.Call = gives.Node 3 is.Never
made_effect made.Index = gives.Node 3 is.Always
made_effect made.Slice = gives.Node 5 is.Never
made_effect made.Named = gives.Node 2 is.Never
made_effect made.Starred = gives.Node 2 is.Never

abbrev pub stated_effect : Stated → Effect
stated_effect stated.Word = gives.Beside 2 is.Never
stated_effect stated.WordExpr = gives.Beside 3 is.Never
stated_effect stated.Load = gives.Beside 4 is.Never
stated_effect stated.Assign = gives.Beside 3 is.Never
stated_effect stated.Augment = gives.Beside 4 is.Never
stated_effect stated.Evaluate = gives.Beside 2 is.Never
stated_effect stated.For = gives.Beside 4 is.Never
stated_effect stated.Def = gives.Beside 4 is.Never

abbrev pub effect_of : Action → Effect
effect_of action.Keep = gives.Keep
effect_of action.Floor = gives.Floor
effect_of (action.Open a) = opened_effect a
effect_of (action.Add a) = added_effect a
effect_of (action.Make a) = made_effect a
effect_of (action.State a) = stated_effect a

abbrev pub effect : Choice → Effect
effect c = effect_of (action_of c)

abbrev pub is_keep : Action → Bool
is_keep action.Keep = true
is_keep a = false

-- its end makes nothing
abbrev pub silent : Choice → Bool
silent c = is_keep (action_of c)

-- ---- tokens

-- a name may be a target
abbrev pub leaf_flag : Kind → Flag
leaf_flag kind.Name = is.Always
leaf_flag k = is.Never

abbrev pub given : Terminal → Effect
given (terminal.Kept k) = gives.Push 0 is.Always
given (terminal.Passed k) = gives.Keep
given (terminal.Leaf k) = gives.Push 1 (leaf_flag k)
given terminal.Word = gives.Push 0 is.Never
given terminal.Param = gives.Push 1 is.Never
given (terminal.Enter k) = gives.Push 0 is.Always
given terminal.Leave = gives.Push 0 is.Always

abbrev pub kind_of : Terminal → Kind
kind_of (terminal.Kept k) = k
kind_of (terminal.Passed k) = k
kind_of (terminal.Leaf k) = k
kind_of terminal.Word = kind.Name
kind_of terminal.Param = kind.Name
kind_of (terminal.Enter k) = k
kind_of terminal.Leave = kind.EndWord

-- any name, a constant too
abbrev pub is_any_name : Terminal → Bool
is_any_name terminal.Word = true
is_any_name terminal.Param = true
is_any_name a = false

abbrev pub place : Kind → ℕ
place kind.Name = 0
place kind.Constant = 1
place kind.Int = 2
place kind.Text = 3
place kind.Comma = 4
place kind.Colon = 5
place kind.Semicolon = 6
place kind.Dot = 7
place kind.Open = 8
place kind.Close = 9
place kind.OpenBracket = 10
place kind.CloseBracket = 11
place kind.OpenBrace = 12
place kind.CloseBrace = 13
place kind.Assign = 14
place kind.Augment = 15
place kind.Compare = 16
place kind.Bar = 17
place kind.Caret = 18
place kind.Ampersand = 19
place kind.Shift = 20
place kind.Sign = 21
place kind.Star = 22
place kind.Stars = 23
place kind.Times = 24
place kind.Tilde = 25
place kind.And = 26
place kind.Break = 27
place kind.Continue = 28
place kind.Def = 29
place kind.Elif = 30
place kind.Else = 31
place kind.EndWord = 32
place kind.For = 33
place kind.If = 34
place kind.In = 35
place kind.Lambda = 36
place kind.Load = 37
place kind.Not = 38
place kind.Or = 39
place kind.Pass = 40
place kind.Return = 41
place kind.LineEnd = 42
place kind.TextEnd = 43

abbrev pub takes : Terminal → Kind → Bool
takes a k = nat_eq (place k) (place (kind_of a)) || (is_any_name a && nat_eq (place k) (place kind.Constant))

-- ---- what a rule makes at least

abbrev pub least : Rule → List Effect
least rule.Stmt = gives.Push 0 is.Always ∷ gives.Beside 2 is.Never ∷ []
least rule.DefHead = gives.Push 0 is.Always ∷ gives.Push 0 is.Never ∷ gives.Push 0 is.Never ∷ gives.Beside 4 is.Never ∷ []
least rule.IfHead = gives.Push 0 is.Always ∷ gives.Push 1 is.Always ∷ gives.Beside 3 is.Never ∷ []
least rule.ElifHead = gives.Push 0 is.Always ∷ gives.Push 1 is.Always ∷ gives.Beside 3 is.Never ∷ []
least rule.ElseHead = gives.Push 0 is.Always ∷ gives.Beside 2 is.Never ∷ []
least rule.ForHead = gives.Push 0 is.Always ∷ gives.Push 1 is.Always ∷ gives.Push 1 is.Always ∷ gives.Beside 4 is.Never ∷ []
least rule.EndHead = gives.Push 0 is.Always ∷ gives.Beside 2 is.Never ∷ []
least rule.Header = gives.Push 0 is.Always ∷ gives.Beside 2 is.Never ∷ []
least rule.Line = gives.Push 0 is.Always ∷ gives.Beside 2 is.Never ∷ []
least rule.Simple = gives.Push 0 is.Always ∷ gives.Beside 2 is.Never ∷ []
least rule.Small = gives.Push 0 is.Always ∷ gives.Beside 2 is.Never ∷ []
least rule.Result = gives.Push 1 is.Never ∷ []
least rule.SmallMore = gives.Beside 2 is.Never ∷ []
least rule.LoadsOpen = gives.Push 0 is.Never ∷ []
least rule.LoadOne = gives.Push 1 is.Never ∷ gives.Beside 2 is.Never ∷ []
least rule.LoadAs = gives.Push 0 is.Never ∷ gives.Push 1 is.Never ∷ gives.Beside 3 is.Never ∷ []
least rule.ParamsOpen = gives.Push 0 is.Never ∷ []
least rule.Param = gives.Push 1 is.Never ∷ gives.Beside 2 is.Never ∷ gives.Push 1 is.Always ∷ gives.Beside 2 is.Never ∷ []
least rule.ParamName = gives.Push 1 is.Never ∷ gives.Beside 2 is.Never ∷ []
least rule.Default = gives.Push 1 is.Always ∷ gives.Beside 2 is.Never ∷ []
least rule.StarName = gives.Floor ∷ []
least rule.StarsName = gives.Push 1 is.Never ∷ gives.Beside 2 is.Never ∷ []
least rule.Expr = gives.Push 1 is.Always ∷ []
least rule.TupleRest = gives.Beside 1 is.All ∷ gives.Node 1 is.All ∷ []
least rule.TupleOpen = gives.Beside 1 is.All ∷ []
least rule.Item = gives.Push 1 is.Always ∷ gives.Beside 2 is.All ∷ []
least rule.Test = gives.Push 1 is.Always ∷ []
least rule.Or = gives.Push 1 is.Always ∷ []
least rule.OrStep = gives.Push 0 is.Always ∷ gives.Push 1 is.Always ∷ gives.Node 3 is.Never ∷ []
least rule.And = gives.Push 1 is.Always ∷ []
least rule.AndStep = gives.Push 0 is.Always ∷ gives.Push 1 is.Always ∷ gives.Node 3 is.Never ∷ []
least rule.Not = gives.Push 1 is.Always ∷ []
least rule.Bar = gives.Push 1 is.Always ∷ []
least rule.BarStep = gives.Push 0 is.Always ∷ gives.Push 1 is.Always ∷ gives.Node 3 is.Never ∷ []
least rule.Caret = gives.Push 1 is.Always ∷ []
least rule.CaretStep = gives.Push 0 is.Always ∷ gives.Push 1 is.Always ∷ gives.Node 3 is.Never ∷ []
least rule.Ampersand = gives.Push 1 is.Always ∷ []
least rule.AmpersandStep = gives.Push 0 is.Always ∷ gives.Push 1 is.Always ∷ gives.Node 3 is.Never ∷ []
least rule.Shift = gives.Push 1 is.Always ∷ []
least rule.ShiftStep = gives.Push 0 is.Always ∷ gives.Push 1 is.Always ∷ gives.Node 3 is.Never ∷ []
least rule.Sum = gives.Push 1 is.Always ∷ []
least rule.SumStep = gives.Push 0 is.Always ∷ gives.Push 1 is.Always ∷ gives.Node 3 is.Never ∷ []
least rule.Product = gives.Push 1 is.Always ∷ []
least rule.ProductStep = gives.Push 0 is.Always ∷ gives.Push 1 is.Always ∷ gives.Node 3 is.Never ∷ []
least rule.Unary = gives.Push 1 is.Always ∷ []
least rule.Suffix = gives.Push 0 is.Always ∷ gives.Push 0 is.Never ∷ gives.Node 3 is.Never ∷ []
least rule.Dot = gives.Push 0 is.Always ∷ gives.Push 0 is.Never ∷ gives.Node 3 is.Never ∷ []
least rule.Call = gives.Push 0 is.Always ∷ gives.Push 0 is.Always ∷ gives.Node 3 is.Never ∷ []
least rule.Subscript = gives.Push 0 is.Never ∷ gives.Push 0 is.Never ∷ gives.Push 0 is.Never ∷ gives.Node 5 is.Never ∷ []
least rule.IndexMore = gives.Node 3 is.Always ∷ []
least rule.Index = gives.Node 3 is.Always ∷ []
least rule.SliceRest = gives.Push 0 is.Never ∷ gives.Push 0 is.Never ∷ gives.Node 5 is.Never ∷ []
least rule.OptionalTest = gives.Push 0 is.Never ∷ []
least rule.SliceStep = gives.Push 0 is.Never ∷ []
least rule.Slice = gives.Node 5 is.Never ∷ []
least rule.NoPart = gives.Push 0 is.Never ∷ []
least rule.Operand = gives.Push 1 is.Always ∷ []
least rule.Group = gives.Push 0 is.Always ∷ gives.Push 1 is.Never ∷ gives.Node 2 is.All ∷ []
least rule.Inside = gives.Push 1 is.Never ∷ []
least rule.ExprsOpen = gives.Push 0 is.Always ∷ []
least rule.List = gives.Push 0 is.Always ∷ gives.Push 0 is.Always ∷ gives.Beside 1 is.Never ∷ gives.Node 2 is.All ∷ []
least rule.Members = gives.Beside 1 is.Never ∷ []
least rule.MembersMore = gives.Beside 2 is.All ∷ []
least rule.Joined = gives.Beside 2 is.All ∷ []
least rule.EntriesOpen = gives.Push 0 is.Never ∷ []
least rule.Dict = gives.Push 0 is.Always ∷ gives.Push 0 is.Never ∷ gives.Node 2 is.Never ∷ []
least rule.EntriesMore = gives.Beside 3 is.Never ∷ []
least rule.EntryJoined = gives.Beside 3 is.Never ∷ []
least rule.Pair = gives.Push 1 is.Always ∷ gives.Push 1 is.Always ∷ gives.Beside 3 is.Never ∷ []
least rule.ClausesOpen = gives.Push 0 is.Never ∷ []
least rule.ForClause = gives.Push 1 is.Always ∷ gives.Push 1 is.Always ∷ gives.Beside 3 is.Never ∷ []
least rule.IfClause = gives.Push 1 is.Always ∷ gives.Beside 2 is.Never ∷ []
least rule.Argument = gives.Push 1 is.Always ∷ gives.Beside 2 is.All ∷ []
least rule.Arg = gives.Push 1 is.Always ∷ []
least rule.Targets = gives.Push 1 is.Always ∷ []
least rule.TargetsRest = gives.Beside 1 is.All ∷ gives.Node 1 is.All ∷ []
least rule.TargetItem = gives.Push 1 is.Always ∷ gives.Beside 2 is.All ∷ []
least rule.Target = gives.Push 1 is.Always ∷ []
least rule.MustIndex = gives.Push 0 is.Always ∷ gives.Push 1 is.Always ∷ gives.Node 3 is.Always ∷ []
least rule.TargetSubscript = gives.Push 1 is.Always ∷ gives.Node 3 is.Always ∷ []
least rule.TargetAfter = gives.Node 3 is.Always ∷ []
least rule.GroupMore = gives.Push 0 is.Always ∷ gives.Push 1 is.Always ∷ gives.Beside 3 is.Always ∷ []
least rule.GroupSubscript = gives.Push 1 is.Always ∷ gives.Beside 3 is.Always ∷ []
least rule.GroupAfter = gives.Beside 3 is.Always ∷ []
least rule.GroupClose = gives.Beside 3 is.Always ∷ []
least r = []
