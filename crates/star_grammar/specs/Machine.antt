-- What bounds the turns of the machine at one token, and the machine itself.
use Rattle.std.specs.Prelude.{ℕ, Bool, true, false, Some}
use Rattle.ll.specs.Machine.{Tables}
use Rattle.ll.specs.Measure.{Measure, weigh}
use Rattle.star_grammar.specs.declared.table.Kind.{Kind}
use Rattle.star_grammar.specs.declared.table.Rule.{Rule}
use Rattle.star_grammar.specs.declared.table.Rule.TheVariants as rule
use Rattle.star_grammar.specs.Effects.{effect, given, least}
use Rattle.star_grammar.specs.Language.{language, kind_of_token}
use Rattle.star_grammar.specs.Predict.{predict}

-- how many alternatives may be opened before a token is taken
abbrev pub rank : Rule → ℕ
rank rule.Top = 18
rank rule.File = 18
rank rule.Stmt = 17
rank rule.Elifs = 2
rank rule.Header = 2
rank rule.Line = 17
rank rule.Simple = 16
rank rule.SimpleTail = 16
rank rule.Small = 15
rank rule.Result = 15
rank rule.LoadNext = 2
rank rule.Params = 3
rank rule.Param = 2
rank rule.Expr = 14
rank rule.ExprMore = 3
rank rule.TupleRest = 2
rank rule.ExprTail = 15
rank rule.Item = 14
rank rule.Test = 13
rank rule.Or = 12
rank rule.OrMore = 2
rank rule.And = 11
rank rule.AndMore = 2
rank rule.Not = 10
rank rule.Bar = 9
rank rule.BarMore = 2
rank rule.Caret = 8
rank rule.CaretMore = 2
rank rule.Ampersand = 7
rank rule.AmpersandMore = 2
rank rule.Shift = 6
rank rule.ShiftMore = 2
rank rule.Sum = 5
rank rule.SumMore = 2
rank rule.Product = 4
rank rule.ProductMore = 2
rank rule.Unary = 3
rank rule.PrimaryMore = 3
rank rule.Suffix = 2
rank rule.Subscript = 14
rank rule.IndexMore = 3
rank rule.SliceRest = 19
rank rule.OptionalTest = 14
rank rule.Operand = 2
rank rule.Inside = 15
rank rule.Members = 14
rank rule.MembersMore = 4
rank rule.Elements = 15
rank rule.Entries = 14
rank rule.EntriesMore = 4
rank rule.Pairs = 15
rank rule.Pair = 14
rank rule.Clauses = 2
rank rule.Args = 16
rank rule.Argument = 15
rank rule.Arg = 14
rank rule.Targets = 3
rank rule.TargetsMore = 3
rank rule.TargetsRest = 2
rank rule.TargetsTail = 4
rank rule.TargetItem = 3
rank rule.Target = 2
rank rule.TargetMore = 2
rank rule.MustIndex = 2
rank rule.TargetSubscript = 14
rank rule.TargetAfter = 3
rank rule.GroupMore = 2
rank rule.GroupSubscript = 14
rank rule.GroupAfter = 3
rank r = 1

-- no alternative is empty
abbrev pub solid : Rule → Bool
solid rule.Top = false
solid rule.TopEnd = false
solid rule.File = false
solid rule.Elifs = false
solid rule.LastEnd = false
solid rule.SimpleMore = false
solid rule.SimpleTail = false
solid rule.Result = false
solid rule.SmallMore = false
solid rule.LoadsOpen = false
solid rule.Loads = false
solid rule.LoadNext = false
solid rule.ParamsOpen = false
solid rule.Params = false
solid rule.ParamsMore = false
solid rule.Default = false
solid rule.StarName = false
solid rule.ExprMore = false
solid rule.ExprTail = false
solid rule.ExprAfter = false
solid rule.TestMore = false
solid rule.OrMore = false
solid rule.AndMore = false
solid rule.CompareMore = false
solid rule.BarMore = false
solid rule.CaretMore = false
solid rule.AmpersandMore = false
solid rule.ShiftMore = false
solid rule.SumMore = false
solid rule.ProductMore = false
solid rule.PrimaryMore = false
solid rule.OptionalTest = false
solid rule.SliceStep = false
solid rule.NoPart = false
solid rule.Inside = false
solid rule.ExprsOpen = false
solid rule.Members = false
solid rule.MembersMore = false
solid rule.Joined = false
solid rule.Elements = false
solid rule.ElementsMore = false
solid rule.EntriesOpen = false
solid rule.Entries = false
solid rule.EntriesMore = false
solid rule.EntryJoined = false
solid rule.Pairs = false
solid rule.PairsMore = false
solid rule.ClausesOpen = false
solid rule.Clauses = false
solid rule.Args = false
solid rule.ArgsMore = false
solid rule.ArgMore = false
solid rule.TargetsMore = false
solid rule.TargetsTail = false
solid rule.TargetsAfter = false
solid rule.TargetMore = false
solid rule.GroupMore = false
solid r = true

abbrev pub measure : Measure language
measure = record { shapes = λ v. v.shapes; effect = effect; given = given; least = least }

abbrev pub tables : Tables language
tables = record { Class = Kind; class = λ k. kind_of_token k.kind; predict = λ r k. Some (predict r k); rank = rank; solid = solid; least = weigh language measure }
