-- The alternative of a rule by the token ahead.
use Rattle.star_grammar.specs.declared.table.Kind.{Kind}
use Rattle.star_grammar.specs.declared.table.Kind.TheVariants as kind
use Rattle.star_grammar.specs.declared.table.Rule.{Rule}
use Rattle.star_grammar.specs.declared.table.Rule.TheVariants as rule
use Rattle.star_grammar.specs.declared.table.Choice.{Choice}
use Rattle.star_grammar.specs.declared.table.Choice.TheVariants as choice

abbrev pub at_top : Kind → Choice
at_top kind.TextEnd = choice.TopEmpty
at_top k = choice.Top

abbrev pub at_top_end : Kind → Choice
at_top_end kind.LineEnd = choice.TopNext
at_top_end k = choice.TopStop

abbrev pub at_file : Kind → Choice
at_file kind.Elif = choice.FileEnd
at_file kind.Else = choice.FileEnd
at_file kind.EndWord = choice.FileEnd
at_file k = choice.File

abbrev pub at_stmt : Kind → Choice
at_stmt kind.Def = choice.DefStmt
at_stmt kind.If = choice.IfStmt
at_stmt kind.For = choice.ForStmt
at_stmt k = choice.SimpleStmt

abbrev pub at_elifs : Kind → Choice
at_elifs kind.Elif = choice.Elif
at_elifs kind.Else = choice.Else
at_elifs k = choice.ElifsEnd

abbrev pub at_header : Kind → Choice
at_header kind.Def = choice.HeaderDef
at_header kind.If = choice.HeaderIf
at_header kind.Elif = choice.HeaderElif
at_header kind.Else = choice.HeaderElse
at_header kind.For = choice.HeaderFor
at_header k = choice.HeaderEnd

abbrev pub at_last_end : Kind → Choice
at_last_end kind.LineEnd = choice.LastEnd
at_last_end k = choice.NoLastEnd

abbrev pub at_simple_more : Kind → Choice
at_simple_more kind.Semicolon = choice.Semicolon
at_simple_more k = choice.SimpleEnd

abbrev pub at_simple_tail : Kind → Choice
at_simple_tail kind.LineEnd = choice.SimpleStop
at_simple_tail kind.TextEnd = choice.SimpleStop
at_simple_tail k = choice.SimpleNext

abbrev pub at_small : Kind → Choice
at_small kind.Return = choice.Return
at_small kind.Break = choice.Break
at_small kind.Continue = choice.Continue
at_small kind.Pass = choice.Pass
at_small kind.Load = choice.Load
at_small k = choice.Statement

abbrev pub at_result : Kind → Choice
at_result kind.Semicolon = choice.NoResult
at_result kind.LineEnd = choice.NoResult
at_result kind.TextEnd = choice.NoResult
at_result k = choice.Result

abbrev pub at_small_more : Kind → Choice
at_small_more kind.Assign = choice.Assign
at_small_more kind.Augment = choice.Augment
at_small_more k = choice.SmallEnd

abbrev pub at_loads : Kind → Choice
at_loads kind.Comma = choice.LoadComma
at_loads k = choice.LoadsEnd

abbrev pub at_load_next : Kind → Choice
at_load_next kind.Text = choice.LoadText
at_load_next kind.Close = choice.LoadStop
at_load_next k = choice.LoadNamed

abbrev pub at_params : Kind → Choice
at_params kind.Colon = choice.ParamsEnd
at_params kind.Close = choice.ParamsEnd
at_params k = choice.Params

abbrev pub at_params_more : Kind → Choice
at_params_more kind.Comma = choice.ParamsComma
at_params_more k = choice.ParamsStop

abbrev pub at_param : Kind → Choice
at_param kind.Star = choice.StarParam
at_param kind.Stars = choice.StarsParam
at_param k = choice.Param

abbrev pub at_default : Kind → Choice
at_default kind.Assign = choice.Default
at_default k = choice.NoDefault

abbrev pub at_star_name : Kind → Choice
at_star_name kind.Name = choice.StarName
at_star_name kind.Constant = choice.StarName
at_star_name k = choice.BareStar

abbrev pub at_expr_more : Kind → Choice
at_expr_more kind.Comma = choice.ExprComma
at_expr_more k = choice.ExprEnd

abbrev pub at_expr_tail : Kind → Choice
at_expr_tail kind.Colon = choice.ExprStop
at_expr_tail kind.Semicolon = choice.ExprStop
at_expr_tail kind.Close = choice.ExprStop
at_expr_tail kind.CloseBracket = choice.ExprStop
at_expr_tail kind.Assign = choice.ExprStop
at_expr_tail kind.Augment = choice.ExprStop
at_expr_tail kind.LineEnd = choice.ExprStop
at_expr_tail kind.TextEnd = choice.ExprStop
at_expr_tail k = choice.ExprNext

abbrev pub at_expr_after : Kind → Choice
at_expr_after kind.Comma = choice.ExprAfter
at_expr_after k = choice.ExprLast

abbrev pub at_test : Kind → Choice
at_test kind.Lambda = choice.Lambda
at_test k = choice.Test

abbrev pub at_test_more : Kind → Choice
at_test_more kind.If = choice.IfElse
at_test_more k = choice.TestEnd

abbrev pub at_or_more : Kind → Choice
at_or_more kind.Or = choice.OrMore
at_or_more k = choice.OrEnd

abbrev pub at_and_more : Kind → Choice
at_and_more kind.And = choice.AndMore
at_and_more k = choice.AndEnd

abbrev pub at_not : Kind → Choice
at_not kind.Not = choice.Not
at_not k = choice.Comparison

abbrev pub at_compare_more : Kind → Choice
at_compare_more kind.Compare = choice.Compare
at_compare_more kind.In = choice.CompareIn
at_compare_more kind.Not = choice.CompareNotIn
at_compare_more k = choice.CompareEnd

abbrev pub at_bar_more : Kind → Choice
at_bar_more kind.Bar = choice.BarMore
at_bar_more k = choice.BarEnd

abbrev pub at_caret_more : Kind → Choice
at_caret_more kind.Caret = choice.CaretMore
at_caret_more k = choice.CaretEnd

abbrev pub at_ampersand_more : Kind → Choice
at_ampersand_more kind.Ampersand = choice.AmpersandMore
at_ampersand_more k = choice.AmpersandEnd

abbrev pub at_shift_more : Kind → Choice
at_shift_more kind.Shift = choice.ShiftMore
at_shift_more k = choice.ShiftEnd

abbrev pub at_sum_more : Kind → Choice
at_sum_more kind.Sign = choice.SumMore
at_sum_more k = choice.SumEnd

abbrev pub at_product_more : Kind → Choice
at_product_more kind.Star = choice.ProductMore
at_product_more kind.Times = choice.ProductMore
at_product_more k = choice.ProductEnd

abbrev pub at_product_step : Kind → Choice
at_product_step kind.Star = choice.StarStep
at_product_step k = choice.TimesStep

abbrev pub at_unary : Kind → Choice
at_unary kind.Sign = choice.Signed
at_unary kind.Tilde = choice.Inverted
at_unary k = choice.Primary

abbrev pub at_primary_more : Kind → Choice
at_primary_more kind.Dot = choice.SuffixMore
at_primary_more kind.Open = choice.SuffixMore
at_primary_more kind.OpenBracket = choice.SuffixMore
at_primary_more k = choice.SuffixEnd

abbrev pub at_suffix : Kind → Choice
at_suffix kind.Dot = choice.SuffixDot
at_suffix kind.Open = choice.SuffixCall
at_suffix k = choice.SuffixIndex

abbrev pub at_subscript : Kind → Choice
at_subscript kind.Colon = choice.From
at_subscript k = choice.At

abbrev pub at_index_more : Kind → Choice
at_index_more kind.Comma = choice.IndexComma
at_index_more kind.Colon = choice.IndexSlice
at_index_more k = choice.IndexEnd

abbrev pub at_optional_test : Kind → Choice
at_optional_test kind.Colon = choice.NotGiven
at_optional_test kind.CloseBracket = choice.NotGiven
at_optional_test k = choice.Given

abbrev pub at_slice_step : Kind → Choice
at_slice_step kind.Colon = choice.SliceStep
at_slice_step k = choice.NoStep

abbrev pub at_operand : Kind → Choice
at_operand kind.Name = choice.Name
at_operand kind.Constant = choice.Constant
at_operand kind.Int = choice.Int
at_operand kind.Text = choice.Text
at_operand kind.Open = choice.Grouped
at_operand kind.OpenBracket = choice.Listed
at_operand k = choice.Dicted

abbrev pub at_inside : Kind → Choice
at_inside kind.Close = choice.Empty
at_inside k = choice.Inside

abbrev pub at_members : Kind → Choice
at_members kind.CloseBracket = choice.NoMembers
at_members k = choice.Members

abbrev pub at_members_more : Kind → Choice
at_members_more kind.For = choice.ListFor
at_members_more kind.Comma = choice.MembersComma
at_members_more k = choice.MembersEnd

abbrev pub at_elements : Kind → Choice
at_elements kind.CloseBracket = choice.ElementsEnd
at_elements k = choice.Elements

abbrev pub at_elements_more : Kind → Choice
at_elements_more kind.Comma = choice.ElementsComma
at_elements_more k = choice.ElementsStop

abbrev pub at_entries : Kind → Choice
at_entries kind.CloseBrace = choice.NoEntries
at_entries k = choice.Entries

abbrev pub at_entries_more : Kind → Choice
at_entries_more kind.For = choice.DictFor
at_entries_more kind.Comma = choice.EntriesComma
at_entries_more k = choice.EntriesEnd

abbrev pub at_pairs : Kind → Choice
at_pairs kind.CloseBrace = choice.PairsEnd
at_pairs k = choice.Pairs

abbrev pub at_pairs_more : Kind → Choice
at_pairs_more kind.Comma = choice.PairsComma
at_pairs_more k = choice.PairsStop

abbrev pub at_clauses : Kind → Choice
at_clauses kind.For = choice.ClauseFor
at_clauses kind.If = choice.ClauseIf
at_clauses k = choice.ClausesEnd

abbrev pub at_args : Kind → Choice
at_args kind.Close = choice.ArgsEnd
at_args kind.TextEnd = choice.ArgsEnd
at_args k = choice.Args

abbrev pub at_args_more : Kind → Choice
at_args_more kind.Comma = choice.ArgsComma
at_args_more k = choice.ArgsStop

abbrev pub at_arg : Kind → Choice
at_arg kind.Star = choice.StarArg
at_arg kind.Stars = choice.StarsArg
at_arg k = choice.Plain

abbrev pub at_arg_more : Kind → Choice
at_arg_more kind.Assign = choice.Named
at_arg_more k = choice.ArgEnd

abbrev pub at_targets_more : Kind → Choice
at_targets_more kind.Comma = choice.TargetsComma
at_targets_more k = choice.TargetsEnd

abbrev pub at_targets_tail : Kind → Choice
at_targets_tail kind.In = choice.TargetsStop
at_targets_tail k = choice.TargetsNext

abbrev pub at_targets_after : Kind → Choice
at_targets_after kind.Comma = choice.TargetsAfter
at_targets_after k = choice.TargetsLast

abbrev pub at_target : Kind → Choice
at_target kind.Name = choice.TargetName
at_target kind.Constant = choice.TargetConstant
at_target kind.Int = choice.TargetInt
at_target kind.Text = choice.TargetText
at_target kind.Open = choice.TargetGroup
at_target kind.OpenBracket = choice.TargetList
at_target k = choice.TargetDict

abbrev pub at_target_more : Kind → Choice
at_target_more kind.OpenBracket = choice.TargetIndex
at_target_more kind.Dot = choice.TargetDot
at_target_more kind.Open = choice.TargetCall
at_target_more k = choice.TargetEnd

abbrev pub at_must_index : Kind → Choice
at_must_index kind.OpenBracket = choice.MustIndex
at_must_index kind.Dot = choice.MustDot
at_must_index k = choice.MustCall

abbrev pub at_target_subscript : Kind → Choice
at_target_subscript kind.Colon = choice.TargetFrom
at_target_subscript k = choice.TargetAt

abbrev pub at_target_after : Kind → Choice
at_target_after kind.Comma = choice.TargetComma
at_target_after kind.Colon = choice.TargetSlice
at_target_after k = choice.TargetStop

abbrev pub at_group_more : Kind → Choice
at_group_more kind.OpenBracket = choice.GroupIndex
at_group_more kind.Dot = choice.GroupDot
at_group_more kind.Open = choice.GroupCall
at_group_more k = choice.GroupEnd

abbrev pub at_group_subscript : Kind → Choice
at_group_subscript kind.Colon = choice.GroupFrom
at_group_subscript k = choice.GroupAt

abbrev pub at_group_after : Kind → Choice
at_group_after kind.Comma = choice.GroupComma
at_group_after kind.Colon = choice.GroupSlice
at_group_after k = choice.GroupStop

abbrev pub predict : Rule → Kind → Choice
predict rule.Top k = at_top k
predict rule.TopEnd k = at_top_end k
predict rule.File k = at_file k
predict rule.Stmt k = at_stmt k
predict rule.Elifs k = at_elifs k
predict rule.DefHead k = choice.DefHead
predict rule.IfHead k = choice.IfHead
predict rule.ElifHead k = choice.ElifHead
predict rule.ElseHead k = choice.ElseHead
predict rule.ForHead k = choice.ForHead
predict rule.EndHead k = choice.EndHead
predict rule.Header k = at_header k
predict rule.Line k = choice.Line
predict rule.LastEnd k = at_last_end k
predict rule.Simple k = choice.Simple
predict rule.SimpleMore k = at_simple_more k
predict rule.SimpleTail k = at_simple_tail k
predict rule.Small k = at_small k
predict rule.Result k = at_result k
predict rule.SmallMore k = at_small_more k
predict rule.LoadsOpen k = choice.LoadsOpen
predict rule.Loads k = at_loads k
predict rule.LoadNext k = at_load_next k
predict rule.LoadOne k = choice.LoadOne
predict rule.LoadAs k = choice.LoadAs
predict rule.ParamsOpen k = choice.ParamsOpen
predict rule.Params k = at_params k
predict rule.ParamsMore k = at_params_more k
predict rule.Param k = at_param k
predict rule.ParamName k = choice.ParamName
predict rule.Default k = at_default k
predict rule.StarName k = at_star_name k
predict rule.StarsName k = choice.StarsName
predict rule.Expr k = choice.Expr
predict rule.ExprMore k = at_expr_more k
predict rule.TupleRest k = choice.TupleRest
predict rule.TupleOpen k = choice.TupleOpen
predict rule.ExprTail k = at_expr_tail k
predict rule.ExprAfter k = at_expr_after k
predict rule.Item k = choice.Item
predict rule.Test k = at_test k
predict rule.TestMore k = at_test_more k
predict rule.Or k = choice.Or
predict rule.OrMore k = at_or_more k
predict rule.OrStep k = choice.OrStep
predict rule.And k = choice.And
predict rule.AndMore k = at_and_more k
predict rule.AndStep k = choice.AndStep
predict rule.Not k = at_not k
predict rule.CompareMore k = at_compare_more k
predict rule.Bar k = choice.Bar
predict rule.BarMore k = at_bar_more k
predict rule.BarStep k = choice.BarStep
predict rule.Caret k = choice.Caret
predict rule.CaretMore k = at_caret_more k
predict rule.CaretStep k = choice.CaretStep
predict rule.Ampersand k = choice.Ampersand
predict rule.AmpersandMore k = at_ampersand_more k
predict rule.AmpersandStep k = choice.AmpersandStep
predict rule.Shift k = choice.Shift
predict rule.ShiftMore k = at_shift_more k
predict rule.ShiftStep k = choice.ShiftStep
predict rule.Sum k = choice.Sum
predict rule.SumMore k = at_sum_more k
predict rule.SumStep k = choice.SignStep
predict rule.Product k = choice.Product
predict rule.ProductMore k = at_product_more k
predict rule.ProductStep k = at_product_step k
predict rule.Unary k = at_unary k
predict rule.PrimaryMore k = at_primary_more k
predict rule.Suffix k = at_suffix k
predict rule.Dot k = choice.Dot
predict rule.Call k = choice.Call
predict rule.Subscript k = at_subscript k
predict rule.IndexMore k = at_index_more k
predict rule.Index k = choice.Index
predict rule.SliceRest k = choice.SliceRest
predict rule.OptionalTest k = at_optional_test k
predict rule.SliceStep k = at_slice_step k
predict rule.Slice k = choice.Slice
predict rule.NoPart k = choice.NoPart
predict rule.Operand k = at_operand k
predict rule.Group k = choice.Group
predict rule.Inside k = at_inside k
predict rule.ExprsOpen k = choice.ExprsOpen
predict rule.List k = choice.List
predict rule.Members k = at_members k
predict rule.MembersMore k = at_members_more k
predict rule.Joined k = choice.Joined
predict rule.Elements k = at_elements k
predict rule.ElementsMore k = at_elements_more k
predict rule.EntriesOpen k = choice.EntriesOpen
predict rule.Dict k = choice.Dict
predict rule.Entries k = at_entries k
predict rule.EntriesMore k = at_entries_more k
predict rule.EntryJoined k = choice.EntryJoined
predict rule.Pairs k = at_pairs k
predict rule.PairsMore k = at_pairs_more k
predict rule.Pair k = choice.Pair
predict rule.ClausesOpen k = choice.ClausesOpen
predict rule.Clauses k = at_clauses k
predict rule.ForClause k = choice.ForClause
predict rule.IfClause k = choice.IfClause
predict rule.Args k = at_args k
predict rule.ArgsMore k = at_args_more k
predict rule.Argument k = choice.Argument
predict rule.Arg k = at_arg k
predict rule.ArgMore k = at_arg_more k
predict rule.Targets k = choice.Targets
predict rule.TargetsMore k = at_targets_more k
predict rule.TargetsRest k = choice.TargetsRest
predict rule.TargetsTail k = at_targets_tail k
predict rule.TargetsAfter k = at_targets_after k
predict rule.TargetItem k = choice.TargetItem
predict rule.Target k = at_target k
predict rule.TargetMore k = at_target_more k
predict rule.MustIndex k = at_must_index k
predict rule.TargetSubscript k = at_target_subscript k
predict rule.TargetAfter k = at_target_after k
predict rule.GroupMore k = at_group_more k
predict rule.GroupSubscript k = at_group_subscript k
predict rule.GroupAfter k = at_group_after k
predict rule.GroupClose k = choice.GroupClose
