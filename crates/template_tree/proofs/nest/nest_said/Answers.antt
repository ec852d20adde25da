use Rattle.std.proofs.Common.{ap, ◌∙◌}
use Rattle.ytt_base.specs.Outcomes.{place_at}
use Rattle.star_tree.specs.View.{item_kind_of}
use Rattle.notes_read.specs.declared.comment.Comment.TheVariants as comment
use Rattle.template_tree.specs.Nests.{nested_of}
use Rattle.template_tree.proofs.Nesting.{done_same, said_same}
use Rattle.template_tree.proofs.nest.nest_said.Goals as goal

pub returns-in-Code : goal.returns-in-Code
returns-in-Code c = λ file. done_same _ _ _ _ (c.put_statements.ensures file) (said_same file (item_kind_of c.args.kind) (place_at file c.args.place.line) (nested_of file c.args.nested.now) c.args.comment _ c.in-Code.is)

pub returns-then-for_one : goal.returns-then-for_one
returns-then-for_one c = λ file. done_same _ _ _ _ (c.around_one.ensures file) (said_same file (item_kind_of c.args.kind) (place_at file c.args.place.line) (nested_of file c.args.nested.now) c.args.comment _ (c.in-Open.is ∙ ap (comment.Open c.in-Open.header) c.if-for_one.true))

pub returns-else-for_one : goal.returns-else-for_one
returns-else-for_one c = λ file. done_same _ _ _ _ (c.open_block.ensures file) (said_same file (item_kind_of c.args.kind) (place_at file c.args.place.line) (nested_of file c.args.nested.now) c.args.comment _ (c.in-Open.is ∙ ap (comment.Open c.in-Open.header) c.if-for_one.false))

pub returns-in-Elif : goal.returns-in-Elif
returns-in-Elif c = λ file. done_same _ _ _ _ (c.next_branch.ensures file) (said_same file (item_kind_of c.args.kind) (place_at file c.args.place.line) (nested_of file c.args.nested.now) c.args.comment _ c.in-Elif.is)

pub returns-in-Else : goal.returns-in-Else
returns-in-Else c = λ file. c.last_branch.ensures file ∙ said_same file (item_kind_of c.args.kind) (place_at file c.args.place.line) (nested_of file c.args.nested.now) c.args.comment _ c.in-Else.is

pub returns-in-End : goal.returns-in-End
returns-in-End c = λ file. done_same _ _ _ _ (c.close_block.ensures file) (said_same file (item_kind_of c.args.kind) (place_at file c.args.place.line) (nested_of file c.args.nested.now) c.args.comment _ c.in-End.is)
