use Rattle.std.proofs.Common.{refl}
use Rattle.template_tree.proofs.Putting.{mark_put}
use Rattle.template_tree.proofs.put.put_said.Goals as goal

pub returns-in_ok-put_mark-in-Code-clause-puts : goal.returns-in_ok-put_mark-in-Code-clause-puts
returns-in_ok-put_mark-in-Code-clause-puts c = λ file. mark_put file c.args.level c.args.line _ _ _ c.args.comment c.in-Code.is refl (c.in_ok-put_mark-in-Code.ensures.puts file)

pub returns-in_ok-put_mark-in-Elif-clause-puts : goal.returns-in_ok-put_mark-in-Elif-clause-puts
returns-in_ok-put_mark-in-Elif-clause-puts c = λ file. mark_put file c.args.level c.args.line _ _ _ c.args.comment c.in-Elif.is refl (c.in_ok-put_mark-in-Elif.ensures.puts file)

pub returns-in_ok-put_mark-in-Else-clause-puts : goal.returns-in_ok-put_mark-in-Else-clause-puts
returns-in_ok-put_mark-in-Else-clause-puts c = λ file. mark_put file c.args.level c.args.line _ _ _ c.args.comment c.in-Else.is refl (c.in_ok-put_mark-in-Else.ensures.puts file)

pub returns-in_ok-put_mark-in-End-clause-puts : goal.returns-in_ok-put_mark-in-End-clause-puts
returns-in_ok-put_mark-in-End-clause-puts c = λ file. mark_put file c.args.level c.args.line _ _ _ c.args.comment c.in-End.is refl (c.in_ok-put_mark-in-End.ensures.puts file)
