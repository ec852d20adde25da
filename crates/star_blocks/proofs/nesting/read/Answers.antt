use Rattle.std.proofs.Common.{ap, refl}
use Rattle.code_spec.specs.Blocks.{put}
use Rattle.star_blocks.specs.Reading.{parsed_of}
use Rattle.star_blocks.proofs.Forms.{of_assign, of_augment, of_break, of_continue, of_expr, of_load, of_node, of_pass, of_return}
use Rattle.star_blocks.proofs.FromEnd.{read_as}
use Rattle.star_blocks.proofs.nesting.read.Goals as goal

pub returns-in-Expr : goal.returns-in-Expr
returns-in-Expr c = λ file. read_as file _ _ c.put.result _ _ _ c.in-Expr.is (c.put.ensures file) (ap (λ o. put o (parsed_of file c.args.reading.now)) (of_expr file c.in-Expr.line c.in-Expr.value))

pub returns-in-Assign : goal.returns-in-Assign
returns-in-Assign c = λ file. read_as file _ _ c.put-in-Assign.result _ _ _ c.in-Assign.is (c.put-in-Assign.ensures file) (ap (λ o. put o (parsed_of file c.args.reading.now)) (of_assign file c.in-Assign.line c.in-Assign.target c.in-Assign.value))

pub returns-in-Augment : goal.returns-in-Augment
returns-in-Augment c = λ file. read_as file _ _ c.put-in-Augment.result _ _ _ c.in-Augment.is (c.put-in-Augment.ensures file) (ap (λ o. put o (parsed_of file c.args.reading.now)) (of_augment file c.in-Augment.line c.in-Augment.op c.in-Augment.op_line c.in-Augment.target c.in-Augment.value))

pub returns-in-Load : goal.returns-in-Load
returns-in-Load c = λ file. read_as file _ _ c.put-in-Load.result _ _ _ c.in-Load.is (c.put-in-Load.ensures file) (ap (λ o. put o (parsed_of file c.args.reading.now)) (of_load file c.in-Load.line c.in-Load.path c.in-Load.names))

pub returns-in-Return : goal.returns-in-Return
returns-in-Return c = λ file. read_as file _ _ c.put-in-Return.result _ _ _ c.in-Return.is (c.put-in-Return.ensures file) (ap (λ o. put o (parsed_of file c.args.reading.now)) (of_return file c.in-Return.line c.in-Return.value))

pub returns-in-Break : goal.returns-in-Break
returns-in-Break c = λ file. read_as file _ _ c.put-in-Break.result _ _ _ c.in-Break.is (c.put-in-Break.ensures file) (ap (λ o. put o (parsed_of file c.args.reading.now)) (of_break file c.in-Break.line))

pub returns-in-Continue : goal.returns-in-Continue
returns-in-Continue c = λ file. read_as file _ _ c.put-in-Continue.result _ _ _ c.in-Continue.is (c.put-in-Continue.ensures file) (ap (λ o. put o (parsed_of file c.args.reading.now)) (of_continue file c.in-Continue.line))

pub returns-in-Pass : goal.returns-in-Pass
returns-in-Pass c = λ file. read_as file _ _ c.put-in-Pass.result _ _ _ c.in-Pass.is (c.put-in-Pass.ensures file) (ap (λ o. put o (parsed_of file c.args.reading.now)) (of_pass file c.in-Pass.line))

pub returns-in-If : goal.returns-in-If
returns-in-If c = λ file. read_as file _ _ c.open_if.result _ _ _ c.in-If.is (c.open_if.ensures file) refl

pub returns-in-Elif : goal.returns-in-Elif
returns-in-Elif c = λ file. read_as file _ _ c.next_arm.result _ _ _ c.in-Elif.is (c.next_arm.ensures file) refl

pub returns-in-For : goal.returns-in-For
returns-in-For c = λ file. read_as file _ _ c.open_for.result _ _ _ c.in-For.is (c.open_for.ensures file) refl

pub returns-in-Def : goal.returns-in-Def
returns-in-Def c = λ file. read_as file _ _ c.open_def.result _ _ _ c.in-Def.is (c.open_def.ensures file) refl

pub returns-in-Node : goal.returns-in-Node
returns-in-Node c = λ file. read_as file _ _ c.put-in-Node.result _ _ _ c.in-Node.is (c.put-in-Node.ensures file) (ap (λ o. put o (parsed_of file c.args.reading.now)) (of_node file c.in-Node.part))
