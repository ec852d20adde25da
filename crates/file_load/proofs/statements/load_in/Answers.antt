use Rattle.std.proofs.Common.{refl}
use Rattle.star_blocks.proofs.Forms.{of_assign, of_augment, of_break, of_continue, of_def, of_expr, of_for, of_if, of_pass, of_return}
use Rattle.file_load.proofs.Forming.{a_load, no_load}
use Rattle.file_load.proofs.statements.load_in.Goals as goal

pub returns-in-Load : goal.returns-in-Load
returns-in-Load c = (a_load c.args.file c.args.statement.now _ _ _ _ c.in-Load.is c.as_slice.ensures, refl)

pub returns-in-Expr : goal.returns-in-Expr
returns-in-Expr c = let file = c.args.file in (no_load file c.args.statement.now _ _ c.in-Expr.is (of_expr file _ _) refl, tt)

pub returns-in-Assign : goal.returns-in-Assign
returns-in-Assign c = let file = c.args.file in (no_load file c.args.statement.now _ _ c.in-Assign.is (of_assign file _ _ _) refl, tt)

pub returns-in-Augment : goal.returns-in-Augment
returns-in-Augment c = let file = c.args.file in (no_load file c.args.statement.now _ _ c.in-Augment.is (of_augment file _ _ _ _ _) refl, tt)

pub returns-in-Return : goal.returns-in-Return
returns-in-Return c = let file = c.args.file in (no_load file c.args.statement.now _ _ c.in-Return.is (of_return file _ _) refl, tt)

pub returns-in-Break : goal.returns-in-Break
returns-in-Break c = let file = c.args.file in (no_load file c.args.statement.now _ _ c.in-Break.is (of_break file _) refl, tt)

pub returns-in-Continue : goal.returns-in-Continue
returns-in-Continue c = let file = c.args.file in (no_load file c.args.statement.now _ _ c.in-Continue.is (of_continue file _) refl, tt)

pub returns-in-Pass : goal.returns-in-Pass
returns-in-Pass c = let file = c.args.file in (no_load file c.args.statement.now _ _ c.in-Pass.is (of_pass file _) refl, tt)

pub returns-in-If : goal.returns-in-If
returns-in-If c = let file = c.args.file in (no_load file c.args.statement.now _ _ c.in-If.is (of_if file _ _) refl, tt)

pub returns-in-For : goal.returns-in-For
returns-in-For c = let file = c.args.file in (no_load file c.args.statement.now _ _ c.in-For.is (of_for file _ _ _ _) refl, tt)

pub returns-in-Def : goal.returns-in-Def
returns-in-Def c = let file = c.args.file in (no_load file c.args.statement.now _ _ c.in-Def.is (of_def file _ _ _ _ _ _) refl, tt)
