-- The plain blocks that blocks of the program stand for.
use Rattle.std.specs.Prelude.{ℕ, List, [], ◌∷◌, map as each}
use Rattle.std.specs.Option.{option_map}
use Rattle.ytt_base.specs.Outcomes.{place_at}
use Rattle.code_spec.specs.Code as plain
use Rattle.code_spec.specs.Blocks as blocks
use Rattle.code_spec.specs.Blocks.{op_part, op_statement, op_if, op_for, op_def, Ops, no_ops, an_op, Arms, no_arm, else_arm, arm}
use Rattle.star_tree.specs.View.{item_kind_of}
use Rattle.star_tree.specs.Whole.{expr_of, binary_operator_of, loaded_names_of, parameters_of, part_of}
use Rattle.star_blocks.specs.declared.block.Op.{Op, fold-Op}
use Rattle.star_blocks.specs.declared.block.Statement.{Statement, fold-Statement}
use Rattle.star_blocks.specs.declared.block.Arm.{Arm, fold-Arm}
use Rattle.star_blocks.specs.declared.block.Arm.TheOpen.{Arm-F, Op-F, Statement-F}

abbrev pub ops_from : List blocks.Op → Ops
ops_from [] = no_ops
ops_from (o ∷ os) = an_op o (ops_from os)

-- a branch, with each block inside seen already
pub data Branch : Type 0 where
  test_branch : plain.Expr → Ops → Branch
  else_branch : Ops → Branch

-- nothing stands behind the block where no test holds
abbrev pub arms_from : List Branch → Arms
arms_from [] = no_arm
arms_from (test_branch e os ∷ bs) = arm e os (arms_from bs)
arms_from (else_branch os ∷ bs) = else_arm os

abbrev pub statement_step : (file : ℕ) → Statement-F Branch blocks.Op blocks.Op → blocks.Op
statement_step file (Statement-F.Expr l e) = op_statement (plain.evaluate (place_at file l) (expr_of file e))
statement_step file (Statement-F.Assign l x e) = op_statement (plain.assign (place_at file l) (expr_of file x) (expr_of file e))
statement_step file (Statement-F.Augment l op o x e) = op_statement (plain.augment (place_at file l) (binary_operator_of op) (place_at file o) (expr_of file x) (expr_of file e))
statement_step file (Statement-F.Load l t xs) = op_statement (plain.load (place_at file l) t (loaded_names_of xs))
statement_step file (Statement-F.Return l e) = op_statement (plain.return (place_at file l) (expr_of file e))
statement_step file (Statement-F.Break l) = op_statement (plain.break (place_at file l))
statement_step file (Statement-F.Continue l) = op_statement (plain.continue (place_at file l))
statement_step file (Statement-F.Pass l) = op_statement (plain.pass (place_at file l))
statement_step file (Statement-F.If l bs) = op_if (place_at file l) (arms_from bs)
statement_step file (Statement-F.For l x e os) = op_for (place_at file l) (expr_of file x) (expr_of file e) (ops_from os)
statement_step file (Statement-F.Def l n k x ps os) = op_def (place_at file l) n (option_map item_kind_of k) x (parameters_of file ps) (ops_from os)

abbrev pub op_step : (file : ℕ) → Op-F Branch blocks.Op blocks.Op → blocks.Op
op_step file (Op-F.Node o) = op_part (part_of file o)
op_step file (Op-F.Code s) = s

abbrev pub arm_step : (file : ℕ) → Arm-F Branch blocks.Op blocks.Op → Branch
arm_step file (Arm-F.Test e os) = test_branch (expr_of file e) (ops_from os)
arm_step file (Arm-F.Else os) = else_branch (ops_from os)

-- a part of a node, or a statement, in a file of this number
abbrev pub op_of : (file : ℕ) → Op → blocks.Op
op_of file = fold-Op Branch blocks.Op blocks.Op (arm_step file) (op_step file) (statement_step file)

abbrev pub statement_of : (file : ℕ) → Statement → blocks.Op
statement_of file = fold-Statement Branch blocks.Op blocks.Op (arm_step file) (op_step file) (statement_step file)

abbrev pub branch_of : (file : ℕ) → Arm → Branch
branch_of file = fold-Arm Branch blocks.Op blocks.Op (arm_step file) (op_step file) (statement_step file)

abbrev pub ops_of : (file : ℕ) → List Op → Ops
ops_of file os = ops_from (each (op_of file) os)

abbrev pub arms_of : (file : ℕ) → List Arm → Arms
arms_of file bs = arms_from (each (branch_of file) bs)
