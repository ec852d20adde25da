-- The plain block of each form of statement and branch.
use Rattle.std.proofs.Common.{◌≡◌, List, rules, ℕ, Option}
use Rattle.std.specs.Option.{option_map}
use Rattle.ytt_base.specs.Outcomes.{place_at}
use Rattle.code_spec.specs.Code as plain
use Rattle.code_spec.specs.Blocks.{op_part, op_statement, op_if, op_for, op_def}
use Rattle.star_tree.specs.View.{item_kind_of}
use Rattle.star_tree.specs.Whole.{expr_of, binary_operator_of, loaded_names_of, parameters_of, part_of}
use Rattle.star_tree.specs.declared.code.BinOp.{BinOp}
use Rattle.star_tree.specs.declared.code.Expr.{Expr}
use Rattle.star_tree.specs.declared.code.Loaded.{Loaded}
use Rattle.star_tree.specs.declared.code.NodeOp.{NodeOp}
use Rattle.star_tree.specs.declared.code.Param.{Param}
use Rattle.star_tree.specs.declared.program.ItemKind.{ItemKind}
use Rattle.star_blocks.specs.Nested.{arms_of, branch_of, else_branch, op_of, ops_of, test_branch}
use Rattle.star_blocks.specs.declared.block.Op as held
use Rattle.star_blocks.specs.declared.block.Op.{Op, the_lemmas}
use Rattle.star_blocks.specs.declared.block.Statement as code
use Rattle.star_blocks.specs.declared.block.Arm as branch
use Rattle.star_blocks.specs.declared.block.Arm.{Arm}

pub of_node : (file : ℕ) (o : NodeOp) → op_of file (held.Node o) ≡ op_part (part_of file o)
of_node file o = search (rules, the_lemmas)

pub of_expr : (file line : ℕ) (e : Expr) → op_of file (held.Code (code.Expr line e)) ≡ op_statement (plain.evaluate (place_at file line) (expr_of file e))
of_expr file line e = search (rules, the_lemmas)

pub of_assign : (file line : ℕ) (x e : Expr) → op_of file (held.Code (code.Assign line x e)) ≡ op_statement (plain.assign (place_at file line) (expr_of file x) (expr_of file e))
of_assign file line x e = search (rules, the_lemmas)

pub of_augment : (file line : ℕ) (op : BinOp) (at : ℕ) (x e : Expr) → op_of file (held.Code (code.Augment line op at x e)) ≡ op_statement (plain.augment (place_at file line) (binary_operator_of op) (place_at file at) (expr_of file x) (expr_of file e))
of_augment file line op at x e = search (rules, the_lemmas)

pub of_load : (file line : ℕ) (t : List ℕ) (xs : List Loaded) → op_of file (held.Code (code.Load line t xs)) ≡ op_statement (plain.load (place_at file line) t (loaded_names_of xs))
of_load file line t xs = search (rules, the_lemmas)

pub of_return : (file line : ℕ) (e : Expr) → op_of file (held.Code (code.Return line e)) ≡ op_statement (plain.return (place_at file line) (expr_of file e))
of_return file line e = search (rules, the_lemmas)

pub of_break : (file line : ℕ) → op_of file (held.Code (code.Break line)) ≡ op_statement (plain.break (place_at file line))
of_break file line = search (rules, the_lemmas)

pub of_continue : (file line : ℕ) → op_of file (held.Code (code.Continue line)) ≡ op_statement (plain.continue (place_at file line))
of_continue file line = search (rules, the_lemmas)

pub of_pass : (file line : ℕ) → op_of file (held.Code (code.Pass line)) ≡ op_statement (plain.pass (place_at file line))
of_pass file line = search (rules, the_lemmas)

pub of_if : (file line : ℕ) (bs : List Arm) → op_of file (held.Code (code.If line bs)) ≡ op_if (place_at file line) (arms_of file bs)
of_if file line bs = search (rules, the_lemmas)

pub of_for : (file line : ℕ) (x e : Expr) (os : List Op) → op_of file (held.Code (code.For line x e os)) ≡ op_for (place_at file line) (expr_of file x) (expr_of file e) (ops_of file os)
of_for file line x e os = search (rules, the_lemmas)

pub of_def : (file line n : ℕ) (k : Option ItemKind) (x : List ℕ) (ps : List Param) (os : List Op) →
    op_of file (held.Code (code.Def line n k x ps os)) ≡ op_def (place_at file line) n (option_map item_kind_of k) x (parameters_of file ps) (ops_of file os)
of_def file line n k x ps os = search (rules, the_lemmas)

pub of_test : (file : ℕ) (e : Expr) (os : List Op) → branch_of file (branch.Test e os) ≡ test_branch (expr_of file e) (ops_of file os)
of_test file e os = search (rules, the_lemmas)

pub of_else : (file : ℕ) (os : List Op) → branch_of file (branch.Else os) ≡ else_branch (ops_of file os)
of_else file os = search (rules, the_lemmas)

pub ruleset forms = (of_node, of_expr, of_assign, of_augment, of_load, of_return, of_break, of_continue, of_pass, of_if, of_for, of_def, of_test, of_else)
