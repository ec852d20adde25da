-- The names that each form of statement and branch binds, from those of its parts.
use Rattle.std.proofs.Common.{◌≡◌, ℕ, List, [], ◌∷◌, ◌++◌, Option, sym, ap, ◌∙◌, map as each}
use Rattle.code_spec.specs.Blocks as blocks
use Rattle.code_spec.specs.Names.{loaded_names, target_names}
use Rattle.code_spec.specs.Scopes.{arms_names, op_names, ops_names}
use Rattle.star_blocks.proofs.Forms as form
use Rattle.star_blocks.specs.Nested.{arms_from, arms_of, branch_of, op_of, ops_of, statement_of}
use Rattle.star_blocks.specs.declared.block.Arm as branch
use Rattle.star_blocks.specs.declared.block.Arm.{Arm}
use Rattle.star_blocks.specs.declared.block.Op as op
use Rattle.star_blocks.specs.declared.block.Op.{Op}
use Rattle.star_blocks.specs.declared.block.Statement as block
use Rattle.star_blocks.specs.declared.block.Statement.{Statement}
use Rattle.star_functions.proofs.Finding.{of_code}
use Rattle.star_tree.specs.Whole.{expr_of, loaded_names_of}
use Rattle.star_tree.specs.declared.code.BinOp.{BinOp}
use Rattle.star_tree.specs.declared.code.Expr.{Expr}
use Rattle.star_tree.specs.declared.code.Loaded.{Loaded}
use Rattle.star_tree.specs.declared.code.Param.{Param}
use Rattle.star_tree.specs.declared.program.ItemKind.{ItemKind}

module _ (file : ℕ) where
  abbrev pub Target : Expr → List (List ℕ)
  Target e = target_names (expr_of file e)

  abbrev pub Bound : Statement → List (List ℕ)
  Bound s = op_names (statement_of file s)

  pub code_names : (o : Op) (s : Statement) → o ≡ op.Code s → op_names (op_of file o) ≡ Bound s
  code_names o s is = ap (λ x. op_names (op_of file x)) is ∙ ap op_names (of_code file s)

  -- ---- statements

  module _ (s : Statement) where
    names_known : (u : Statement) (x : blocks.Op) → s ≡ u → op_of file (op.Code u) ≡ x → Bound s ≡ op_names x
    names_known u x is form = ap Bound is ∙ sym (ap op_names (of_code file u)) ∙ ap op_names form

    pub assign_names : (line : ℕ) (a b c : Expr) → s ≡ block.Assign line a b → c ≡ a → Bound s ≡ Target c
    assign_names line a b c is got = names_known _ _ is (form.of_assign file line a b) ∙ ap Target (sym got)

    pub augment_names : (line : ℕ) (o : BinOp) (at : ℕ) (a b c : Expr) → s ≡ block.Augment line o at a b → c ≡ a → Bound s ≡ Target c
    augment_names line o at a b c is got = names_known _ _ is (form.of_augment file line o at a b) ∙ ap Target (sym got)

    pub load_names : (line : ℕ) (t : List ℕ) (xs : List Loaded) → s ≡ block.Load line t xs → Bound s ≡ loaded_names (loaded_names_of xs)
    load_names line t xs is = names_known _ _ is (form.of_load file line t xs)

    pub if_names : (line : ℕ) (bs cs : List Arm) → s ≡ block.If line bs → cs ≡ bs → Bound s ≡ arms_names (arms_of file cs)
    if_names line bs cs is got = names_known _ _ is (form.of_if file line bs) ∙ ap (λ xs. arms_names (arms_of file xs)) (sym got)

    pub for_names : (line : ℕ) (a b c : Expr) (os ps : List Op) → s ≡ block.For line a b os → c ≡ a → ps ≡ os → Bound s ≡ Target c ++ ops_names (ops_of file ps)
    for_names line a b c os ps is got had = names_known _ _ is (form.of_for file line a b os) ∙ (λ i. Target (sym got i) ++ ops_names (ops_of file (sym had i)))

    pub function_names : (line n : ℕ) (k : Option ItemKind) (x : List ℕ) (ps : List Param) (os : List Op) → s ≡ block.Def line n k x ps os → Bound s ≡ x ∷ []
    function_names line n k x ps os is = names_known _ _ is (form.of_def file line n k x ps os)

  -- ---- branches

  pub test_names : (x : Arm) (a : Expr) (os ps : List Op) → x ≡ branch.Test a os → ps ≡ os → (bs : List Arm) →
      arms_names (arms_of file (x ∷ bs)) ≡ ops_names (ops_of file ps) ++ arms_names (arms_of file bs)
  test_names x a os ps is got bs =
      ap (λ k. arms_names (arms_from (k ∷ each (branch_of file) bs))) (ap (branch_of file) is ∙ form.of_test file a os)
      ∙ ap (λ xs. ops_names (ops_of file xs) ++ arms_names (arms_of file bs)) (sym got)

  pub else_names : (x : Arm) (os ps : List Op) → x ≡ branch.Else os → ps ≡ os → (bs : List Arm) → arms_names (arms_of file (x ∷ bs)) ≡ ops_names (ops_of file ps)
  else_names x os ps is got bs =
      ap (λ k. arms_names (arms_from (k ∷ each (branch_of file) bs))) (ap (branch_of file) is ∙ form.of_else file os)
      ∙ ap (λ xs. ops_names (ops_of file xs)) (sym got)
