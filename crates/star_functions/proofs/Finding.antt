-- The functions of each form of code, from those of its parts.
use Rattle.std.proofs.Common.{◌≡◌, ℕ, List, [], ◌∷◌, ◌++◌, Option, Some, ◌⊎◌, inl, inr, rules, sym, ap, append_assoc, ◌∙◌, map as each, Result, OnOk}
use Rattle.std.proofs.lemmas.List.{map_push}
use Rattle.std.specs.Option.{option_map}
use Rattle.code_spec.specs.Code as plain
use Rattle.star_blocks.proofs.Forms as form
use Rattle.code_spec.specs.Blocks as blocks
use Rattle.star_blocks.specs.Nested.{arms_from, arms_of, branch_of, ops_of, op_of, statement_of}
use Rattle.star_blocks.specs.declared.block.Arm as branch
use Rattle.star_blocks.specs.declared.block.Arm.{Arm}
use Rattle.star_blocks.specs.declared.block.Op as op
use Rattle.star_blocks.specs.declared.block.Op.{Op, the_lemmas}
use Rattle.star_blocks.specs.declared.block.Statement as block
use Rattle.star_blocks.specs.declared.block.Statement.{Statement}
use Rattle.star_spec.specs.Calls.{of_def, of_lambda}
use Rattle.star_tree.proofs.Forms.{expr_of-And, expr_of-Binary, expr_of-Call, expr_of-Dict, expr_of-DictFor, expr_of-Dot, expr_of-If, expr_of-Index, expr_of-Lambda, expr_of-List, expr_of-ListFor, expr_of-Named, expr_of-Or, expr_of-Slice, expr_of-Star, expr_of-Stars, expr_of-Template, expr_of-Tuple, expr_of-Unary}
use Rattle.star_tree.specs.Listed.{clauses_of, entries_of, optional_of, pieces_of}
use Rattle.star_tree.specs.View.{item_kind_of}
use Rattle.star_tree.specs.Whole.{expr_of, exprs_of, parameters_of}
use Rattle.star_tree.specs.declared.code.BinOp.{BinOp}
use Rattle.star_tree.specs.declared.code.Clause.{Clause}
use Rattle.star_tree.specs.declared.code.Entry.{Entry}
use Rattle.star_tree.specs.declared.code.Expr as held
use Rattle.star_tree.specs.declared.code.Expr.{Expr}
use Rattle.star_tree.specs.declared.code.Param.{Param}
use Rattle.star_tree.specs.declared.code.Piece.{Piece}
use Rattle.star_tree.specs.declared.code.UnOp.{UnOp}
use Rattle.star_tree.specs.declared.program.ItemKind.{ItemKind}
use Rattle.star_functions.specs.Numbered as numbered
use Rattle.star_functions.specs.Numbered.{arms_functions, clauses_functions, entries_functions, expr_functions, exprs_functions, op_functions, ops_functions, optional_functions, parameters_functions, pieces_functions}
use Rattle.star_functions.specs.View.{all_of, numbered_of}
use Rattle.star_resolve.proofs.Putting.{put_after, put_same, put_then}
use Rattle.ytt_base.specs.declared.text.Memory.{Memory}
use Rattle.star_functions.specs.declared.function.Numbered.{Numbered}

-- a function that is put behind others
pub pushed : (file : ℕ) (old new : List Numbered) (f : Numbered) → new ≡ old ++ f ∷ [] → all_of file new ≡ all_of file old ++ numbered_of file f ∷ []
pushed file old new f e = ap (all_of file) e ∙ map_push (numbered_of file) old f

-- functions behind others, and then more
pub found_then : (file : ℕ) (r : Result (Unit {0}) Memory) (old mid new : List Numbered) (a b : List numbered.Numbered) → all_of file mid ≡ all_of file old ++ a →
    OnOk r (all_of file new ≡ all_of file mid ++ b) → OnOk r (all_of file new ≡ all_of file old ++ (a ++ b))
found_then file r old mid new a b = put_after r (all_of file old) (all_of file mid) (all_of file new) a b

pub found_both : (file : ℕ) (old mid new : List Numbered) (a b : List numbered.Numbered) → all_of file mid ≡ all_of file old ++ a → all_of file new ≡ all_of file mid ++ b →
    all_of file new ≡ all_of file old ++ (a ++ b)
found_both file old mid new a b = put_then (all_of file old) (all_of file mid) (all_of file new) a b

pub found_same : (file : ℕ) (r : Result (Unit {0}) Memory) (old new : List Numbered) (a b : List numbered.Numbered) → OnOk r (all_of file new ≡ all_of file old ++ a) → b ≡ a →
    OnOk r (all_of file new ≡ all_of file old ++ b)
found_same file r old new a b = put_same r (all_of file old) (all_of file new) a b

-- ---- expressions

abbrev pub In : ℕ → Expr → List numbered.Numbered
In file e = expr_functions (expr_of file e)

-- of one operand, whichever the form is
abbrev pub OfOne : Expr → Expr → Type 0
OfOne e a =
    ((line : ℕ) × (op : UnOp) × (e ≡ held.Unary line op a)) ⊎ (((line : ℕ) × (x : List ℕ) × (e ≡ held.Named line x a)) ⊎ (((line : ℕ) × (e ≡ held.Star line a)) ⊎ (((line : ℕ) × (e ≡ held.Stars line a)) ⊎ ((line : ℕ) × (x : List ℕ) × (e ≡ held.Dot line a x)))))

-- of two operands
abbrev pub OfTwo : Expr → Expr → Expr → Type 0
OfTwo e a b =
    ((line : ℕ) × (op : BinOp) × (e ≡ held.Binary line op a b)) ⊎ (((line : ℕ) × (e ≡ held.And line a b)) ⊎ (((line : ℕ) × (e ≡ held.Or line a b)) ⊎ ((line : ℕ) × (e ≡ held.Index line a b))))

-- of members
abbrev pub OfMembers : Expr → List Expr → Type 0
OfMembers e es = ((line : ℕ) × (e ≡ held.List line es)) ⊎ ((line : ℕ) × (e ≡ held.Tuple line es))

module _ (file : ℕ) (e : Expr) where
  seen : (f : Expr) (x : plain.Expr) → e ≡ f → expr_of file f ≡ x → In file e ≡ expr_functions x
  seen f x is form = ap (In file) is ∙ ap expr_functions form

  pub in_one : (a c : Expr) → OfOne e a → c ≡ a → In file e ≡ In file c
  in_one a c (inl (line, op, is)) got = seen _ _ is (expr_of-Unary file line op a) ∙ ap (In file) (sym got)
  in_one a c (inr (inl (line, x, is))) got = seen _ _ is (expr_of-Named file line x a) ∙ ap (In file) (sym got)
  in_one a c (inr (inr (inl (line, is)))) got = seen _ _ is (expr_of-Star file line a) ∙ ap (In file) (sym got)
  in_one a c (inr (inr (inr (inl (line, is))))) got = seen _ _ is (expr_of-Stars file line a) ∙ ap (In file) (sym got)
  in_one a c (inr (inr (inr (inr (line, x, is))))) got = seen _ _ is (expr_of-Dot file line a x) ∙ ap (In file) (sym got)

  both_got : (a b c d : Expr) → c ≡ a → d ≡ b → In file a ++ In file b ≡ In file c ++ In file d
  both_got a b c d got gotten = λ i. In file (sym got i) ++ In file (sym gotten i)

  pub in_two : (a b c d : Expr) → OfTwo e a b → c ≡ a → d ≡ b → In file e ≡ In file c ++ In file d
  in_two a b c d (inl (line, op, is)) got gotten = seen _ _ is (expr_of-Binary file line op a b) ∙ both_got a b c d got gotten
  in_two a b c d (inr (inl (line, is))) got gotten = seen _ _ is (expr_of-And file line a b) ∙ both_got a b c d got gotten
  in_two a b c d (inr (inr (inl (line, is)))) got gotten = seen _ _ is (expr_of-Or file line a b) ∙ both_got a b c d got gotten
  in_two a b c d (inr (inr (inr (line, is)))) got gotten = seen _ _ is (expr_of-Index file line a b) ∙ both_got a b c d got gotten

  pub in_members : (es : List Expr) → OfMembers e es → In file e ≡ exprs_functions (exprs_of file es)
  in_members es (inl (line, is)) = seen _ _ is (expr_of-List file line es)
  in_members es (inr (line, is)) = seen _ _ is (expr_of-Tuple file line es)

  pub in_dict : (line : ℕ) (es : List Entry) → e ≡ held.Dict line es → In file e ≡ entries_functions (entries_of file es)
  in_dict line es is = seen _ _ is (expr_of-Dict file line es)

  pub in_template : (line : ℕ) (ps : List Piece) → e ≡ held.Template line ps → In file e ≡ pieces_functions (pieces_of file ps)
  in_template line ps is = seen _ _ is (expr_of-Template file line ps)

  pub in_conditional : (line : ℕ) (test a b f g h : Expr) → e ≡ held.If line test a b → f ≡ a → g ≡ test → h ≡ b → In file e ≡ In file f ++ (In file g ++ In file h)
  in_conditional line test a b f g h is p q r = seen _ _ is (expr_of-If file line test a b) ∙ (λ i. In file (sym p i) ++ (In file (sym q i) ++ In file (sym r i)))

  pub in_call : (line : ℕ) (a c : Expr) (es : List Expr) → e ≡ held.Call line a es → c ≡ a → In file e ≡ In file c ++ exprs_functions (exprs_of file es)
  in_call line a c es is got = seen _ _ is (expr_of-Call file line a es) ∙ ap (λ x. In file x ++ exprs_functions (exprs_of file es)) (sym got)

  pub in_slice : (line : ℕ) (a c : Expr) (l h d : Option Expr) → e ≡ held.Slice line a l h d → c ≡ a →
      In file e ≡ In file c ++ (optional_functions (optional_of file l) ++ (optional_functions (optional_of file h) ++ optional_functions (optional_of file d)))
  in_slice line a c l h d is got =
      seen _ _ is (expr_of-Slice file line a l h d)
      ∙ ap (λ x. In file x ++ (optional_functions (optional_of file l) ++ (optional_functions (optional_of file h) ++ optional_functions (optional_of file d)))) (sym got)

  pub in_lambda : (line n : ℕ) (ps : List Param) (a c d : Expr) → e ≡ held.Lambda line n ps a → c ≡ a → d ≡ a →
      In file e ≡ record { number = n; code = of_lambda (parameters_of file ps) (expr_of file c) } ∷ (parameters_functions (parameters_of file ps) ++ In file d)
  in_lambda line n ps a c d is got gotten =
      seen _ _ is (expr_of-Lambda file line n ps a)
      ∙ (λ i. record { number = n; code = of_lambda (parameters_of file ps) (expr_of file (sym got i)) } ∷ (parameters_functions (parameters_of file ps) ++ In file (sym gotten i)))

  pub in_list_comprehension : (line : ℕ) (a c : Expr) (cs : List Clause) → e ≡ held.ListFor line a cs → c ≡ a → In file e ≡ In file c ++ clauses_functions (clauses_of file cs)
  in_list_comprehension line a c cs is got = seen _ _ is (expr_of-ListFor file line a cs) ∙ ap (λ x. In file x ++ clauses_functions (clauses_of file cs)) (sym got)

  pub in_dict_comprehension : (line : ℕ) (a b c d : Expr) (cs : List Clause) → e ≡ held.DictFor line a b cs → c ≡ a → d ≡ b →
      In file e ≡ In file c ++ (In file d ++ clauses_functions (clauses_of file cs))
  in_dict_comprehension line a b c d cs is got gotten =
      seen _ _ is (expr_of-DictFor file line a b cs) ∙ (λ i. In file (sym got i) ++ (In file (sym gotten i) ++ clauses_functions (clauses_of file cs)))

pub in_part : (file : ℕ) (o : Option Expr) (a c : Expr) → o ≡ Some a → c ≡ a → optional_functions (optional_of file o) ≡ In file c
in_part file o a c is got = ap (λ x. optional_functions (optional_of file x)) is ∙ ap (In file) (sym got)

-- ---- statements

abbrev pub Within : ℕ → Statement → List numbered.Numbered
Within file s = op_functions (statement_of file s)

pub of_code : (file : ℕ) (s : Statement) → op_of file (op.Code s) ≡ statement_of file s
of_code file s = search (rules, the_lemmas)

pub in_code : (file : ℕ) (o : Op) (s : Statement) → o ≡ op.Code s → op_functions (op_of file o) ≡ Within file s
in_code file o s is = ap (λ x. op_functions (op_of file x)) is ∙ ap op_functions (of_code file s)

module _ (file : ℕ) (s : Statement) where
  known : (u : Statement) (x : blocks.Op) → s ≡ u → op_of file (op.Code u) ≡ x → Within file s ≡ op_functions x
  known u x is form = ap (Within file) is ∙ sym (ap op_functions (of_code file u)) ∙ ap op_functions form

  pub of_expr : (line : ℕ) (a c : Expr) → s ≡ block.Expr line a → c ≡ a → Within file s ≡ In file c
  of_expr line a c is got = known _ _ is (form.of_expr file line a) ∙ ap (In file) (sym got)

  pub of_return : (line : ℕ) (a c : Expr) → s ≡ block.Return line a → c ≡ a → Within file s ≡ In file c
  of_return line a c is got = known _ _ is (form.of_return file line a) ∙ ap (In file) (sym got)

  pub of_assign : (line : ℕ) (a b c d : Expr) → s ≡ block.Assign line a b → c ≡ a → d ≡ b → Within file s ≡ In file c ++ In file d
  of_assign line a b c d is got gotten = known _ _ is (form.of_assign file line a b) ∙ (λ i. In file (sym got i) ++ In file (sym gotten i))

  pub of_augment : (line : ℕ) (o : BinOp) (at : ℕ) (a b c d : Expr) → s ≡ block.Augment line o at a b → c ≡ a → d ≡ b → Within file s ≡ In file c ++ In file d
  of_augment line o at a b c d is got gotten = known _ _ is (form.of_augment file line o at a b) ∙ (λ i. In file (sym got i) ++ In file (sym gotten i))

  pub of_if : (line : ℕ) (bs cs : List Arm) → s ≡ block.If line bs → cs ≡ bs → Within file s ≡ arms_functions (arms_of file cs)
  of_if line bs cs is got = known _ _ is (form.of_if file line bs) ∙ ap (λ xs. arms_functions (arms_of file xs)) (sym got)

  pub of_for : (line : ℕ) (a b c d : Expr) (os ps : List Op) → s ≡ block.For line a b os → c ≡ a → d ≡ b → ps ≡ os →
      Within file s ≡ In file c ++ (In file d ++ ops_functions (ops_of file ps))
  of_for line a b c d os ps is got gotten had =
      known _ _ is (form.of_for file line a b os) ∙ (λ i. In file (sym got i) ++ (In file (sym gotten i) ++ ops_functions (ops_of file (sym had i))))

  pub of_function : (line n : ℕ) (k : Option ItemKind) (x : List ℕ) (ps : List Param) (os us vs : List Op) → s ≡ block.Def line n k x ps os → us ≡ os → vs ≡ os →
      Within file s ≡ record { number = n; code = of_def (parameters_of file ps) (option_map item_kind_of k) (ops_of file us) } ∷ (parameters_functions (parameters_of file ps) ++ ops_functions (ops_of file vs))
  of_function line n k x ps os us vs is got gotten =
      known _ _ is (form.of_def file line n k x ps os)
      ∙ (λ i. record { number = n; code = of_def (parameters_of file ps) (option_map item_kind_of k) (ops_of file (sym got i)) } ∷ (parameters_functions (parameters_of file ps) ++ ops_functions (ops_of file (sym gotten i))))

-- ---- branches

module _ (file : ℕ) where
  pub in_test : (x : Arm) (a c : Expr) (os ps : List Op) → x ≡ branch.Test a os → c ≡ a → ps ≡ os → (bs : List Arm) →
      arms_functions (arms_of file (x ∷ bs)) ≡ (In file c ++ ops_functions (ops_of file ps)) ++ arms_functions (arms_of file bs)
  in_test x a c os ps is got gotten bs =
      ap (λ k. arms_functions (arms_from (k ∷ each (branch_of file) bs))) (ap (branch_of file) is ∙ form.of_test file a os)
      ∙ sym (append_assoc (In file a) (ops_functions (ops_of file os)) (arms_functions (arms_of file bs)))
      ∙ (λ i. (In file (sym got i) ++ ops_functions (ops_of file (sym gotten i))) ++ arms_functions (arms_of file bs))

  pub in_else : (x : Arm) (os ps : List Op) → x ≡ branch.Else os → ps ≡ os → (bs : List Arm) → arms_functions (arms_of file (x ∷ bs)) ≡ ops_functions (ops_of file ps)
  in_else x os ps is got bs =
      ap (λ k. arms_functions (arms_from (k ∷ each (branch_of file) bs))) (ap (branch_of file) is ∙ form.of_else file os)
      ∙ ap (λ xs. ops_functions (ops_of file xs)) (sym got)
