-- Expressions that stay as they are, having no lambda.
use Rattle.std.proofs.Common.{◌≡◌, ℕ, ◌+◌, ◌<◌, List, ◌∷◌, length, drop, get_or, ◌⊎◌, inl, inr, sym, ap, subst, ◌∙◌}
use Rattle.std.proofs.lemmas.List.{drop_more}
use Rattle.ytt_base.specs.Outcomes.{place_at}
use Rattle.code_spec.specs.Code as plain
use Rattle.code_spec.specs.Numbering.{Pass, keep, number_expr, number_exprs, over_one, over_three, over_two}
use Rattle.star_tree.proofs.Forms.{expr_of-And, expr_of-Binary, expr_of-Call, expr_of-Dot, expr_of-If, expr_of-Index, expr_of-List, expr_of-Named, expr_of-Or, expr_of-Star, expr_of-Stars, expr_of-Tuple, expr_of-Unary}
use Rattle.star_tree.specs.Whole.{binary_operator_of, expr_of, exprs_of, unary_operator_of}
use Rattle.star_tree.specs.declared.code.BinOp.{BinOp}
use Rattle.star_tree.specs.declared.code.Expr as held
use Rattle.star_tree.specs.declared.code.Expr.{Expr}
use Rattle.star_tree.specs.declared.code.UnOp.{UnOp}

-- a pass leaves it as it is, and takes no number
abbrev pub Stays : {A : Type 0} → (A → Pass A) → A → Type 0
Stays pass x = (n : ℕ) → pass x n ≡ keep x n

abbrev pub Kept : (file : ℕ) → Expr → Type 0
Kept file e = Stays number_expr (expr_of file e)

abbrev pub AllKept : (file : ℕ) → List Expr → Type 0
AllKept file es = Stays number_exprs (exprs_of file es)

module _ (file : ℕ) (e : Expr) where
  kept : (f : Expr) (x : plain.Expr) → e ≡ f → expr_of file f ≡ x → Stays number_expr x → Kept file e
  kept f x is form h = subst (Stays number_expr) (sym (ap (expr_of file) is ∙ form)) h

  -- of one operand, whichever the form is
  pub one_kept : (a : Expr) →
      ((line : ℕ) × (op : UnOp) × (e ≡ held.Unary line op a)) ⊎ (((line : ℕ) × (x : List ℕ) × (e ≡ held.Named line x a)) ⊎ (((line : ℕ) × (e ≡ held.Star line a)) ⊎ (((line : ℕ) × (e ≡ held.Stars line a)) ⊎ ((line : ℕ) × (x : List ℕ) × (e ≡ held.Dot line a x))))) →
      Kept file a → Kept file e
  one_kept a (inl (line, op, is)) h = kept _ _ is (expr_of-Unary file line op a) (λ n i. over_one (plain.unary (place_at file line) (unary_operator_of op)) (λ m. h m i) n)
  one_kept a (inr (inl (line, x, is))) h = kept _ _ is (expr_of-Named file line x a) (λ n i. over_one (plain.named (place_at file line) x) (λ m. h m i) n)
  one_kept a (inr (inr (inl (line, is)))) h = kept _ _ is (expr_of-Star file line a) (λ n i. over_one (plain.starred (place_at file line)) (λ m. h m i) n)
  one_kept a (inr (inr (inr (inl (line, is))))) h = kept _ _ is (expr_of-Stars file line a) (λ n i. over_one (plain.double_starred (place_at file line)) (λ m. h m i) n)
  one_kept a (inr (inr (inr (inr (line, x, is))))) h = kept _ _ is (expr_of-Dot file line a x) (λ n i. over_one (λ b. plain.attribute (place_at file line) b x) (λ m. h m i) n)

  -- of two operands
  pub two_kept : (a b : Expr) →
      ((line : ℕ) × (op : BinOp) × (e ≡ held.Binary line op a b)) ⊎ (((line : ℕ) × (e ≡ held.And line a b)) ⊎ (((line : ℕ) × (e ≡ held.Or line a b)) ⊎ ((line : ℕ) × (e ≡ held.Index line a b)))) →
      Kept file a → Kept file b → Kept file e
  two_kept a b (inl (line, op, is)) h k = kept _ _ is (expr_of-Binary file line op a b) (λ n i. over_two (plain.binary (place_at file line) (binary_operator_of op)) (λ m. h m i) (λ m. k m i) n)
  two_kept a b (inr (inl (line, is))) h k = kept _ _ is (expr_of-And file line a b) (λ n i. over_two (plain.conjunction (place_at file line)) (λ m. h m i) (λ m. k m i) n)
  two_kept a b (inr (inr (inl (line, is)))) h k = kept _ _ is (expr_of-Or file line a b) (λ n i. over_two (plain.disjunction (place_at file line)) (λ m. h m i) (λ m. k m i) n)
  two_kept a b (inr (inr (inr (line, is)))) h k = kept _ _ is (expr_of-Index file line a b) (λ n i. over_two (plain.index (place_at file line)) (λ m. h m i) (λ m. k m i) n)

  pub if_kept : (line : ℕ) (t a b : Expr) → e ≡ held.If line t a b → Kept file t → Kept file a → Kept file b → Kept file e
  if_kept line t a b is l h k = kept _ _ is (expr_of-If file line t a b) (λ n i. over_three (λ x y z. plain.conditional (place_at file line) y x z) (λ m. h m i) (λ m. l m i) (λ m. k m i) n)

  pub members_kept : (es : List Expr) → ((line : ℕ) × (e ≡ held.List line es)) ⊎ ((line : ℕ) × (e ≡ held.Tuple line es)) → AllKept file es → Kept file e
  members_kept es (inl (line, is)) h = kept _ _ is (expr_of-List file line es) (λ n i. over_one (plain.list (place_at file line)) (λ m. h m i) n)
  members_kept es (inr (line, is)) h = kept _ _ is (expr_of-Tuple file line es) (λ n i. over_one (plain.tuple (place_at file line)) (λ m. h m i) n)

  pub call_kept : (line : ℕ) (a : Expr) (es : List Expr) → e ≡ held.Call line a es → Kept file a → AllKept file es → Kept file e
  call_kept line a es is h k = kept _ _ is (expr_of-Call file line a es) (λ n i. over_two (plain.call (place_at file line)) (λ m. h m i) (λ m. k m i) n)

-- members from one on, where it and those behind it are kept
pub turn_kept : (file : ℕ) (es : List Expr) (j : ℕ) (x : Expr) → j < length es → x ≡ get_or es j x → Kept file x → AllKept file (drop (j + 1) es) → AllKept file (drop j es)
turn_kept file es j x lt here h k =
    subst (AllKept file) (ap (λ y. y ∷ drop (j + 1) es) here ∙ sym (drop_more es j x lt)) (λ n i. over_two plain.an_expr (λ m. h m i) (λ m. k m i) n)
