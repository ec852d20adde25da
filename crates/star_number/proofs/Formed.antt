-- An expression of parts whose lambdas were numbered one after another.
use Rattle.std.proofs.Common.{◌≡◌, ◌∙◌, ℕ, Result, Ok, ap, subst, sym}
use Rattle.code_spec.specs.Code as plain
use Rattle.code_spec.specs.Numbering.{Pass, Passed, number_expr, over_one, over_three, over_two, over_four}
use Rattle.star_tree.specs.declared.code.Expr.{Expr}
use Rattle.star_tree.specs.Whole.{expr_of}
use Rattle.star_number.specs.Rows.{Numbers}
use Rattle.star_number.proofs.Rows.{with_first}

-- a part, and the number behind it
abbrev pub seen : {A : Type 0} → A → ℕ → Passed A
seen a n = record { result = a; next = n }

-- what a pass gave, where there was room
pub given : {T A E : Type 0} (view : T → A) (pass : Pass A) (r : Result T E) (x : T) (n m : ℕ) → Numbers view pass r n m → r ≡ Ok x → seen (view x) m ≡ pass n
given view pass r x n m h e = subst (λ r. Numbers view pass r n m) e h

-- ---- parts one after another, made into something else

pub one_part : {A B : Type 0} (f : A → B) (p : Pass A) (a : A) (n m : ℕ) → seen a m ≡ p n → seen (f a) m ≡ over_one f p n
one_part f p a n m e = ap (with_first f) e

pub two_parts : {A B C : Type 0} (f : A → B → C) (p : Pass A) (q : Pass B) (a : A) (b : B) (n k m : ℕ) → seen a k ≡ p n → seen b m ≡ q k → seen (f a b) m ≡ over_two f p q n
two_parts f p q a b n k m e g = one_part (f a) q b k m g ∙ ap (λ w. over_one (f w.result) q w.next) e

pub three_parts : {A B C D : Type 0} (f : A → B → C → D) (p : Pass A) (q : Pass B) (r : Pass C) (a : A) (b : B) (c : C) (n j k m : ℕ) → seen a j ≡ p n → seen b k ≡ q j → seen c m ≡ r k → seen (f a b c) m ≡ over_three f p q r n
three_parts f p q r a b c n j k m e g h = two_parts (f a) q r b c j k m g h ∙ ap (λ w. over_two (f w.result) q r w.next) e

pub four_parts : {A B C D E : Type 0} (f : A → B → C → D → E) (p : Pass A) (q : Pass B) (r : Pass C) (s : Pass D) (a : A) (b : B) (c : C) (d : D) (n i j k m : ℕ) →
    seen a i ≡ p n → seen b j ≡ q i → seen c k ≡ r j → seen d m ≡ s k → seen (f a b c d) m ≡ over_four f p q r s n
four_parts f p q r s a b c d n i j k m e g h l = three_parts (f a) q r s b c d i j k m g h l ∙ ap (λ w. over_three (f w.result) q r s w.next) e

-- an expression that is seen as this one, made of one that is seen as that one
pub formed : (file : ℕ) (e made : Expr) (now whole : plain.Expr) (n m : ℕ) → expr_of file made ≡ now → seen now m ≡ number_expr whole n → expr_of file e ≡ whole → seen (expr_of file made) m ≡ number_expr (expr_of file e) n
formed file e made now whole n m a h b = (λ i. seen (a i) m) ∙ h ∙ ap (λ e. number_expr e n) (sym b)
