-- Rows of targets, and steps that are taken or wanting.
use Rattle.std.proofs.Common.{◌≡◌, ℕ, zero, suc, ◌-◌, nat_le, ◌==◌, Bool, true, false, List, [], ◌∷◌, length, Option, Some, None, refl, ap, sym, ◌∙◌, rules, arith}
use Rattle.std.proofs.lemmas.Bool.{le-leb}
use Rattle.ytt_base.specs.declared.fault.FaultKind.TheVariants as kind
use Rattle.ytt_base.specs.declared.fault.Place.{Place}
use Rattle.ytt_base.specs.Outcomes.{fault_at}
use Rattle.code_spec.specs.Code as plain
use Rattle.code_spec.specs.Code.{Exprs, no_exprs, an_expr}
use Rattle.star_spec.specs.Eval.{count_exprs}
use Rattle.star_tree.specs.Whole.{exprs_of}
use Rattle.star_tree.specs.declared.code.Expr.{Expr}
use Rattle.value_spec.specs.Members.{members_in}
use Rattle.value_spec.specs.Outcomes.{Computation, Ending, State, asks, bad, done, give, ill_formed, need, or_fail, paid, take_if, then_do, ◌>>=◌}
use Rattle.value_spec.specs.Values.{Value, none_value}
use Rattle.star_eval.specs.Meets.{Here}
use Rattle.star_eval.specs.Doing.{Nodes, Setting, assigned, assigned_each, augmented, spread_over}
use Rattle.star_eval.specs.Waiting.{with_none}

pub as_many : (file : ℕ) (es : List Expr) → count_exprs (exprs_of file es) ≡ length es
as_many file [] = refl
as_many file (e ∷ es) = ap suc (as_many file es)

-- no member is left for the targets
pub none_assigned : (p : Place) (c : Setting) (es : Exprs) (vs : List Value) (s : State Here) → vs ≡ [] → done none_value s ≡ with_none (assigned_each c p es vs) s
none_assigned p c es vs s e = sym (ap (λ l. with_none (assigned_each c p es l) s) e ∙ nothing es)
  where
    nothing : (es : Exprs) → with_none (assigned_each c p es []) s ≡ done none_value s
    nothing no_exprs = refl
    nothing (an_expr e es) = refl

-- the first gets its value, and then the others
first_by : (p : Place) (c : Setting) (es : Exprs) (vs : List Value) (r : Ending Here Here) →
    then_do (then_do r (λ u. give none_value)) (λ x. with_none (assigned_each c p es vs)) ≡ then_do (then_do r (λ u. assigned_each c p es vs)) (λ u. give none_value)
first_by p c es vs (done u s) = refl
first_by p c es vs (bad f s) = refl
first_by p c es vs (asks q s k) = λ i. asks q s (λ got t. first_by p c es vs (k got t) i)

pub first_assigned : (p : Place) (c : Setting) (t : plain.Expr) (es all : Exprs) (v : Value) (vs members : List Value) (s : State Here) → all ≡ an_expr t es → members ≡ v ∷ vs →
    then_do (with_none (assigned c p t v) s) (λ x. with_none (assigned_each c p es vs)) ≡ with_none (assigned_each c p all members) s
first_assigned p c t es all v vs members s e f = first_by p c es vs (assigned c p t v s) ∙ sym (λ i. with_none (assigned_each c p (e i) (f i)) s)

module _ (p : Place) (c : Setting) (es : Exprs) (v : Value) (vs : List Value) (s : State Here) (there : members_in s.store v ≡ Some vs) where
  spread_by : spread_over c p es v s ≡ (need kind.ValueKind p (length vs == count_exprs es) >>= λ u. assigned_each c p es vs) s
  spread_by = ap (λ o. then_do (or_fail kind.ValueKind p o s) (λ vs. need kind.ValueKind p (length vs == count_exprs es) >>= λ u. assigned_each c p es vs)) there

  pub spread_on : (length vs == count_exprs es) ≡ true → with_none (assigned_each c p es vs) s ≡ with_none (spread_over c p es v) s
  spread_on h = sym (ap (λ o. then_do o (λ u. give none_value)) (spread_by ∙ ap (λ b. (need kind.ValueKind p b >>= λ u. assigned_each c p es vs) s) h))

  pub spread_refused : (length vs == count_exprs es) ≡ false → bad (fault_at kind.ValueKind p) s ≡ with_none (spread_over c p es v) s
  spread_refused h = sym (ap (λ o. then_do o (λ u. give none_value)) (spread_by ∙ ap (λ b. (need kind.ValueKind p b >>= λ u. assigned_each c p es vs) s) h))

module _ (p : Place) (c : Setting) (es : Exprs) (v : Value) (s : State Here) where
  -- what has no members, or has another number of them than there are targets
  pub spread_uncounted : ((vs : List Value) → members_in s.store v ≡ Some vs → (length vs == count_exprs es) ≡ false) → bad (fault_at kind.ValueKind p) s ≡ with_none (spread_over c p es v) s
  spread_uncounted h = by_members (members_in s.store v) refl
    where
      by_members : (o : Option (List Value)) → members_in s.store v ≡ o → bad (fault_at kind.ValueKind p) s ≡ with_none (spread_over c p es v) s
      by_members None e = sym (ap (λ o. then_do (then_do (or_fail kind.ValueKind p o s) (λ vs. need kind.ValueKind p (length vs == count_exprs es) >>= λ u. assigned_each c p es vs)) (λ u. give none_value)) e)
      by_members (Some vs) e = spread_refused p c es v vs s e (h vs e)

-- ---- augmented assignments

-- a name or an index
abbrev pub takes_augment : plain.Expr → Bool
takes_augment (plain.name r x) = true
takes_augment (plain.index r a i) = true
takes_augment _ = false

pub not_augmented : (c : Setting) (o : plain.BinaryOperator) (q : Place) (x e : plain.Expr) (k : Nodes) → takes_augment x ≡ false → augmented c o q x e k ≡ ill_formed
not_augmented c o q (plain.name r x) e k h = cc
not_augmented c o q (plain.index r a i) e k h = cc
not_augmented c o q x e k h = refl

-- ---- steps

pub enough : (n : ℕ) → (n == 0) ≡ false → nat_le 1 n ≡ true
enough zero h = cc
enough (suc n) h = le-leb 1 (suc n) (omega arith)

pub none_left : (n : ℕ) → (n == 0) ≡ true → nat_le 1 n ≡ false
none_left zero h = refl
none_left (suc n) h = let none : suc n ≡ 0 = search (rules, h) in absurd (omega (arith, none))

module _ {A : Type 0} (p : Place) (m : Computation Here A) (s : State Here) where
  pub step_taken : nat_le 1 s.steps ≡ true → paid p m s ≡ m (record s { steps = s.steps - 1 })
  step_taken h = ap (λ b. then_do (take_if b 1 p s) (λ u. m)) h

  pub step_wanting : nat_le 1 s.steps ≡ false → paid p m s ≡ bad (fault_at kind.Steps p) s
  step_wanting h = ap (λ b. then_do (take_if b 1 p s) (λ u. m)) h
