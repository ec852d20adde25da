-- What holds of the value of an outcome, if there is one.
use Rattle.std.proofs.Common.{◌≡◌, Bool, true, false, Option, Some, None, Result, Ok, Err, refl, ap, if◌then◌else◌}
use Rattle.std.specs.Result.{IfOk}
use Rattle.ytt_base.specs.Outcomes.{Outcome, ◌>>=◌}

or_given : {A E : Type 0} → A → Result A E → A
or_given d (Ok x) = x
or_given d (Err e) = d

pub ok_same : {A : Type 0} (E : Type 0) (x y : A) → ◌≡◌ {A = Result A E} (Ok x) (Ok y) → x ≡ y
unfolding or_given
ok_same {A} E x y e = ap (or_given {A = A} {E = E} x) e

pub yielded_any : {A E : Type 0} (o : Result A E) → IfOk o (λ _. Unit {0})
yielded_any (Ok x) = tt
yielded_any (Err e) = tt

-- what holds of each value that it may have
pub yielded_where : {A E : Type 0} (P : A → Type 0) (o : Result A E) → ((x : A) → o ≡ Ok x → P x) → IfOk o P
yielded_where P (Ok x) h = h x refl
yielded_where P (Err e) h = tt

pub yielded_itself : {A E : Type 0} (o : Result A E) → IfOk o (λ x. o ≡ Ok x)
yielded_itself o = yielded_where (λ x. o ≡ Ok x) o (λ x e. e)

-- behind a part of whose value Q holds
pub yielded_then : {A B : Type 0} (Q : A → Type 0) (P : B → Type 0) (o : Outcome A) (f : A → Outcome B) → IfOk o Q → ((x : A) → Q x → IfOk (f x) P) → IfOk (o >>= f) P
yielded_then Q P (Ok x) f h k = k x h
yielded_then Q P (Err e) f h k = tt

-- behind any part
pub yielded_behind : {A B : Type 0} (P : B → Type 0) (o : Outcome A) (f : A → Outcome B) → ((x : A) → IfOk (f x) P) → IfOk (o >>= f) P
yielded_behind P (Ok x) f k = k x
yielded_behind P (Err e) f k = tt

-- by a test: with what it says, without, and where it is written `if`
pub yielded_test : {A E : Type 0} (P : A → Type 0) (b : Bool) (o p : Result A E) → (b ≡ true → IfOk o P) → (b ≡ false → IfOk p P) → IfOk (elim b as (λ _. Result A E) [ true ↦ o | false ↦ p ]) P
yielded_test P true o p h k = h refl
yielded_test P false o p h k = k refl

pub yielded_either : {A E : Type 0} (P : A → Type 0) (b : Bool) (o p : Result A E) → IfOk o P → IfOk p P → IfOk (elim b as (λ _. Result A E) [ true ↦ o | false ↦ p ]) P
yielded_either P b o p h k = yielded_test P b o p (λ _. h) (λ _. k)

pub yielded_if : {A E : Type 0} (P : A → Type 0) (b : Bool) (o p : Result A E) → (b ≡ true → IfOk o P) → (b ≡ false → IfOk p P) → IfOk (if b then o else p) P
yielded_if P true o p h k = h refl
yielded_if P false o p h k = k refl

-- by what an option holds
pub yielded_option : {A B E : Type 0} (P : B → Type 0) (o : Option A) (p : Result B E) (f : A → Result B E) → IfOk p P → ((x : A) → IfOk (f x) P) →
    IfOk (elim o as (λ _. Result B E) [ None ↦ p | Some x ↦ f x ]) P
yielded_option P None p f h k = h
yielded_option P (Some x) p f h k = k x
