-- New boxes for names, one after another.
use Rattle.std.proofs.Common.{◌≡◌, ℕ, zero, suc, ◌+◌, ◌≤◌, ◌<◌, List, [], ◌∷◌, ◌++◌, drop, length, reverse, Some, None, Result, Ok, Err, IfOk, slice_get, refl, ap, subst, sym, ◌∙◌, rules, arith}
use Rattle.std.proofs.lemmas.List.{drop_all, length-append, reverse-append}
use Rattle.std.proofs.lemmas.Option.{slice_get_within}
use Rattle.code_spec.specs.Code.{Name}
use Rattle.star_resolve.specs.Frames.{boxed, unset_boxes}
use Rattle.star_values.specs.Objects.{env_in, variable_in}
use Rattle.star_values.specs.Owns.{Grows, OwnsEnv, OwnsVariable}
use Rattle.star_values.proofs.Growing.{each_joined, grows_same, grows_then}
use Rattle.star_values.specs.View.{View}
use Rattle.star_values.specs.declared.object.NamedBox.{NamedBox}
use Rattle.value_spec.specs.Store.{object}
use Rattle.value_spec.specs.Values.{of_box}
use Rattle.star_calls.specs.Scope.{Opens}
use Rattle.star_calls.proofs.Kept.{env_kept, reversed_each}

pub record OpenedSoFar (names : List Name) (before after : View) (made : List NamedBox) (at : ℕ) : Type 0 where
  pub env : boxed (length before.store) names [] ≡ boxed (length before.store + at) (drop at names) (env_in after.held (reverse made))
  pub owned : OwnsEnv after made
  pub store : after.store ≡ before.store ++ unset_boxes at
  pub within : at ≤ length names
  pub grows : Grows before after

-- ---- lists

pub split_at : {A : Type 0} (xs : List A) (i n : ℕ) (x : A) → slice_get xs i ≡ Some x → n ≡ i + 1 → drop i xs ≡ x ∷ drop n xs
split_at [] zero n x h e = absurd (search (rules, h))
split_at [] (suc i) n x h e = absurd (search (rules, h))
split_at (y ∷ xs) zero n x h e = let same : y ≡ x = search (rules, h) in λ j. same j ∷ drop (sym e j) (y ∷ xs)
split_at (y ∷ xs) (suc i) n x h e = split_at xs i (i + 1) x h refl ∙ ap (λ m. x ∷ drop m (y ∷ xs)) (next i n e)
  where
    next : (i n : ℕ) → n ≡ suc i + 1 → suc (i + 1) ≡ n
    next i n e = omega (arith, e)

pub none_left : {A : Type 0} (xs : List A) (i : ℕ) → slice_get xs i ≡ None → drop i xs ≡ []
none_left [] zero h = refl
none_left [] (suc i) h = refl
none_left (x ∷ xs) zero h = absurd (search (rules, h))
none_left (x ∷ xs) (suc i) h = none_left xs i h

-- ---- boxes

unset_length : (n : ℕ) → length (unset_boxes n) ≡ n
unset_length zero = refl
unset_length (suc n) = ap suc (unset_length n)

in_a_row : {A : Type 0} (xs ys zs : List A) → (xs ++ ys) ++ zs ≡ xs ++ (ys ++ zs)
in_a_row [] ys zs = refl
in_a_row (x ∷ xs) ys zs = ap (λ l. x ∷ l) (in_a_row xs ys zs)

one_more : (n : ℕ) → unset_boxes n ++ unset_boxes 1 ≡ unset_boxes (suc n)
one_more zero = refl
one_more (suc n) = ap (λ l. object (of_box None) ∷ l) (one_more n)

by_one : (n m : ℕ) → m ≡ n + 1 → suc n ≡ m
by_one n m e = omega (arith, e)

last_first : {A : Type 0} (xs : List A) (x : A) → reverse (xs ++ x ∷ []) ≡ x ∷ reverse xs
last_first xs x = reverse-append xs (x ∷ [])

pub none_opened : (names : List Name) (a : View) → OpenedSoFar names a a [] 0
none_opened names a = record {
  env = ap (λ n. boxed n names []) (plus_none (length a.store));
  owned = tt;
  store = none_behind a.store;
  within = omega arith;
  grows = grows_same a;
}
  where
    plus_none : (n : ℕ) → n ≡ n + 0
    plus_none n = omega arith

    none_behind : {A : Type 0} (xs : List A) → xs ≡ xs ++ []
    none_behind [] = refl
    none_behind (x ∷ xs) = ap (λ l. x ∷ l) (none_behind xs)

pub opened_next : (names : List Name) (a b c : View) (made new : List NamedBox) (at next : ℕ) (x : Name) (n : NamedBox) → OpenedSoFar names a b made at → slice_get names at ≡ Some x → Grows b c →
    variable_in c.held n ≡ (x, length b.store) → OwnsVariable c n → c.store ≡ b.store ++ unset_boxes 1 → new ≡ made ++ n ∷ [] → next ≡ at + 1 → OpenedSoFar names a c new next
opened_next names a b c made new at next x n h there g variable owned store more e =
    let first = length a.store in
    let rest = env_kept b c (reverse made) g (reversed_each (OwnsVariable b) made h.owned) in
    let position : length b.store ≡ first + at = ap length h.store ∙ length-append a.store (unset_boxes at) ∙ ap (λ k. first + k) (unset_length at) in
    let env : env_in c.held (reverse new) ≡ (x, first + at) ∷ env_in b.held (reverse made) =
    ap (λ bs. env_in c.held (reverse bs)) more ∙ ap (env_in c.held) (last_first made n) ∙ (λ i. variable i ∷ rest.1 i) ∙ ap (λ k. (x, k) ∷ env_in b.held (reverse made)) position in
    let before : at < length names = slice_get_within names at x there in
    record {
      env = h.env ∙ ap (λ l. boxed (first + at) l (env_in b.held (reverse made))) (split_at names at next x there e)
          ∙ (λ i. boxed (further first at next e i) (drop next names) (sym env i));
      owned = subst (OwnsEnv c) (sym more) (each_joined (OwnsVariable c) made (n ∷ []) (env_kept b c made g h.owned).0 (owned, tt));
      store = store ∙ ap (λ st. st ++ unset_boxes 1) h.store ∙ in_a_row a.store (unset_boxes at) (unset_boxes 1) ∙ ap (λ l. a.store ++ l) (one_more at ∙ ap unset_boxes (by_one at next e));
      within = omega (arith, before, e);
      grows = grows_then a b c h.grows g;
    }
  where
    further : (first at next : ℕ) → next ≡ at + 1 → suc (first + at) ≡ first + next
    further first at next e = omega (arith, e)

pub all_opened : (names : List Name) (a b : View) (made scope : List NamedBox) (at : ℕ) → OpenedSoFar names a b made at → length names ≤ at → scope ≡ reverse made → Opens names a b scope
all_opened names a b made scope at h least e =
    let first = length a.store in
    record {
      env = ap (env_in b.held) e ∙ sym (h.env ∙ ap (λ l. boxed (first + at) l (env_in b.held (reverse made))) (drop_all at names least));
      owned = subst (OwnsEnv b) (sym e) (reversed_each (OwnsVariable b) made h.owned);
      store = h.store ∙ ap (λ n. a.store ++ unset_boxes n) (all at (length names) h.within least);
    }
  where
    all : (m n : ℕ) → m ≤ n → n ≤ m → m ≡ n
    all m n h k = omega (arith, h, k)

-- the same of what was given
pub all_in : {E : Type 0} (names : List Name) (a b : View) (made : List NamedBox) (at : ℕ) → OpenedSoFar names a b made at → length names ≤ at → (r : Result (List NamedBox) E) → IfOk r (λ scope. scope ≡ reverse made) → IfOk r (Opens names a b)
all_in names a b made at h least (Ok scope) e = all_opened names a b made scope at h least e
all_in names a b made at h least (Err x) e = tt
