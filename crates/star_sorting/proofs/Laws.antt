-- The order of values is a strict weak order.
use Rattle.star_steps.proofs.Names.{Ordering, ◌≡◌, ℕ, zero, suc, ℤ, pos, Bool, true, false, cond, nat_lt, int_lt, ◌==◌, List, [], ◌∷◌, refl, ap, ◌∙◌, subst, Comparison, by_members, by_number, is_below, order, order_by, order_within, rank, list_at, Store, none_value, bool_value, int_value, text_value, tuple_value, range_value, struct_value, fragment_value, list_value, dict_value, function_value, module_value, native_value}
use Rattle.std.proofs.Common.{Less, Equal, Greater}
use Rattle.std.specs.Cmp.{IsStrictWeakOrder, IsTotalOrder, int_cmp_total, nat_cmp_total, on_total, then_total}
use Rattle.std.specs.Cmp.Lexicographic.{lists_total, slice_cmp}
use Rattle.std.specs.Ordering.{int_cmp, is_lt, nat_cmp, ordering_then}
use Rattle.std.proofs.lemmas.List.Sorted.{IsStrictWeakOrder-flip, ranks_by}
use Rattle.builtin_spec.specs.Sorting.{comes_before}
use Rattle.operator_spec.specs.Order.{or_next}
use Rattle.star_compare.proofs.Comparing.{order_is}
use Rattle.star_compare.specs.Alike.{comparison_of, ordered}
use Rattle.star_values.specs.View.{text_in}
use Rattle.value_spec.specs.Values.{Value, values_in}

-- an integer, and 1 for True
abbrev number_in : Value → ℤ
number_in (bool_value true) = pos 1
number_in (int_value z) = z
number_in _ = pos 0

abbrev parts_in : Store → Value → List Value
parts_in store (tuple_value vs) = values_in vs
parts_in store (list_value r) = list_at r store
parts_in store _ = []

-- the rank decides, and then what values of one rank hold
abbrev parts_cmp : (List Value → List Value → Ordering) → Store → Value → Value → Ordering
parts_cmp within store a b = ordering_then (nat_cmp (rank a) (rank b)) (ordering_then (int_cmp (number_in a) (number_in b)) (ordering_then (slice_cmp nat_cmp (text_in a) (text_in b)) (within (parts_in store a) (parts_in store b))))

-- ---- the same as the order of the definitions

chosen_is : (s t : Bool) (p q r : Ordering) → comparison_of (cond s p (cond t q r)) ≡ cond s (comparison_of p) (cond t (comparison_of q) (comparison_of r))
chosen_is true t p q r = refl
chosen_is false true p q r = refl
chosen_is false false p q r = refl

then_is : (o r : Ordering) → comparison_of (ordering_then o r) ≡ or_next (comparison_of o) (comparison_of r)
then_is Less r = refl
then_is Equal r = refl
then_is Greater r = refl

members_are : {A : Type 0} (R : A → A → Ordering) (compare : A → A → Comparison) → ((a b : A) → comparison_of (R a b) ≡ compare a b) → (xs ys : List A) → comparison_of (slice_cmp R xs ys) ≡ by_members compare xs ys
members_are R compare h [] [] = refl
members_are R compare h [] (y ∷ ys) = refl
members_are R compare h (x ∷ xs) [] = refl
members_are R compare h (x ∷ xs) (y ∷ ys) = then_is (R x y) (slice_cmp R xs ys) ∙ (λ i. or_next (h x y i) (members_are R compare h xs ys i))

-- what decides where nothing that follows does
alone : (o r : Ordering) → r ≡ Equal → comparison_of (ordering_then o r) ≡ comparison_of o
alone Less r e = refl
alone Equal r e = ap comparison_of e
alone Greater r e = refl

number_is : (a b : ℕ) → comparison_of (nat_cmp a b) ≡ by_number a b
number_is a b = chosen_is (nat_lt a b) (a == b) Less Equal Greater

by_rank : (a b : Value) (r : Ordering) → r ≡ Equal → comparison_of (ordering_then (nat_cmp (rank a) (rank b)) r) ≡ by_number (rank a) (rank b)
by_rank a b r e = alone (nat_cmp (rank a) (rank b)) r e ∙ number_is (rank a) (rank b)

parts_are : (R : List Value → List Value → Ordering) (within : List Value → List Value → Comparison) → ((l r : List Value) → comparison_of (R l r) ≡ within l r) → R [] [] ≡ Equal → (store : Store) (a b : Value) → comparison_of (parts_cmp R store a b) ≡ order_by within store a b
parts_are R within h none store (bool_value false) (bool_value false) = ap comparison_of none
parts_are R within h none store (bool_value false) (bool_value true) = refl
parts_are R within h none store (bool_value true) (bool_value false) = refl
parts_are R within h none store (bool_value true) (bool_value true) = ap comparison_of none
parts_are R within h none store (int_value a) (int_value b) = alone (int_cmp a b) (R [] []) none ∙ chosen_is (int_lt a b) (int_lt b a) Less Greater Equal
parts_are R within h none store (text_value a) (text_value b) = alone (slice_cmp nat_cmp a b) (R [] []) none ∙ members_are nat_cmp by_number number_is a b
parts_are R within h none store (tuple_value vs) (tuple_value ws) = h (values_in vs) (values_in ws)
parts_are R within h none store (list_value a) (list_value b) = h (list_at a store) (list_at b store)
parts_are R within h none store none_value none_value = by_rank none_value none_value (R [] []) none
parts_are R within h none store (range_value start stop step) none_value = by_rank (range_value start stop step) none_value (R [] []) none
parts_are R within h none store (struct_value fs) none_value = by_rank (struct_value fs) none_value (R [] []) none
parts_are R within h none store (fragment_value k cs) none_value = by_rank (fragment_value k cs) none_value (R [] []) none
parts_are R within h none store (dict_value r) none_value = by_rank (dict_value r) none_value (R [] []) none
parts_are R within h none store (function_value r) none_value = by_rank (function_value r) none_value (R [] []) none
parts_are R within h none store (module_value x fs) none_value = by_rank (module_value x fs) none_value (R [] []) none
parts_are R within h none store (native_value f) none_value = by_rank (native_value f) none_value (R [] []) none
parts_are R within h none store a b = by_rank a b (R [] []) none

abbrev within_cmp : (levels : ℕ) → Store → List Value → List Value → Ordering
within_cmp zero store l r = Equal
within_cmp (suc n) store l r = slice_cmp (parts_cmp (within_cmp n store) store) l r

nothing_within : (n : ℕ) (store : Store) → within_cmp n store [] [] ≡ Equal
nothing_within zero store = refl
nothing_within (suc n) store = refl

within_is : (n : ℕ) (store : Store) (l r : List Value) → comparison_of (within_cmp n store l r) ≡ order_within n store l r
within_is zero store l r = refl
within_is (suc n) store l r = members_are (parts_cmp (within_cmp n store) store) (order_by (order_within n store) store) (parts_are (within_cmp n store) (order_within n store) (within_is n store) (nothing_within n store) store) l r

-- ---- its laws

parts_total : (R : List Value → List Value → Ordering) → IsTotalOrder R → (store : Store) → IsTotalOrder (parts_cmp R store)
parts_total R o store = then_total (on_total rank nat_cmp_total) (then_total (on_total number_in int_cmp_total) (then_total (on_total text_in (lists_total nat_cmp_total)) (on_total (parts_in store) o)))

within_total : (n : ℕ) (store : Store) → IsTotalOrder (within_cmp n store)
within_total zero store = record { antisymm = λ l r. refl; trans = λ l r s p q. p; congr = λ l r s p. refl }
within_total (suc n) store = lists_total (parts_total (within_cmp n store) (within_total n store) store)

below_is : (o : Ordering) → is_lt o ≡ is_below (comparison_of o)
below_is Less = refl
below_is Equal = refl
below_is Greater = refl

pub told : (store : Store) (o : Ordering) (x y : Value) → comparison_of o ≡ ordered 100 store x y → is_lt o ≡ is_below (order store x y)
told store o x y e = below_is o ∙ ap is_below (e ∙ order_is store x y)

ranked : (n : ℕ) (store : Store) → IsStrictWeakOrder (λ a b. is_below (order_by (order_within n store) store a b))
ranked n store =
    subst IsStrictWeakOrder (λ i a b. (below_is (parts_cmp (within_cmp n store) store a b) ∙ ap is_below (parts_are (within_cmp n store) (order_within n store) (within_is n store) (nothing_within n store) store a b)) i)
    (ranks_by (parts_total (within_cmp n store) (within_total n store) store) (λ a. a))

pub is_order : (descending : Bool) (store : Store) → IsStrictWeakOrder (comes_before descending store)
is_order false store = ranked 100 store
is_order true store = IsStrictWeakOrder-flip (λ a b. is_below (order store a b)) (ranked 100 store)

pub order_through : {X : Type 0} (lt : Value → Value → Bool) (f : X → Value) → IsStrictWeakOrder lt → IsStrictWeakOrder (λ x y. lt (f x) (f y))
order_through lt f o = record { one_way = λ x y. o.one_way (f x) (f y); chain = λ x y z. o.chain (f x) (f y) (f z) }
