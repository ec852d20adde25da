-- Sets of texts in their order.
use Rattle.std.proofs.Common.{◌≡◌, ℕ, suc, ◌+◌, not, Bool, true, false, ◌||◌, cond, List, [], ◌∷◌, ◌++◌, length, Some, None, if◌then◌else◌, nat_lt, refl, ap, arith, ◌∙◌, Global, String, map as each}
use Rattle.std.proofs.lemmas.Bool.Decides.{nat_tests}
use Rattle.std.proofs.lemmas.List.{map-append}
use Rattle.std.specs.List.{list_any, position, position_or_len}
use Rattle.std.specs.Prelude.{bytes_eq, string_bytes}
use Rattle.std.specs.String.{string_eq}
use Rattle.indexmap.specs.IndexSet.{insert_key}
use Rattle.star_resolve.specs.Variables.{with_name}

any_same : (k : String Global) (ks : List (String Global)) → list_any (string_eq k) ks ≡ list_any (bytes_eq (string_bytes k)) (each string_bytes ks)
any_same k [] = refl
any_same k (x ∷ ks) = ap (λ b. bytes_eq (string_bytes k) (string_bytes x) || b) (any_same k ks)

kept : (b : Bool) (k : String Global) (ks : List (String Global)) → each string_bytes (if b then ks else ks ++ k ∷ []) ≡ (if b then each string_bytes ks else each string_bytes ks ++ string_bytes k ∷ [])
kept true k ks = refl
kept false k ks = map-append string_bytes ks (k ∷ [])

pub added : (k : String Global) (ks : List (String Global)) → each string_bytes (insert_key string_eq ks k) ≡ with_name (each string_bytes ks) (string_bytes k)
added k ks =
    kept (list_any (string_eq k) ks) k ks
    ∙ ap (λ b. if b then each string_bytes ks else each string_bytes ks ++ string_bytes k ∷ []) (any_same k ks)

index_same : (x : List ℕ) (ks : List (String Global)) → position_or_len (λ k. bytes_eq x (string_bytes k)) ks ≡ position_or_len (bytes_eq x) (each string_bytes ks)
index_same x [] = refl
index_same x (k ∷ ks) = ap (λ n. cond (not (bytes_eq x (string_bytes k))) (1 + n) 0) (index_same x ks)

pub length_same : (ks : List (String Global)) → length ks ≡ length (each string_bytes ks)
length_same [] = refl
length_same (k ∷ ks) = ap suc (length_same ks)

pub position_same : (x : List ℕ) (ks : List (String Global)) → position (λ k. bytes_eq x (string_bytes k)) ks ≡ position (bytes_eq x) (each string_bytes ks)
position_same x ks = λ i. cond (nat_lt (index_same x ks i) (length_same ks i)) (Some (index_same x ks i)) None

-- ---- numbers

one_further : (b : Bool) (m n : ℕ) (c : Bool) → nat_lt m n ≡ c → nat_lt (cond (not b) (1 + m) 0) (suc n) ≡ (b || c)
one_further true m n c h = grind (arith, nat_tests)
one_further false m n c h = grind (arith, nat_tests)

-- a member that passes stands within the list
pub within : {A : Type 0} (p : A → Bool) (xs : List A) → nat_lt (position_or_len p xs) (length xs) ≡ list_any p xs
within p [] = refl
within p (x ∷ xs) = one_further (p x) (position_or_len p xs) (length xs) (list_any p xs) (within p xs)

pub position_by : {A : Type 0} (p : A → Bool) (xs : List A) → position p xs ≡ cond (list_any p xs) (Some (position_or_len p xs)) None
position_by p xs = ap (λ b. cond b (Some (position_or_len p xs)) None) (within p xs)
