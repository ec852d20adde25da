-- Types of keys by the places of their names.
use Rattle.std.proofs.Common.{◌≡◌, ℕ, zero, suc, min, Bool, true, false, List, [], ◌∷◌, ◌++◌, length, Option, Some, None, refl, ap, ◌∙◌, bytes_eq, slice_get, arith, length-append}
use Rattle.std.specs.Option.{option_map}
use Rattle.schema_spec.specs.Schemas as plain
use Rattle.schema_spec.specs.Schemas.{type_at, type_pair}
use Rattle.schema_check.specs.declared.types.Schema.{Schema}
use Rattle.schema_check.specs.Places.{and_type, entry_at, place_of, type_count}
use Rattle.schema_check.specs.View.{named_of, schema_of}

-- ---- the type of a name

abbrev pub at_place : List Schema → Option ℕ → Option plain.Schema
at_place ss None = None
at_place ss (Some i) = option_map schema_of (slice_get ss i)

at-none : (o : Option ℕ) → None ≡ at_place [] o
at-none None = refl
at-none (Some zero) = refl
at-none (Some (suc i)) = refl

by-name : (b : Bool) (s : Schema) (ss : List Schema) (o : Option ℕ)
    → elim b as (λ _. Option plain.Schema) [ true ↦ Some (schema_of s) | false ↦ at_place ss o ] ≡ at_place (s ∷ ss) (elim b as (λ _. Option ℕ) [ true ↦ Some 0 | false ↦ option_map suc o ])
by-name true s ss o = refl
by-name false s ss None = refl
by-name false s ss (Some i) = refl

pub type_at-place : (x : List ℕ) (ns : List (List ℕ)) (ss : List Schema) → type_at x (named_of ns ss) ≡ at_place ss (place_of x ns)
type_at-place x [] ss = refl
type_at-place x (n ∷ ns) [] = at-none (place_of x (n ∷ ns))
type_at-place x (n ∷ ns) (s ∷ ss) =
    ap (λ o. elim (bytes_eq x n) as (λ _. Option plain.Schema) [ true ↦ Some (schema_of s) | false ↦ o ]) (type_at-place x ns ss) ∙ by-name (bytes_eq x n) s ss (place_of x ns)

-- ---- what stands at a place

abbrev pub both : Option (List ℕ) → Option Schema → Option (List ℕ × plain.Schema)
both None o = None
both (Some n) None = None
both (Some n) (Some s) = Some (n, schema_of s)

none-both : (o : Option (List ℕ)) → None ≡ both o None
none-both None = refl
none-both (Some n) = refl

pub entry_at-both : (i : ℕ) (ns : List (List ℕ)) (ss : List Schema) → entry_at i (named_of ns ss) ≡ both (slice_get ns i) (slice_get ss i)
entry_at-both zero [] ss = refl
entry_at-both (suc i) [] ss = refl
entry_at-both zero (n ∷ ns) [] = refl
entry_at-both (suc i) (n ∷ ns) [] = none-both (slice_get ns i)
entry_at-both zero (n ∷ ns) (s ∷ ss) = refl
entry_at-both (suc i) (n ∷ ns) (s ∷ ss) = entry_at-both i ns ss

pub type_count-min : (ns : List (List ℕ)) (ss : List Schema) → type_count (named_of ns ss) ≡ min (length ns) (length ss)
type_count-min [] ss = omega arith
type_count-min (n ∷ ns) [] = omega arith
type_count-min (n ∷ ns) (s ∷ ss) = omega (arith, type_count-min ns ss)

-- ---- one more

pub named_of-last : (ns : List (List ℕ)) (ss : List Schema) (n : List ℕ) (s : Schema) → length ns ≡ length ss → named_of (ns ++ n ∷ []) (ss ++ s ∷ []) ≡ and_type (named_of ns ss) n (schema_of s)
named_of-last [] [] n s e = refl
named_of-last [] (t ∷ ss) n s e = cc
named_of-last (m ∷ ns) [] n s e = cc
named_of-last (m ∷ ns) (t ∷ ss) n s e = ap (type_pair m (schema_of t)) (named_of-last ns ss n s cc)

pub same-lengths : {A B : Type 0} (xs : List A) (ys : List B) (x : A) (y : B) → length xs ≡ length ys → length (xs ++ x ∷ []) ≡ length (ys ++ y ∷ [])
same-lengths xs ys x y e = omega (arith, length-append xs (x ∷ []), length-append ys (y ∷ []), e)
