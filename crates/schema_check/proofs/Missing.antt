-- Defaults that are added, one type after another, and the names that they are looked up among.
use Rattle.std.proofs.Common.{◌≡◌, ℕ, zero, suc, ◌+◌, ◌≤◌, Bool, true, false, ◌||◌, cond, List, [], ◌∷◌, ◌++◌, Option, Some, None, refl, sym, ap, ◌∙◌, arith, add-one, bytes_eq}
use Rattle.ytt_base.specs.declared.tree.Key.{Key}
use Rattle.ytt_base.specs.declared.tree.Key.TheVariants as key
use Rattle.ytt_base.specs.declared.tree.Tree.{Tree}
use Rattle.ytt_base.specs.Trees.{Scalar, string, has_key, same_key, Pairs, no_pairs, pair}
use Rattle.ytt_base.specs.View.{key_of, pairs_of, tree_of}
use Rattle.ytt_laws.proofs.Lists.{bytes_eq-sym}
use Rattle.schema_spec.specs.Offences.{add_pairs, missing}
use Rattle.schema_spec.specs.Schemas as plain
use Rattle.schema_spec.specs.Schemas.{default_of, no_types, type_pair}
use Rattle.schema_check.specs.Filled.{unless_there}
use Rattle.schema_check.specs.Places.{entry_at, type_count, types_from}

-- one more name among those that are known
pub either : (b c x : Bool) → b ≡ c → cond b true x ≡ (c || x)
either true c x e = rw (← e) refl
either false c x e = rw (← e) refl

pub text_known : (n t : List ℕ) (x now : Bool) → now ≡ cond (bytes_eq t n) true x → now ≡ (same_key (string n) (string t) || x)
text_known n t x now e = e ∙ either (bytes_eq t n) (bytes_eq n t) x (bytes_eq-sym t n)

pub add-last : (ps : List (Key × Tree)) (p : Key × Tree) (qs : Pairs) → add_pairs (pairs_of (ps ++ p ∷ [])) qs ≡ add_pairs (pairs_of ps) (pair (key_of p.0) (tree_of p.1) qs)
add-last [] p qs = refl
add-last (q ∷ ps) p qs = ap (pair (key_of q.0) (tree_of q.1)) (add-last ps p qs)

pub add-none : (ps : List (Key × Tree)) → add_pairs (pairs_of ps) no_pairs ≡ pairs_of ps
add-none [] = refl
add-none (q ∷ ps) = ap (pair (key_of q.0) (tree_of q.1)) (add-none ps)

-- ---- types one after another

abbrev by_entry : Option (List ℕ × plain.Schema) → plain.TypePairs → plain.TypePairs
by_entry None rest = no_types
by_entry (Some e) rest = type_pair e.0 e.1 rest

from-entry : (n : ℕ) (ms : plain.TypePairs) → types_from n ms ≡ by_entry (entry_at n ms) (types_from (suc n) ms)
from-entry zero no_types = refl
from-entry zero (type_pair m s ms) = refl
from-entry (suc n) no_types = refl
from-entry (suc n) (type_pair m s ms) = from-entry n ms

-- behind the last one there are no more
from-none : (n : ℕ) (ms : plain.TypePairs) → entry_at n ms ≡ None → types_from (suc n) ms ≡ no_types
from-none zero no_types e = refl
from-none zero (type_pair m s ms) e = cc
from-none (suc n) no_types e = refl
from-none (suc n) (type_pair m s ms) e = from-none n ms e

from-end : (n : ℕ) (ms : plain.TypePairs) → type_count ms ≤ n → types_from n ms ≡ no_types
from-end zero no_types h = refl
from-end zero (type_pair m s ms) h = absurd (omega arith)
from-end (suc n) no_types h = refl
from-end (suc n) (type_pair m s ms) h = from-end n ms (omega arith)

-- ---- defaults one after another

abbrev unless_known : Bool → List ℕ × plain.Schema → Pairs → Pairs
unless_known b x rest = elim b as (λ _. Pairs) [ true ↦ rest | false ↦ pair (string x.0) (default_of x.1) rest ]

-- over the types of a map, where ks are the keys of a value
module _ (ms : plain.TypePairs) (j : ℕ) (ks : List Scalar) (qs : List (Key × Tree)) (all : Pairs) where
  -- all are passed
  pub missing_all : type_count ms ≤ j → add_pairs (pairs_of qs) (missing (types_from j ms) ks) ≡ all → pairs_of qs ≡ all
  missing_all past h = sym (add-none qs) ∙ ap (λ ts. add_pairs (pairs_of qs) (missing ts ks)) (sym (from-end j ms past)) ∙ h

  -- nothing stands there
  pub missing_past : None ≡ entry_at j ms → add_pairs (pairs_of qs) (missing (types_from j ms) ks) ≡ all → add_pairs (pairs_of qs) (missing (types_from (j + 1) ms) ks) ≡ all
  missing_past e h =
      let now : types_from j ms ≡ no_types = from-entry j ms ∙ ap (λ o. by_entry o (types_from (suc j) ms)) (sym e) in
      ap (λ ts. add_pairs (pairs_of qs) (missing ts ks)) (ap (λ n. types_from n ms) (add-one j) ∙ from-none j ms (sym e) ∙ sym now) ∙ h

  module _ (x : List ℕ × plain.Schema) (is : Some x ≡ entry_at j ms) where
    first : (b : Bool) → has_key (string x.0) ks ≡ b → missing (types_from j ms) ks ≡ unless_known b x (missing (types_from (j + 1) ms) ks)
    first b e =
        ap (λ ts. missing ts ks) (from-entry j ms ∙ ap (λ o. by_entry o (types_from (suc j) ms)) (sym is)) ∙ ap (λ c. unless_known c x (missing (types_from (suc j) ms) ks)) e
        ∙ ap (λ n. unless_known b x (missing (types_from n ms) ks)) (sym (add-one j))

    -- the next default is added, unless its key is there
    pub missing_next : (d : Tree) → tree_of d ≡ default_of x.1 → (b : Bool) → has_key (string x.0) ks ≡ b → add_pairs (pairs_of qs) (missing (types_from j ms) ks) ≡ all
        → add_pairs (pairs_of (unless_there b qs x.0 d)) (missing (types_from (j + 1) ms) ks) ≡ all
    missing_next d same true e h = ap (add_pairs (pairs_of qs)) (sym (first true e)) ∙ h
    missing_next d same false e h =
        add-last qs (key.Str x.0, d) _ ∙ ap (λ u. add_pairs (pairs_of qs) (pair (string x.0) u (missing (types_from (j + 1) ms) ks))) same
        ∙ ap (add_pairs (pairs_of qs)) (sym (first false e)) ∙ h
