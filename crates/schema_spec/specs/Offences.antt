-- Where a tree isn't of a type, and what is filled in where a tree is.
use Rattle.std.specs.Prelude.{ℕ, suc, true, false, if◌then◌else◌, List, [], ◌∷◌, ◌++◌, Option, Some, None}
use Rattle.ytt_base.specs.Trees.{Scalar, string, Tree, scalar, list, map, Trees, no_trees, tree, Pairs, no_pairs, pair, Step, key, index, keys, has_key}
use Rattle.schema_spec.specs.Schemas.{Schema, schema, TypePairs, no_types, type_pair, member, default_of, anything, these, another, of_list, of_map, fits_scalar}

-- what is wrong at a path: a node of another type, which is a node with the type that it should have; or a key that a map's type doesn't have
pub data Wrong : Type 0 where
  mismatch : Schema → Tree → Wrong
  unknown_key : Schema → Tree → Wrong

-- where it is wrong, and what
pub record Offence : Type 0 where
  pub path : List Step
  pub wrong : Wrong

-- the same in a member
abbrev pub under : Step → Offence → Offence
under s o = record o { path = s ∷ o.path }

abbrev pub all_under : Step → List Offence → List Offence
all_under s [] = []
all_under s (o ∷ os) = under s o ∷ all_under s os

-- the one offence of a node of another type
abbrev pub wrong_kind : Schema → Tree → List Offence
wrong_kind s t = record { path = []; wrong = mismatch s t } ∷ []

-- a key of a map, with the map and its type
abbrev pub unknown : Scalar → Schema → Tree → List Offence
unknown k s t = record { path = key k ∷ []; wrong = unknown_key s t } ∷ []

-- all offences, in the tree's order, a node before its members; `whole` is the map with its type
abbrev mutual
  pub offences : Schema → Tree → List Offence
  offences (schema k nullable d) (scalar x) = if fits_scalar nullable k x then [] else wrong_kind (schema k nullable d) (scalar x)
  offences (schema k nullable d) (list ts) = elim (of_list k) [
    | anything ↦ []
    | these i ↦ element_offences i 0 ts
    | another ↦ wrong_kind (schema k nullable d) (list ts)
  ]
  offences (schema k nullable d) (map ps) = elim (of_map k) [
    | anything ↦ []
    | these ms ↦ pair_offences (schema k nullable d) (map ps) ms ps
    | another ↦ wrong_kind (schema k nullable d) (map ps)
  ]

  pub element_offences : Schema → ℕ → Trees → List Offence
  element_offences i n no_trees = []
  element_offences i n (tree t ts) = all_under (index n) (offences i t) ++ element_offences i (suc n) ts

  pub pair_offences : (type : Schema) → (whole : Tree) → TypePairs → Pairs → List Offence
  pair_offences type whole ms no_pairs = []
  pair_offences type whole ms (pair k t ps) =
      elim (member k ms) [ Some s ↦ all_under (key k) (offences s t) | None ↦ unknown k type whole ] ++ pair_offences type whole ms ps

abbrev pub first_offence : Schema → Tree → Option Offence
first_offence s t = elim (offences s t) [ [] ↦ None | o ∷ os ↦ Some o ]

-- ---- filling

-- pairs, and others behind them
abbrev pub add_pairs : Pairs → Pairs → Pairs
add_pairs no_pairs qs = qs
add_pairs (pair k t ps) qs = pair k t (add_pairs ps qs)

-- the defaults of the keys that are missing, in the type's order
abbrev pub missing : TypePairs → List Scalar → Pairs
missing no_types ks = no_pairs
missing (type_pair n s ms) ks = elim (has_key (string n) ks) [ true ↦ missing ms ks | false ↦ pair (string n) (default_of s) (missing ms ks) ]

abbrev mutual
  pub fill : Schema → Tree → Tree
  fill (schema k nullable d) (scalar x) = scalar x
  fill (schema k nullable d) (list ts) = elim (of_list k) [ anything ↦ list ts | these i ↦ list (fill_trees i ts) | another ↦ list ts ]
  fill (schema k nullable d) (map ps) = elim (of_map k) [
    | anything ↦ map ps
    | these ms ↦ map (add_pairs (fill_pairs ms ps) (missing ms (keys ps)))
    | another ↦ map ps
  ]

  pub fill_trees : Schema → Trees → Trees
  fill_trees i no_trees = no_trees
  fill_trees i (tree t ts) = tree (fill i t) (fill_trees i ts)

  pub fill_pairs : TypePairs → Pairs → Pairs
  fill_pairs ms no_pairs = no_pairs
  fill_pairs ms (pair k t ps) = pair k (elim (member k ms) [ Some s ↦ fill s t | None ↦ t ]) (fill_pairs ms ps)
