-- Trees and paths as plain data, on which definitions go by cases (YAML 1.2.2, 3.2.1 and 10.2).
use Rattle.std.specs.Prelude.{◌≡◌, ℕ, zero, suc, max, ◌≤◌, ℤ, pos, negsuc, Bool, true, false, not, ◌||◌, ◌==◌, List, [], ◌∷◌, Option, Some, None, option_and_then, bytes_eq, IsUtf8, FitsSigned}
use Rattle.std.specs.Int.{w128}

-- a scalar, and so a key too; a string is its bytes in UTF-8
pub data Scalar : Type 0 where
  null : Scalar
  boolean : Bool → Scalar
  integer : ℤ → Scalar
  string : List ℕ → Scalar

mutual
  pub data Tree : Type 0 where
    scalar : Scalar → Tree
    list : Trees → Tree
    map : Pairs → Tree

  pub data Trees : Type 0 where
    no_trees : Trees
    tree : Tree → Trees → Trees

  -- the pairs of a map, in their order
  pub data Pairs : Type 0 where
    no_pairs : Pairs
    pair : Scalar → Tree → Pairs → Pairs

-- ---- keys

abbrev pub same_bool : Bool → Bool → Bool
same_bool true b = b
same_bool false b = not b

abbrev pub same_integer : ℤ → ℤ → Bool
same_integer (pos m) (pos n) = m == n
same_integer (negsuc m) (negsuc n) = m == n
same_integer _ _ = false

-- the keys are equal: the kind counts too
abbrev pub same_key : Scalar → Scalar → Bool
same_key null null = true
same_key (boolean a) (boolean b) = same_bool a b
same_key (integer a) (integer b) = same_integer a b
same_key (string a) (string b) = bytes_eq a b
same_key _ _ = false

abbrev pub has_key : Scalar → List Scalar → Bool
has_key k [] = false
has_key k (l ∷ ls) = same_key k l || has_key k ls

abbrev pub keys : Pairs → List Scalar
keys no_pairs = []
keys (pair k t ps) = k ∷ keys ps

-- ---- paths

pub data Step : Type 0 where
  key : Scalar → Step
  index : ℕ → Step

abbrev pub get_pair : Scalar → Pairs → Option Tree
get_pair k no_pairs = None
get_pair k (pair l t ps) = elim (same_key k l) [ true ↦ Some t | false ↦ get_pair k ps ]

abbrev pub get_tree : ℕ → Trees → Option Tree
get_tree n no_trees = None
get_tree zero (tree t ts) = Some t
get_tree (suc n) (tree t ts) = get_tree n ts

abbrev pub child : Step → Tree → Option Tree
child (key k) (map ps) = get_pair k ps
child (index n) (list ts) = get_tree n ts
child _ _ = None

-- the tree that the steps reach
abbrev pub at : Tree → List Step → Option Tree
at t [] = Some t
at t (s ∷ path) = option_and_then (λ u. at u path) (child s t)

-- ---- what can be written

-- how deep collections nest: a scalar 0, an empty collection 1
abbrev mutual
  pub depth : Tree → ℕ
  depth (scalar s) = 0
  depth (list ts) = suc (trees_depth ts)
  depth (map ps) = suc (pairs_depth ps)

  pub trees_depth : Trees → ℕ
  trees_depth no_trees = 0
  trees_depth (tree t ts) = max (depth t) (trees_depth ts)

  pub pairs_depth : Pairs → ℕ
  pairs_depth no_pairs = 0
  pairs_depth (pair k t ps) = max (depth t) (pairs_depth ps)

-- the scalar is one that the program holds: an integer of 128 bits, a string in UTF-8
abbrev pub IsScalar : Scalar → Type 0
IsScalar (integer z) = FitsSigned w128 z
IsScalar (string s) = IsUtf8 s
IsScalar _ = Unit {0}

-- the tree is one that the program holds: such scalars, and no key twice in a map
abbrev mutual
  pub IsTree : Tree → Type 0
  IsTree (scalar s) = IsScalar s
  IsTree (list ts) = AreTrees ts
  IsTree (map ps) = ArePairs ps

  pub AreTrees : Trees → Type 0
  AreTrees no_trees = Unit {0}
  AreTrees (tree t ts) = IsTree t × AreTrees ts

  pub ArePairs : Pairs → Type 0
  ArePairs no_pairs = Unit {0}
  ArePairs (pair k t ps) = IsScalar k × IsTree t × (has_key k (keys ps) ≡ false) × ArePairs ps

abbrev pub max_depth : ℕ
max_depth = 100

abbrev pub is_null : Tree → Bool
is_null (scalar null) = true
is_null _ = false

-- documents that have a text: none is null, and none nests too deep
abbrev pub Writable : Trees → Type 0
Writable no_trees = Unit {0}
Writable (tree t ts) = (is_null t ≡ false) × (depth t ≤ max_depth) × Writable ts
