-- Types of data values. A type has a kind, says whether null is of it, and has a default.
use Rattle.std.specs.Prelude.{ℕ, Bool, true, false, List, Option, Some, None, bytes_eq, codes}
use Rattle.ytt_base.specs.Trees.{Scalar, null, boolean, integer, string, Tree, map, Pairs, no_pairs, pair}

mutual
  pub data Schema : Type 0 where
    schema : TypeKind → (nullable : Bool) → (default : Tree) → Schema

  -- a list has the type of its items, a map the types of its keys in their order
  pub data TypeKind : Type 0 where
    any_type : TypeKind
    bool_type : TypeKind
    int_type : TypeKind
    string_type : TypeKind
    list_type : Schema → TypeKind
    map_type : TypePairs → TypeKind

  pub data TypePairs : Type 0 where
    no_types : TypePairs
    type_pair : List ℕ → Schema → TypePairs → TypePairs

-- what stands where nothing is given
abbrev pub default_of : Schema → Tree
default_of (schema k nullable t) = t

-- a type without notes
abbrev pub simple : TypeKind → Tree → Schema
simple k t = schema k false t

-- the type where there is no schema document
abbrev pub free_schema : Schema
free_schema = simple any_type (map no_pairs)

-- the type of a text key
abbrev pub type_at : List ℕ → TypePairs → Option Schema
type_at n no_types = None
type_at n (type_pair m s ms) = elim (bytes_eq n m) [ true ↦ Some s | false ↦ type_at n ms ]

-- the type of a key
abbrev pub member : Scalar → TypePairs → Option Schema
member (string n) ms = type_at n ms
member k ms = None

-- the defaults of all keys
abbrev pub defaults : TypePairs → Pairs
defaults no_types = no_pairs
defaults (type_pair n s ms) = pair (string n) (default_of s) (defaults ms)

-- what a type is called in faults
abbrev pub type_name : TypeKind → List ℕ
type_name any_type = codes "any"
type_name bool_type = codes "bool"
type_name int_type = codes "int"
type_name string_type = codes "string"
type_name (list_type s) = codes "list"
type_name (map_type ms) = codes "map"

-- what a type wants of a collection: nothing, these members, or that it were something else
pub data Wants (A : Type 0) : Type 0 where
  anything : Wants A
  these : A → Wants A
  another : Wants A

abbrev pub of_list : TypeKind → Wants Schema
of_list any_type = anything
of_list (list_type s) = these s
of_list k = another

abbrev pub of_map : TypeKind → Wants TypePairs
of_map any_type = anything
of_map (map_type ms) = these ms
of_map k = another

-- the scalar is of this type
abbrev pub fits_scalar : (nullable : Bool) → TypeKind → Scalar → Bool
fits_scalar nullable any_type x = true
fits_scalar nullable k null = nullable
fits_scalar nullable bool_type (boolean b) = true
fits_scalar nullable int_type (integer z) = true
fits_scalar nullable string_type (string t) = true
fits_scalar nullable k x = false
