-- The parameters of a head: what is asked of those that were read, and a default of the last one.
use Rattle.std.specs.Prelude.{ℕ, Bool, true, false, not, ◌||◌, List, [], ◌∷◌, bytes_eq}
use Rattle.std.specs.List.{list_any}
use Rattle.star_tree.specs.declared.code.Clause.{Clause}
use Rattle.star_tree.specs.declared.code.Clause.TheOpen.{Param-F}
use Rattle.star_tree.specs.declared.code.Entry.{Entry}
use Rattle.star_tree.specs.declared.code.Expr.{Expr}
use Rattle.star_tree.specs.declared.code.Param.{Param, out-Param}
use Rattle.star_tree.specs.declared.code.Param.TheVariants as param
use Rattle.star_tree.specs.declared.code.Piece.{Piece}

abbrev pub Parameter : Type 0
Parameter = Param-F Clause Entry Expr Param Piece

abbrev pub name_of_parameter : Parameter → List ℕ
name_of_parameter (Param-F.Required x) = x
name_of_parameter (Param-F.Defaulted x e) = x
name_of_parameter Param-F.BareStar = []
name_of_parameter (Param-F.Starred x) = x
name_of_parameter (Param-F.DoubleStarred x) = x

abbrev pub is_defaulted : Parameter → Bool
is_defaulted (Param-F.Defaulted x e) = true
is_defaulted p = false

-- `*` alone, or with a name
abbrev pub is_starred : Parameter → Bool
is_starred Param-F.BareStar = true
is_starred (Param-F.Starred x) = true
is_starred p = false

abbrev pub is_double_starred : Parameter → Bool
is_double_starred (Param-F.DoubleStarred x) = true
is_double_starred p = false

abbrev pub name_of_one : Param → List ℕ
name_of_one p = name_of_parameter (out-Param p)

abbrev pub has_this_name : List ℕ → Param → Bool
has_this_name x p = bytes_eq (name_of_one p) x

abbrev pub is_defaulted_one : Param → Bool
is_defaulted_one p = is_defaulted (out-Param p)

abbrev pub is_starred_one : Param → Bool
is_starred_one p = is_starred (out-Param p)

abbrev pub is_double_starred_one : Param → Bool
is_double_starred_one p = is_double_starred (out-Param p)

-- a parameter of this name was read
abbrev pub has_name : List ℕ → List Param → Bool
has_name x ps = list_any (has_this_name x) ps

abbrev pub has_default : List Param → Bool
has_default ps = list_any is_defaulted_one ps

abbrev pub has_star : List Param → Bool
has_star ps = list_any is_starred_one ps

abbrev pub has_stars : List Param → Bool
has_stars ps = list_any is_double_starred_one ps

-- the last one may go without a default: none before it has one, or they go by name from a star on
abbrev pub may_be_required : List Param → Bool
may_be_required ps = has_star ps || not (has_default ps)

abbrev pub with_default : Parameter → Expr → Param → Param
with_default (Param-F.Required x) e p = param.Defaulted x e
with_default q e p = p

abbrev pub defaulted_one : Param → Expr → Param
defaulted_one p e = with_default (out-Param p) e p

-- the last one gets this default
abbrev pub defaulted : List Param → Expr → List Param
defaulted [] e = []
defaulted (p ∷ []) e = defaulted_one p e ∷ []
defaulted (p ∷ q ∷ ps) e = p ∷ defaulted (q ∷ ps) e
