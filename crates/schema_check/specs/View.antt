-- The plain data that a type of the program stands for.
use Rattle.std.specs.Prelude.{◌≡◌, ℕ, length, List, [], ◌∷◌, map as each}
use Rattle.std.specs.Borrow.{Bor}
use Rattle.ytt_base.specs.Trees as trees
use Rattle.ytt_base.specs.declared.tree.Tree.{Tree}
use Rattle.ytt_base.specs.View.{tree_of}
use Rattle.schema_spec.specs.Schemas as plain
use Rattle.schema_check.specs.declared.types.Schema.{Schema, fold-Schema}
use Rattle.schema_check.specs.declared.types.TypeKind.{TypeKind, fold-TypeKind}
use Rattle.schema_check.specs.declared.types.TypePairs.{TypePairs, fold-TypePairs, out-TypePairs}
use Rattle.schema_check.specs.declared.types.TypeKind.TheOpen.{Schema-F, TypeKind-F, TypePairs-F}

-- names and types, each with the one at its place
abbrev pub in_types : List (List ℕ) → List plain.Schema → plain.TypePairs
in_types [] ss = plain.no_types
in_types (n ∷ ns) [] = plain.no_types
in_types (n ∷ ns) (s ∷ ss) = plain.type_pair n s (in_types ns ss)

-- one level, where each type inside is seen already
abbrev pub kind_step : TypeKind-F plain.TypeKind plain.Schema plain.TypePairs → plain.TypeKind
kind_step TypeKind-F.Any = plain.any_type
kind_step TypeKind-F.Bool = plain.bool_type
kind_step TypeKind-F.Int = plain.int_type
kind_step TypeKind-F.Str = plain.string_type
kind_step (TypeKind-F.Map ps) = plain.map_type ps
kind_step (TypeKind-F.List s) = plain.list_type s

abbrev pub schema_step : Schema-F plain.TypeKind plain.Schema plain.TypePairs → plain.Schema
schema_step s = plain.schema s.kind s.nullable (tree_of s.default)

abbrev pub types_step : TypePairs-F plain.TypeKind plain.Schema plain.TypePairs → plain.TypePairs
types_step t = in_types t.names t.types

-- ---- all levels

abbrev pub kind_of : TypeKind → plain.TypeKind
kind_of = fold-TypeKind plain.TypeKind plain.Schema plain.TypePairs kind_step schema_step types_step

abbrev pub schema_of : Schema → plain.Schema
schema_of = fold-Schema plain.TypeKind plain.Schema plain.TypePairs kind_step schema_step types_step

abbrev pub types_of : TypePairs → plain.TypePairs
types_of = fold-TypePairs plain.TypeKind plain.Schema plain.TypePairs kind_step schema_step types_step

abbrev pub named_of : List (List ℕ) → List Schema → plain.TypePairs
named_of ns ss = in_types ns (each schema_of ss)

-- there are as many names as types
abbrev pub IsWhole : TypePairs → Type 0
IsWhole ts = length (out-TypePairs ts).names ≡ length (out-TypePairs ts).types

-- an offence: the node with its type
abbrev pub offender_of : Bor Schema × Bor Tree → plain.Schema × trees.Tree
offender_of x = (schema_of x.0.now, tree_of x.1.now)
