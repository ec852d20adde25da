-- Types that are sound and full: of their type are their defaults, which are filled already, and each name finds its own type.
use Rattle.std.specs.Prelude.{◌≡◌, [], Some}
use Rattle.ytt_base.specs.Trees.{string}
use Rattle.schema_spec.specs.Offences.{offences, fill}
use Rattle.schema_spec.specs.Schemas.{Schema, schema, TypeKind, any_type, bool_type, int_type, string_type, list_type, map_type, TypePairs, no_types, type_pair, member, default_of}

-- each of these names finds its own type among all
abbrev pub Knows : (all some : TypePairs) → Type 0
Knows ms no_types = Unit {0}
Knows ms (type_pair n s rest) = (member (string n) ms ≡ Some s) × Knows ms rest

-- each default of a member is of its type
abbrev mutual
  pub IsSound : Schema → Type 0
  IsSound (schema k nullable d) = IsSoundKind k

  pub IsSoundKind : TypeKind → Type 0
  IsSoundKind any_type = Unit {0}
  IsSoundKind bool_type = Unit {0}
  IsSoundKind int_type = Unit {0}
  IsSoundKind string_type = Unit {0}
  IsSoundKind (list_type s) = IsSound s
  IsSoundKind (map_type ms) = AreSound ms × Knows ms ms

  pub AreSound : TypePairs → Type 0
  AreSound no_types = Unit {0}
  AreSound (type_pair n s ms) = (offences s (default_of s) ≡ []) × IsSound s × AreSound ms

-- each default of a member is filled
abbrev mutual
  pub IsFull : Schema → Type 0
  IsFull (schema k nullable d) = IsFullKind k

  pub IsFullKind : TypeKind → Type 0
  IsFullKind any_type = Unit {0}
  IsFullKind bool_type = Unit {0}
  IsFullKind int_type = Unit {0}
  IsFullKind string_type = Unit {0}
  IsFullKind (list_type s) = IsFull s
  IsFullKind (map_type ms) = AreFull ms × Knows ms ms

  pub AreFull : TypePairs → Type 0
  AreFull no_types = Unit {0}
  AreFull (type_pair n s ms) = (fill s (default_of s) ≡ default_of s) × IsFull s × AreFull ms
