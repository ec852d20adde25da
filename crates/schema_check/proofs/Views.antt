-- The plain data of each form of type.
use Rattle.std.proofs.Common.{◌≡◌, ℕ, List, rules}
use Rattle.ytt_base.specs.View.{tree_of}
use Rattle.schema_spec.specs.Schemas.{any_type, bool_type, int_type, string_type, list_type, map_type, schema}
use Rattle.schema_check.specs.declared.types.Schema.{Schema}
use Rattle.schema_check.specs.declared.types.TypeKind as held
use Rattle.schema_check.specs.declared.types.TypeKind.{the_lemmas}
use Rattle.schema_check.specs.declared.types.TypePairs.{TypePairs, out-TypePairs, roll-TypePairs}
use Rattle.schema_check.specs.View.{kind_of, named_of, schema_of, types_of}

pub kind_of-Any : kind_of held.Any ≡ any_type
kind_of-Any = search (rules, the_lemmas)

pub kind_of-Bool : kind_of held.Bool ≡ bool_type
kind_of-Bool = search (rules, the_lemmas)

pub kind_of-Int : kind_of held.Int ≡ int_type
kind_of-Int = search (rules, the_lemmas)

pub kind_of-Str : kind_of held.Str ≡ string_type
kind_of-Str = search (rules, the_lemmas)

pub kind_of-Map : (ts : TypePairs) → kind_of (held.Map ts) ≡ map_type (types_of ts)
kind_of-Map ts = search (rules, the_lemmas)

pub kind_of-List : (s : Schema) → kind_of (held.List s) ≡ list_type (schema_of s)
kind_of-List s = search (rules, the_lemmas)

pub schema_of-is : (s : Schema) → schema_of s ≡ schema (kind_of s.kind) s.nullable (tree_of s.default)
schema_of-is s = search (rules, the_lemmas)

pub types_of-is : (ts : TypePairs) → types_of ts ≡ named_of (out-TypePairs ts).names (out-TypePairs ts).types
types_of-is ts = search (rules, the_lemmas)

-- types whose parts are known
pub names-rolled : (ns : List (List ℕ)) (ss : List Schema) → (out-TypePairs (roll-TypePairs record { names = ns; types = ss })).names ≡ ns
names-rolled ns ss = search (rules, the_lemmas)

pub types-rolled : (ns : List (List ℕ)) (ss : List Schema) → (out-TypePairs (roll-TypePairs record { names = ns; types = ss })).types ≡ ss
types-rolled ns ss = search (rules, the_lemmas)

pub types_of-rolled : (ns : List (List ℕ)) (ss : List Schema) → types_of (roll-TypePairs record { names = ns; types = ss }) ≡ named_of ns ss
types_of-rolled ns ss = search (rules, the_lemmas)

-- the plain data, once the form is known
pub ruleset views = (kind_of-Any, kind_of-Bool, kind_of-Int, kind_of-Str, kind_of-Map, kind_of-List, schema_of-is, types_of-is)
