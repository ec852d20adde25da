-- Types that are made of parts.
use Rattle.std.proofs.Common.{◌≡◌, ◌∙◌, Bool, ap, sym, rules}
use Rattle.ytt_base.specs.declared.tree.Tree as held
use Rattle.ytt_base.specs.Trees.{Tree, map, no_pairs}
use Rattle.ytt_base.specs.View.{tree_of}
use Rattle.schema_spec.proofs.Filling.{none-missing}
use Rattle.schema_spec.specs.Offences.{fill}
use Rattle.schema_spec.specs.Reading.{map_schema}
use Rattle.schema_spec.specs.Schemas as plain
use Rattle.schema_spec.specs.Schemas.{map_type, schema, simple}
use Rattle.schema_check.proofs.Views.{schema_of-is}
use Rattle.schema_check.specs.First.{kind_in}
use Rattle.schema_check.specs.View.{kind_of, schema_of}
use Rattle.schema_check.specs.declared.types.Schema.{Schema, roll-Schema}
use Rattle.schema_check.specs.declared.types.TypeKind.{TypeKind, the_lemmas}

pub schema_of-rolled : (k : TypeKind) (n : Bool) (d : held.Tree) → schema_of (roll-Schema record { kind = k; nullable = n; default = d }) ≡ schema (kind_of k) n (tree_of d)
schema_of-rolled k n d = search (rules, the_lemmas)

abbrev nullable_in : plain.Schema → Bool
nullable_in (schema k n d) = n

-- the type of a map, with what is filled into an empty one as its default
pub map-made : (own : Schema) (types : plain.TypePairs) (u : Tree) (d : held.Tree) → schema_of own ≡ simple (map_type types) u → tree_of d ≡ fill (schema_of own) (map no_pairs)
    → schema_of (roll-Schema record { kind = own.kind; nullable = own.nullable; default = d }) ≡ map_schema types
map-made own types u d same filled =
    let parts = sym (schema_of-is own) ∙ same in
    let default : tree_of d ≡ map (plain.defaults types) = filled ∙ ap (λ s. fill s (map no_pairs)) same ∙ ap map (none-missing types) in
    schema_of-rolled own.kind own.nullable d ∙ (λ i. schema (kind_in (parts i)) (nullable_in (parts i)) (default i))
