-- Noted documents whose items have keys where they should.
use Rattle.std.specs.Prelude.{◌≡◌, Bool, true, false, is_some}
use Rattle.yaml_spec.specs.Noted.{Content, noted_scalar, noted_list, noted_map, Items, no_items, item, Documents}

abbrev mutual
  -- these items are pairs, or are documents or elements, and have keys or none; so it is below them
  pub KeyedItems : (in_a_map : Bool) → Items → Type 0
  KeyedItems b no_items = Unit {0}
  KeyedItems b (item n c is) = (is_some n.key ≡ b) × KeyedContent c × KeyedItems b is

  pub KeyedContent : Content → Type 0
  KeyedContent (noted_scalar t) = Unit {0}
  KeyedContent (noted_list is) = KeyedItems false is
  KeyedContent (noted_map is) = KeyedItems true is

-- an item has a key exactly where it stands in a map
abbrev pub KeyedDocuments : Documents → Type 0
KeyedDocuments ds = KeyedItems false ds.items
