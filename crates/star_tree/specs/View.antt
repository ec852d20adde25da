-- What items and nodes are, as plain data.
use Rattle.code_spec.specs.Program as program
use Rattle.code_spec.specs.Program.{document_item, pair_item, element_item, holds_one, holds_map, holds_list, holds_void}
use Rattle.star_tree.specs.declared.program.Holds.{Holds}
use Rattle.star_tree.specs.declared.program.Holds.TheVariants as holds
use Rattle.star_tree.specs.declared.program.ItemKind.{ItemKind}
use Rattle.star_tree.specs.declared.program.ItemKind.TheVariants as item_kind

abbrev pub item_kind_of : ItemKind → program.ItemKind
item_kind_of item_kind.Document = document_item
item_kind_of item_kind.Pair = pair_item
item_kind_of item_kind.Element = element_item

abbrev pub holds_of : Holds → program.Holds
holds_of holds.One = holds_one
holds_of holds.Map = holds_map
holds_of holds.List = holds_list
holds_of holds.Void = holds_void
