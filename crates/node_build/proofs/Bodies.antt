-- The plain body of each form of what an item holds.
use Rattle.std.proofs.Common.{◌≡◌, List, rules}
use Rattle.ytt_base.specs.declared.tree.Tree.{Tree}
use Rattle.ytt_base.specs.View.{tree_of}
use Rattle.value_spec.specs.Values as plain
use Rattle.value_spec.specs.Values.{one, map_of, list_of}
use Rattle.star_values.specs.declared.value.BuiltItem.{BuiltItem}
use Rattle.star_values.specs.declared.value.BuiltValue as code
use Rattle.star_values.specs.declared.value.BuiltValue.{the_lemmas}
use Rattle.star_values.specs.View.{body_in, built_in}

pub body_in-One : (held : List plain.Value) (t : Tree) → body_in held (code.One t) ≡ one (tree_of t)
body_in-One held t = search (rules, the_lemmas)

pub body_in-Map : (held : List plain.Value) (is : List BuiltItem) → body_in held (code.Map is) ≡ map_of (built_in held is)
body_in-Map held is = search (rules, the_lemmas)

pub body_in-List : (held : List plain.Value) (is : List BuiltItem) → body_in held (code.List is) ≡ list_of (built_in held is)
body_in-List held is = search (rules, the_lemmas)
