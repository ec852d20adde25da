-- What a node gives at its end.
use Rattle.std.specs.Prelude.{◌≡◌, ℕ, Bool, true, false, List}
use Rattle.value_spec.specs.Outcomes.{Computation}
use Rattle.value_spec.specs.Values as plain
use Rattle.value_spec.specs.Values.{Children, Taken}
use Rattle.star_tree.specs.View.{holds_of}
use Rattle.star_tree.specs.declared.Holds.{Holds}
use Rattle.star_tree.specs.declared.Holds.TheVariants as holds
use Rattle.star_values.specs.View.{built_in, notes_in, scalar_key}
use Rattle.template_meaning.specs.Adding.{add_taken}
use Rattle.template_meaning.specs.Run.{closed_with}
use Rattle.node_build.specs.View.{filled_in, node_at}
use Rattle.node_build.specs.declared.node.Filled.{Filled}
use Rattle.node_build.specs.declared.node.Filled.TheVariants as filled
use Rattle.node_build.specs.declared.node.OpenNode.{OpenNode}

abbrev pub closing : (held : List plain.Value) → OpenNode → Taken
closing held n = closed_with (holds_of n.holds) (filled_in held n.value) (built_in held n.children.items.items)

-- it is added to these children
abbrev pub added : (held : List plain.Value) → Children → OpenNode → Computation (Unit {0}) Children
added held cs n = add_taken cs n.place (notes_in held n.notes) (scalar_key n.key) (closing held n)

-- it gives items in its place
abbrev pub gives_many : Holds → Filled → Bool
gives_many holds.One (filled.Many is) = true
gives_many _ _ = false

-- only its children are others
abbrev pub SameButChildren : (old new : OpenNode) → Type 0
SameButChildren old new = (held : List plain.Value) (level : ℕ) → node_at held level new ≡ record (node_at held level old) { children = built_in held new.children.items.items }
