-- The plain nodes that open nodes stand for in an arena, and which of them it owns.
use Rattle.std.specs.Prelude.{ℕ, ◌+◌, suc, List, [], ◌∷◌, length, Result}
use Rattle.ytt_base.specs.declared.fault.Stop.{Stop}
use Rattle.star_spec.specs.Flow.{on}
use Rattle.value_spec.specs.Outcomes.{Computation}
use Rattle.value_spec.specs.Values as plain
use Rattle.value_spec.specs.Values.{Taken, many, taken}
use Rattle.star_fragments.specs.Fresh.{OwnsBody}
use Rattle.star_tree.specs.View.{item_kind_of, holds_of}
use Rattle.star_values.specs.Owns.{Each, OwnsAll, OwnsBuilt, note_values}
use Rattle.star_values.specs.View.{View, body_in, built_in, notes_in, scalar_key, value_of}
use Rattle.star_values.specs.declared.value.Value.{Value}
use Rattle.template_meaning.specs.Run.{Node}
use Rattle.node_build.specs.Parts.{Spends, taking}
use Rattle.node_build.specs.declared.builder.Builder.{Builder}
use Rattle.node_build.specs.declared.node.Filled.{Filled}
use Rattle.node_build.specs.declared.node.Filled.TheVariants as filled
use Rattle.node_build.specs.declared.node.OpenNode.{OpenNode}

abbrev pub filled_in : (held : List plain.Value) → Filled → Taken
filled_in held (filled.One w) = taken (body_in held w)
filled_in held (filled.Many is) = many (built_in held is)

-- what a call gives that takes a value over, with so many steps before it and after it
abbrev pub Fills : Result Filled Stop → View → (before after : ℕ) → Computation (Unit {0}) Taken → Type 0
Fills result a before after m = Spends (filled_in a.held) result a before after m

-- so many collections stand around its children
abbrev pub node_at : (held : List plain.Value) → (level : ℕ) → OpenNode → Node
node_at held level n = record {
  place = n.place;
  kind = item_kind_of n.kind;
  holds = holds_of n.holds;
  level = level;
  notes = notes_in held n.notes;
  key = scalar_key n.key;
  value = filled_in held n.value;
  children = built_in held n.children.items.items;
}

-- from the outermost one, at this level, on; the innermost one comes first
abbrev pub nodes_from : (held : List plain.Value) → (level : ℕ) → List OpenNode → List Node → List Node
nodes_from held level [] outer = outer
nodes_from held level (n ∷ ns) outer = nodes_from held (suc level) ns (node_at held level n ∷ outer)

-- the node on top, and those below it from the outermost one on
abbrev pub nodes_in : (held : List plain.Value) → (level : ℕ) → OpenNode → List OpenNode → List Node
nodes_in held level top below = node_at held (length below + level) top ∷ nodes_from held level below []

-- the open nodes, the innermost one first
abbrev pub nodes_of : View → Builder → List Node
nodes_of a b = nodes_in a.held b.around b.top b.below.items

-- what a call did that takes a value over into the node on top, with so many steps before it and after it
abbrev pub Takes : View → Value → (old new : Builder) → Result (Unit {0}) Stop → (before after : ℕ) → Type 0
Takes a v old new result before after = Spends (λ u. on (nodes_of a new)) result a before after (taking (value_of a v) (nodes_of a old))

-- ---- owning

abbrev pub OwnsFilled : View → Filled → Type 0
OwnsFilled a (filled.One w) = OwnsBody a w
OwnsFilled a (filled.Many is) = OwnsBuilt a is

-- all values in its notes, its value and its children
abbrev pub OwnsNode : View → OpenNode → Type 0
OwnsNode a n = OwnsAll a (note_values n.notes) × OwnsFilled a n.value × OwnsBuilt a n.children.items.items

abbrev pub OwnsNodes : View → Builder → Type 0
OwnsNodes a b = OwnsNode a b.top × Each (OwnsNode a) b.below.items
