-- What stands in fragments, trees and items alike, as children without places and notes, down to the scalars.
use Rattle.std.specs.Prelude.{◌≡◌}
use Rattle.star_steps.specs.Names.{ℕ, Bool, true, false, List, Option, Some, None, Place, Scalar, null, boolean, integer, string, scalar, list, Trees, no_trees, tree, Pairs, no_pairs, pair, trees_of, pairs_of, body_paid, body_tree, children_pairs, children_trees, key_paid, Computation, paid, ◌>>=◌, child, Children, no_children, a_child, no_built, Body, one, map_of, list_of, built_in}
use Rattle.ytt_base.specs.Trees.{Tree, map}
use Rattle.value_spec.specs.Values as plain
use Rattle.star_fragments.specs.declared.node.Leaf.{Leaf}
use Rattle.star_fragments.specs.declared.node.Leaf.TheVariants as leaf
use Rattle.star_fragments.specs.declared.node.Parts.{Parts}
use Rattle.star_fragments.specs.declared.node.Parts.TheVariants as parts
use Rattle.star_fragments.specs.declared.node.Node.{Node}
use Rattle.star_fragments.specs.declared.node.Node.TheVariants as node
use Rattle.star_fragments.specs.declared.node.Part.{Part}
use Rattle.star_fragments.specs.declared.node.Entries.{Entries}
use Rattle.star_fragments.specs.declared.node.Entry.{Entry}

-- stands where a child has its place: no line of any file, as files and lines count from 1. What is compared here is told
-- without places, so each child has this one
abbrev pub nowhere : Place
nowhere = record { file = 0; line = 0 }

-- one child before others
abbrev pub a_part : Option Scalar → Body → Children → Children
a_part x b cs = a_child (child nowhere no_built x b) cs

abbrev mutual
  pub spread : Tree → Body
  spread (scalar x) = one (scalar x)
  spread (list ts) = list_of (spread_trees ts)
  spread (map ps) = map_of (spread_pairs ps)

  pub spread_trees : Trees → Children
  spread_trees no_trees = no_children
  spread_trees (tree t ts) = a_part None (spread t) (spread_trees ts)

  pub spread_pairs : Pairs → Children
  spread_pairs no_pairs = no_children
  spread_pairs (pair x t ps) = a_part (Some x) (spread t) (spread_pairs ps)

abbrev mutual
  pub spread_body : Body → Body
  spread_body (one t) = spread t
  spread_body (map_of cs) = map_of (spread_children cs)
  spread_body (list_of cs) = list_of (spread_children cs)

  pub spread_children : Children → Children
  spread_children no_children = no_children
  spread_children (a_child (child p ns x b) cs) = a_part x (spread_body b) (spread_children cs)

-- the steps of a child
abbrev pub part_paid : Place → ℕ → Option Scalar → Body → Computation (Unit {0}) (Unit {0})
part_paid p n x b = paid p (key_paid p x) >>= λ u. body_paid p n b

-- ---- of the code

abbrev pub scalar_in : Leaf → Scalar
scalar_in leaf.Null = null
scalar_in (leaf.Bool b) = boolean b
scalar_in (leaf.Int z) = integer z
scalar_in (leaf.Str t) = string t.now

abbrev pub key_in : Option Leaf → Option Scalar
key_in None = None
key_in (Some k) = Some (scalar_in k)

abbrev pub parts_in : (held : List plain.Value) → Parts → Children
parts_in held (parts.Trees ts) = spread_trees (trees_of ts.now)
parts_in held (parts.Pairs ps) = spread_pairs (pairs_of ps.now)
parts_in held (parts.Items is) = spread_children (built_in held is.now)

abbrev pub node_in : (held : List plain.Value) → Node → Body
node_in held (node.Leaf s) = one (scalar (scalar_in s))
node_in held (node.List ps) = list_of (parts_in held ps)
node_in held (node.Map ps) = map_of (parts_in held ps)

-- the first of parts, and the rest
abbrev pub FirstPart : (held : List plain.Value) → Children → Option Part → Type 0
FirstPart held cs None = cs ≡ no_children
FirstPart held cs (Some p) = cs ≡ a_part (key_in p.key) (node_in held p.node) (parts_in held p.rest)

-- elements as pairs with one key
abbrev pub as_pairs : Trees → Pairs
as_pairs no_trees = no_pairs
as_pairs (tree t ts) = pair null t (as_pairs ts)

-- the pairs of a map, or else the elements of a list
abbrev pub pairs_among : (keyed : Bool) → Children → Pairs
pairs_among true cs = children_pairs cs
pairs_among false cs = as_pairs (children_trees cs)

abbrev pub entries_in : (held : List plain.Value) → Entries → Pairs
entries_in held e = pairs_among e.keyed (parts_in held e.parts)

-- the first of pairs, and the rest
abbrev pub FirstEntry : (held : List plain.Value) → Pairs → Option Entry → Type 0
FirstEntry held ps None = ps ≡ no_pairs
FirstEntry held ps (Some e) = ps ≡ pair (scalar_in e.key) (body_tree (node_in held e.node)) (entries_in held e.rest)
