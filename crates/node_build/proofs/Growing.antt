-- As an arena grows, the nodes that it owns stay owned, and are the same.
use Rattle.std.proofs.Common.{◌≡◌, ℕ, suc, ◌+◌, List, [], ◌∷◌, length, None, refl, sym, ap, ◌∙◌}
use Rattle.ytt_base.specs.Outcomes.{first_place}
use Rattle.ytt_base.specs.declared.tree.Tree as tree
use Rattle.star_fragments.proofs.Views.{child_in-item}
use Rattle.star_fragments.specs.Fresh.{OwnsBody}
use Rattle.star_tree.specs.View.{holds_of, item_kind_of}
use Rattle.star_tree.specs.declared.program.ItemKind.TheVariants as item_kind
use Rattle.star_values.proofs.Growing.{held_kept, owns_all_kept}
use Rattle.star_values.specs.Owns.{Each, Grows, OwnsAll, OwnsBuilt, note_values}
use Rattle.star_values.specs.View.{View, body_in, built_in, children_in, notes_in, scalar_key}
use Rattle.star_values.specs.declared.held.Held.TheVariants as held
use Rattle.star_values.specs.declared.held.Thing.TheVariants as thing
use Rattle.star_values.specs.declared.value.BuiltItem.{BuiltItem}
use Rattle.star_values.specs.declared.value.BuiltNote.{BuiltNote}
use Rattle.star_values.specs.declared.value.BuiltValue as code
use Rattle.star_values.specs.declared.value.BuiltValue.{BuiltValue}
use Rattle.template_meaning.specs.Run.{Node}
use Rattle.value_spec.specs.Values as plain
use Rattle.node_build.proofs.Owned.{item_owned, one_held}
use Rattle.node_build.specs.View.{OwnsFilled, OwnsNode, OwnsNodes, filled_in, node_at, nodes_from, nodes_of}
use Rattle.node_build.specs.declared.builder.Builder.{Builder}
use Rattle.node_build.specs.declared.node.Filled.{Filled}
use Rattle.node_build.specs.declared.node.Filled.TheVariants as filled
use Rattle.node_build.specs.declared.node.OpenNode.{OpenNode}

module _ (a b : View) (g : Grows a b) where
  -- items, as a fragment of them would be
  built_kept : (is : List BuiltItem) → OwnsBuilt a is → OwnsBuilt b is × (built_in b.held is ≡ built_in a.held is)
  built_kept is o =
      let k = held_kept a b (held.Other (record { number = 0; thing = thing.Fragment item_kind.Pair is })) g o in
      (k.0, ap children_in k.1)

  -- the parts of one item
  abbrev item_with : List BuiltNote → BuiltValue → BuiltItem
  item_with ns w = record { place = first_place; key = None; notes = ns; value = w }

  notes_of_first : plain.Children → plain.BuiltNotes
  notes_of_first plain.no_children = plain.no_built
  notes_of_first (plain.a_child (plain.child p ns x w) cs) = ns

  body_of_first : plain.Children → plain.Body
  body_of_first plain.no_children = plain.map_of plain.no_children
  body_of_first (plain.a_child (plain.child p ns x w) cs) = w

  one_kept : (i : BuiltItem) → OwnsAll a (note_values i.notes) → OwnsBody a i.value → (notes_in b.held i.notes ≡ notes_in a.held i.notes) × (body_in b.held i.value ≡ body_in a.held i.value)
  unfolding notes_of_first body_of_first
  one_kept i n o =
      let same = (built_kept (i ∷ []) (item_owned a i n o, tt)).1 in
      let first : plain.a_child (plain.child i.place (notes_in b.held i.notes) (scalar_key i.key) (body_in b.held i.value)) plain.no_children ≡ plain.a_child (plain.child i.place (notes_in a.held i.notes) (scalar_key i.key) (body_in a.held i.value)) plain.no_children =
      ap (λ c. plain.a_child c plain.no_children) (sym (child_in-item b.held i)) ∙ same ∙ ap (λ c. plain.a_child c plain.no_children) (child_in-item a.held i) in
      (ap notes_of_first first, ap body_of_first first)

  notes_kept : (ns : List BuiltNote) → OwnsAll a (note_values ns) → notes_in b.held ns ≡ notes_in a.held ns
  notes_kept ns o = (one_kept (item_with ns (code.One tree.Null)) o (one_held a tree.Null)).0

  filled_kept : (w : Filled) → OwnsFilled a w → OwnsFilled b w × (filled_in b.held w ≡ filled_in a.held w)
  filled_kept (filled.One w) o = (owns_all_kept a b _ g o, ap plain.taken (one_kept (item_with [] w) tt o).1)
  filled_kept (filled.Many is) o = let k = built_kept is o in (k.0, ap plain.many k.1)

  node_kept : (level : ℕ) (n : OpenNode) → OwnsNode a n → OwnsNode b n × (node_at b.held level n ≡ node_at a.held level n)
  node_kept level n o =
      let notes = notes_kept n.notes o.0 in
      let value = filled_kept n.value o.1 in
      let children = built_kept n.children.items.items o.2 in (
        (owns_all_kept a b (note_values n.notes) g o.0, value.0, children.0),
        λ i. record {
          place = n.place;
          kind = item_kind_of n.kind;
          holds = holds_of n.holds;
          level = level;
          notes = notes i;
          key = scalar_key n.key;
          value = value.1 i;
          children = children.1 i;
        },
      )

  from_kept : (level : ℕ) (ns : List OpenNode) (outer : List Node) → Each (OwnsNode a) ns → Each (OwnsNode b) ns × (nodes_from b.held level ns outer ≡ nodes_from a.held level ns outer)
  from_kept level [] outer o = (tt, refl)
  from_kept level (n ∷ ns) outer o =
      let k = node_kept level n o.0 in
      let more = from_kept (suc level) ns (node_at a.held level n ∷ outer) o.1 in
      ((k.0, more.0), ap (λ n. nodes_from b.held (suc level) ns (n ∷ outer)) k.1 ∙ more.1)

-- where an arena grows, the nodes that it owned stay owned, and are the same
pub nodes_kept : (a b : View) (x : Builder) → Grows a b → OwnsNodes a x → OwnsNodes b x × (nodes_of b x ≡ nodes_of a x)
nodes_kept a b x g o =
    let top = node_kept a b g (length x.below.items + x.around) x.top o.0 in
    let below = from_kept a b g x.around x.below.items [] o.1 in
    ((top.0, below.0), λ i. top.1 i ∷ below.1 i)
