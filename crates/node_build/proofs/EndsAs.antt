-- A node that ends, as an item.
use Rattle.std.proofs.Common.{◌≡◌, List, false, refl, sym, ap, ◌∙◌, rules}
use Rattle.ytt_base.proofs.Views.{tree_of-Null}
use Rattle.ytt_base.specs.declared.tree.Tree as tree
use Rattle.value_spec.specs.Values as plain
use Rattle.value_spec.specs.Values.{Children, child, one, taken}
use Rattle.star_fragments.proofs.Views.{child_in-item}
use Rattle.node_build.proofs.Bodies.{body_in-List, body_in-Map, body_in-One}
use Rattle.star_tree.specs.declared.Holds.{Holds}
use Rattle.star_tree.specs.declared.Holds.TheVariants as holds
use Rattle.star_values.specs.View.{body_in, built_in, child_in, notes_in, scalar_key}
use Rattle.star_values.specs.declared.value.BuiltItem.{BuiltItem}
use Rattle.star_values.specs.declared.value.BuiltValue as code
use Rattle.star_values.specs.declared.value.BuiltValue.{BuiltValue}
use Rattle.template_meaning.specs.Adding.{add_child, add_taken}
use Rattle.template_meaning.specs.Run.{closed_with}
use Rattle.star_tree.specs.View.{holds_of}
use Rattle.node_build.specs.Ends.{added, closing, gives_many}
use Rattle.node_build.specs.View.{filled_in}
use Rattle.node_build.specs.declared.node.Filled.{Filled}
use Rattle.node_build.specs.declared.node.Filled.TheVariants as filled
use Rattle.node_build.specs.declared.node.OpenNode.{OpenNode}

-- what it holds then
abbrev body_with : Holds → Filled → List BuiltItem → BuiltValue
body_with holds.One (filled.One w) is = w
body_with holds.One (filled.Many ms) is = code.One tree.Null
body_with holds.Map w is = code.Map is
body_with holds.List w is = code.List is
body_with holds.Void w is = code.One tree.Null

abbrev pub item_of : OpenNode → BuiltItem
item_of n = record { place = n.place; key = n.key; notes = n.notes; value = body_with n.holds n.value n.children.items.items }

module _ (held : List plain.Value) where
  closes_with : (h : Holds) (w : Filled) (is : List BuiltItem) → gives_many h w ≡ false → closed_with (holds_of h) (filled_in held w) (built_in held is) ≡ taken (body_in held (body_with h w is))
  closes_with holds.One (filled.One w) is e = refl
  closes_with holds.One (filled.Many ms) is e = absurd (search (rules, e))
  closes_with holds.Map w is e = ap taken (sym (body_in-Map held is))
  closes_with holds.List w is e = ap taken (sym (body_in-List held is))
  closes_with holds.Void w is e = ap (λ t. taken (one t)) (sym tree_of-Null) ∙ ap taken (sym (body_in-One held tree.Null))

  pub closes : (n : OpenNode) → gives_many n.holds n.value ≡ false → closing held n ≡ taken (body_in held (item_of n).value)
  closes n e = closes_with n.holds n.value n.children.items.items e

  -- it is added as this item
  pub added_as : (cs : Children) (n : OpenNode) (i : BuiltItem) → i.place ≡ n.place → i.key ≡ n.key → i.notes ≡ n.notes → closing held n ≡ taken (body_in held i.value) → added held cs n ≡ add_child {H = Unit {0}} cs (child_in held i)
  added_as cs n i p k ns e =
      (λ j. add_taken {H = Unit {0}} cs (sym p j) (notes_in held (sym ns j)) (scalar_key (sym k j)) (e j))
      ∙ ap (add_child cs) (sym (child_in-item held i))
