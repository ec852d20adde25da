-- Text templates leave what of a template isn't built yet.
use Rattle.std.proofs.Common.{◌≡◌, Bool, ◌||◌, ◌++◌, List, Option, Some, None, Result, Ok, Err, refl, ap}
use Rattle.std.specs.Result.{IfOk}
use Rattle.ytt_base.specs.declared.fault.Place.{Place}
use Rattle.ytt_base.specs.Trees.{Scalar}
use Rattle.ytt_laws.proofs.Yielded.{yielded_behind, yielded_then}
use Rattle.code_spec.specs.Code.{Expr}
use Rattle.code_spec.specs.CodeReading.{CodeReader}
use Rattle.template_spec.specs.Template.{Item, node, code, if_block, for_block, def_block, Items, no_items, an_item, Branches, no_branch, else_branch, elif_branch, Content, written_value, value_from, pairs, elements}
use Rattle.text_template_spec.specs.TextTemplates.{asks_for_texts, content_with, template_in, texted_branches, texted_content, texted_item, texted_items, texted_key}
use Rattle.passes_spec.specs.Unbuilt.{unbuilt_branches, unbuilt_content, unbuilt_item, unbuilt_items, unbuilt_notes}

abbrev Same : {A : Type 0} → (A → List Place) → A → A → Type 0
Same places x y = places y ≡ places x

with_unbuilt : (x : Scalar) (o : Option Expr) → Same unbuilt_content (written_value x) (content_with x o)
with_unbuilt x None = refl
with_unbuilt x (Some e) = refl

module _ (r : CodeReader) where
  mutual
    item_unbuilt : (asked : Bool) (i : Item) → IfOk (texted_item r asked i) (Same unbuilt_item i)
    item_unbuilt asked (node p k ns key c) =
        yielded_behind (Same unbuilt_item (node p k ns key c)) (texted_key r (asked || asks_for_texts ns) p key) _ (λ x.
        yielded_then (Same unbuilt_content c) (Same unbuilt_item (node p k ns key c)) (texted_content r (asked || asks_for_texts ns) p c) _ (content_unbuilt (asked || asks_for_texts ns) p c) (λ d e.
        ap (λ l. unbuilt_notes ns ++ l) e))
    item_unbuilt asked (code s) = refl
    item_unbuilt asked (if_block p e body more) =
        yielded_then (Same unbuilt_items body) (Same unbuilt_item (if_block p e body more)) (texted_items r asked body) _ (items_unbuilt asked body) (λ is h.
        yielded_then (Same unbuilt_branches more) (Same unbuilt_item (if_block p e body more)) (texted_branches r asked more) _ (branches_unbuilt asked more) (λ m k. λ i. h i ++ k i))
    item_unbuilt asked (for_block p x e body) = yielded_then (Same unbuilt_items body) (Same unbuilt_item (for_block p x e body)) (texted_items r asked body) _ (items_unbuilt asked body) (λ is h. h)
    item_unbuilt asked (def_block p number x ps k body) = yielded_then (Same unbuilt_items body) (Same unbuilt_item (def_block p number x ps k body)) (texted_items r asked body) _ (items_unbuilt asked body) (λ is h. h)

    pub items_unbuilt : (asked : Bool) (t : Items) → IfOk (texted_items r asked t) (Same unbuilt_items t)
    items_unbuilt asked no_items = refl
    items_unbuilt asked (an_item i is) =
        yielded_then (Same unbuilt_item i) (Same unbuilt_items (an_item i is)) (texted_item r asked i) _ (item_unbuilt asked i) (λ j h.
        yielded_then (Same unbuilt_items is) (Same unbuilt_items (an_item i is)) (texted_items r asked is) _ (items_unbuilt asked is) (λ js k. λ i. h i ++ k i))

    branches_unbuilt : (asked : Bool) (m : Branches) → IfOk (texted_branches r asked m) (Same unbuilt_branches m)
    branches_unbuilt asked no_branch = refl
    branches_unbuilt asked (else_branch p body) = yielded_then (Same unbuilt_items body) (Same unbuilt_branches (else_branch p body)) (texted_items r asked body) _ (items_unbuilt asked body) (λ is h. h)
    branches_unbuilt asked (elif_branch p e body more) =
        yielded_then (Same unbuilt_items body) (Same unbuilt_branches (elif_branch p e body more)) (texted_items r asked body) _ (items_unbuilt asked body) (λ is h.
        yielded_then (Same unbuilt_branches more) (Same unbuilt_branches (elif_branch p e body more)) (texted_branches r asked more) _ (branches_unbuilt asked more) (λ m k. λ i. h i ++ k i))

    content_unbuilt : (asked : Bool) (p : Place) (c : Content) → IfOk (texted_content r asked p c) (Same unbuilt_content c)
    content_unbuilt asked p (written_value x) = yielded_behind (Same unbuilt_content (written_value x)) (template_in r asked p x) _ (with_unbuilt x)
    content_unbuilt asked p (value_from e) = refl
    content_unbuilt asked p (pairs is) = yielded_then (Same unbuilt_items is) (Same unbuilt_content (pairs is)) (texted_items r asked is) _ (items_unbuilt asked is) (λ js h. h)
    content_unbuilt asked p (elements is) = yielded_then (Same unbuilt_items is) (Same unbuilt_content (elements is)) (texted_items r asked is) _ (items_unbuilt asked is) (λ js h. h)
