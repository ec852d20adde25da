-- Text templates leave `break`, `continue` and `return` where they stand.
use Rattle.std.proofs.Common.{◌≡◌, Bool, ◌||◌, Option, Some, None, Ok, subst}
use Rattle.std.specs.Result.{IfOk}
use Rattle.ytt_base.specs.declared.fault.Place.{Place}
use Rattle.ytt_base.specs.Trees.{Scalar}
use Rattle.ytt_laws.proofs.Yielded.{yielded_behind, yielded_then}
use Rattle.code_spec.specs.Code.{Expr}
use Rattle.code_spec.specs.CodeReading.{CodeReader}
use Rattle.template_spec.specs.ControlWords.{Around, free, in_node, within_loop, ItemWordsStand, WordsStand, BranchWordsStand, ContentWordsStand}
use Rattle.template_spec.specs.Template.{Item, node, code, if_block, for_block, def_block, Items, no_items, an_item, Branches, no_branch, else_branch, elif_branch, Content, written_value, value_from, pairs, elements}
use Rattle.text_template_spec.specs.TextTemplates.{asks_for_texts, content_with, template_in, texted_branches, texted_content, texted_item, texted_items, texted_key}

with_words : (x : Scalar) (o : Option Expr) → ContentWordsStand (content_with x o)
with_words x None = tt
with_words x (Some e) = tt

module _ (r : CodeReader) where
  mutual
    item_words : (asked : Bool) (w : Around) (i : Item) → ItemWordsStand w i → IfOk (texted_item r asked i) (ItemWordsStand w)
    item_words asked w (node p k ns key c) h =
        yielded_behind (ItemWordsStand w) (texted_key r (asked || asks_for_texts ns) p key) _ (λ x.
        yielded_then ContentWordsStand (ItemWordsStand w) (texted_content r (asked || asks_for_texts ns) p c) _ (content_words (asked || asks_for_texts ns) p c h) (λ d k. k))
    item_words asked w (code s) h = h
    item_words asked w (if_block p e body more) h =
        yielded_then (WordsStand w) (ItemWordsStand w) (texted_items r asked body) _ (items_words asked w body h.0) (λ is k.
        yielded_then (BranchWordsStand w) (ItemWordsStand w) (texted_branches r asked more) _ (branches_words asked w more h.1) (λ m l. (k, l)))
    item_words asked w (for_block p x e body) h = yielded_then (WordsStand (within_loop w)) (ItemWordsStand w) (texted_items r asked body) _ (items_words asked (within_loop w) body h) (λ is k. k)
    item_words asked w (def_block p number x ps kind body) h = yielded_then (WordsStand free) (ItemWordsStand w) (texted_items r asked body) _ (items_words asked free body h) (λ is k. k)

    items_words : (asked : Bool) (w : Around) (t : Items) → WordsStand w t → IfOk (texted_items r asked t) (WordsStand w)
    items_words asked w no_items h = tt
    items_words asked w (an_item i is) h =
        yielded_then (ItemWordsStand w) (WordsStand w) (texted_item r asked i) _ (item_words asked w i h.0) (λ j k.
        yielded_then (WordsStand w) (WordsStand w) (texted_items r asked is) _ (items_words asked w is h.1) (λ js l. (k, l)))

    branches_words : (asked : Bool) (w : Around) (m : Branches) → BranchWordsStand w m → IfOk (texted_branches r asked m) (BranchWordsStand w)
    branches_words asked w no_branch h = tt
    branches_words asked w (else_branch p body) h = yielded_then (WordsStand w) (BranchWordsStand w) (texted_items r asked body) _ (items_words asked w body h) (λ is k. k)
    branches_words asked w (elif_branch p e body more) h =
        yielded_then (WordsStand w) (BranchWordsStand w) (texted_items r asked body) _ (items_words asked w body h.0) (λ is k.
        yielded_then (BranchWordsStand w) (BranchWordsStand w) (texted_branches r asked more) _ (branches_words asked w more h.1) (λ m l. (k, l)))

    content_words : (asked : Bool) (p : Place) (c : Content) → ContentWordsStand c → IfOk (texted_content r asked p c) ContentWordsStand
    content_words asked p (written_value x) h = yielded_behind ContentWordsStand (template_in r asked p x) _ (with_words x)
    content_words asked p (value_from e) h = tt
    content_words asked p (pairs is) h = yielded_then (WordsStand in_node) ContentWordsStand (texted_items r asked is) _ (items_words asked in_node is h) (λ js k. k)
    content_words asked p (elements is) h = yielded_then (WordsStand in_node) ContentWordsStand (texted_items r asked is) _ (items_words asked in_node is h) (λ js k. k)

  pub words_kept : (asked : Bool) (w : Around) (t u : Items) → texted_items r asked t ≡ Ok u → WordsStand w t → WordsStand w u
  words_kept asked w t u e h = subst (λ o. IfOk o (WordsStand w)) e (items_words asked w t h)
