-- The fourth pass over a file: in each item under `yaml/text-templated-strings`, and in all that it holds, keys and values that are
-- texts with marks are expressions.
use Rattle.std.specs.Prelude.{Bool, true, false, ◌||◌, bytes_eq, codes, Option, Some, None, Ok}
use Rattle.ytt_base.specs.declared.fault.Place.{Place}
use Rattle.ytt_base.specs.Outcomes.{Outcome, ◌>>=◌}
use Rattle.ytt_base.specs.Trees.{Scalar, string}
use Rattle.code_spec.specs.Code.{Expr, text_template}
use Rattle.code_spec.specs.CodeReading.{CodeReader}
use Rattle.template_spec.specs.Template.{Notes, no_notes, note, Key, written_key, key_from, Item, node, code, if_block, for_block, def_block, Items, no_items, an_item, Branches, no_branch, else_branch, elif_branch, Content, written_value, value_from, pairs, elements}
use Rattle.text_template_spec.specs.TextPieces.{is_templated, pieces_in}

-- the item's own notes ask for it
abbrev pub asks_for_texts : Notes → Bool
asks_for_texts no_notes = false
asks_for_texts (note p x es ns) = bytes_eq x (codes "yaml/text-templated-strings") || asks_for_texts ns

-- the text template, at the place of its item, that a written scalar is where it is asked for: it is a text with a mark
abbrev pub template_in : CodeReader → (asked : Bool) → Place → Scalar → Outcome (Option Expr)
template_in r true p (string t) = elim (is_templated t) [ true ↦ pieces_in r p t >>= (λ ps. Ok (Some (text_template p ps))) | false ↦ Ok None ]
template_in r asked p x = Ok None

-- a key and a value, as they are written or from an expression
abbrev pub key_with : Scalar → Option Expr → Key
key_with x None = written_key x
key_with x (Some e) = key_from e

abbrev pub content_with : Scalar → Option Expr → Content
content_with x None = written_value x
content_with x (Some e) = value_from e

-- what isn't written stays as it is
abbrev pub texted_key : CodeReader → (asked : Bool) → Place → Key → Outcome Key
texted_key r asked p (written_key x) = template_in r asked p x >>= (λ o. Ok (key_with x o))
texted_key r asked p k = Ok k

abbrev pub texted_value : CodeReader → (asked : Bool) → Place → Scalar → Outcome Content
texted_value r asked p x = template_in r asked p x >>= (λ o. Ok (content_with x o))

-- the key comes first, then the value or what the item holds
abbrev mutual
  pub texted_item : CodeReader → (asked : Bool) → Item → Outcome Item
  texted_item r asked (node p kind ns key c) =
      texted_key r (asked || asks_for_texts ns) p key >>= (λ k. texted_content r (asked || asks_for_texts ns) p c >>= (λ d. Ok (node p kind ns k d)))
  texted_item r asked (code s) = Ok (code s)
  texted_item r asked (if_block p e body more) = texted_items r asked body >>= (λ is. texted_branches r asked more >>= (λ m. Ok (if_block p e is m)))
  texted_item r asked (for_block p x e body) = texted_items r asked body >>= (λ is. Ok (for_block p x e is))
  texted_item r asked (def_block p number x ps kind body) = texted_items r asked body >>= (λ is. Ok (def_block p number x ps kind is))

  pub texted_items : CodeReader → (asked : Bool) → Items → Outcome Items
  texted_items r asked no_items = Ok no_items
  texted_items r asked (an_item i is) = texted_item r asked i >>= (λ j. texted_items r asked is >>= (λ js. Ok (an_item j js)))

  pub texted_branches : CodeReader → (asked : Bool) → Branches → Outcome Branches
  texted_branches r asked no_branch = Ok no_branch
  texted_branches r asked (else_branch p body) = texted_items r asked body >>= (λ is. Ok (else_branch p is))
  texted_branches r asked (elif_branch p e body more) = texted_items r asked body >>= (λ is. texted_branches r asked more >>= (λ m. Ok (elif_branch p e is m)))

  pub texted_content : CodeReader → (asked : Bool) → Place → Content → Outcome Content
  texted_content r asked p (written_value x) = texted_value r asked p x
  texted_content r asked p (value_from e) = Ok (value_from e)
  texted_content r asked p (pairs is) = texted_items r asked is >>= (λ js. Ok (pairs js))
  texted_content r asked p (elements is) = texted_items r asked is >>= (λ js. Ok (elements js))

-- the template with its text templates as expressions, or their first fault in text order
unfoldable pub with_texts : CodeReader → Items → Outcome Items
with_texts r t = texted_items r false t
