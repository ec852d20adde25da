-- The noted documents, as plain data, that those of the program stand for.
use Rattle.std.specs.Prelude.{List, [], ◌∷◌, map as each, option_map}
use Rattle.ytt_base.specs.View.{key_of, tree_of}
use Rattle.yaml_spec.specs.Noted as plain
use Rattle.yaml_spec.specs.Noted.{Comment, Note, noted_scalar, noted_list, noted_map, Items, no_items, item, Documents}
use Rattle.yaml_noted.specs.declared.noted.RawComment.{RawComment}
use Rattle.yaml_noted.specs.declared.noted.NotedDocs.{NotedDocs}
use Rattle.yaml_noted.specs.declared.noted.Content.{Content, fold-Content}
use Rattle.yaml_noted.specs.declared.noted.NotedItem.{NotedItem, fold-NotedItem}
use Rattle.yaml_noted.specs.declared.noted.Content.TheOpen.{Content-F, NotedItem-F}

abbrev pub comment_of : RawComment → Comment
comment_of c = record { line = c.line; own_line = c.own_line; text = c.text }

abbrev pub comments_of : List RawComment → List Comment
comments_of cs = each comment_of cs

-- an item and its content
abbrev pub Noted : Type 0
Noted = Note × plain.Content

abbrev pub in_items : List Noted → Items
in_items [] = no_items
in_items (i ∷ is) = item i.0 i.1 (in_items is)

-- one level, where each content and each item inside is seen already
abbrev pub content_step : Content-F plain.Content Noted → plain.Content
content_step (Content-F.Scalar t) = noted_scalar (tree_of t)
content_step (Content-F.Map is) = noted_map (in_items is)
content_step (Content-F.List is) = noted_list (in_items is)

abbrev pub note_of : NotedItem → Note
note_of i = record { place = i.place; key = option_map key_of i.key; before = comments_of i.before; trailing = option_map comment_of i.trailing; flow = i.flow }

abbrev pub item_step : NotedItem-F plain.Content Noted → Noted
item_step i = (record { place = i.place; key = option_map key_of i.key; before = comments_of i.before; trailing = option_map comment_of i.trailing; flow = i.flow }, i.content)

-- ---- all levels

abbrev pub content_of : Content → plain.Content
content_of = fold-Content plain.Content Noted content_step item_step

abbrev pub noted_of : NotedItem → Noted
noted_of = fold-NotedItem plain.Content Noted content_step item_step

abbrev pub items_of : List NotedItem → Items
items_of is = in_items (each noted_of is)

abbrev pub documents_of : NotedDocs → Documents
documents_of d = record { items = items_of d.items; after = comments_of d.after }
