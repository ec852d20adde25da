-- The plain data of each form of content, and of an item.
use Rattle.std.proofs.Common.{◌≡◌, List, rules}
use Rattle.ytt_base.specs.declared.tree.Tree.{Tree}
use Rattle.ytt_base.specs.View.{tree_of}
use Rattle.yaml_spec.specs.Noted.{noted_scalar, noted_list, noted_map}
use Rattle.yaml_noted.specs.declared.noted.Content as held
use Rattle.yaml_noted.specs.declared.noted.Content.{the_lemmas}
use Rattle.yaml_noted.specs.declared.noted.NotedItem.{NotedItem}
use Rattle.yaml_noted.specs.View.{content_of, items_of, note_of, noted_of}

pub content_of-Scalar : (t : Tree) → content_of (held.Scalar t) ≡ noted_scalar (tree_of t)
content_of-Scalar t = search (rules, the_lemmas)

pub content_of-Map : (is : List NotedItem) → content_of (held.Map is) ≡ noted_map (items_of is)
content_of-Map is = search (rules, the_lemmas)

pub content_of-List : (is : List NotedItem) → content_of (held.List is) ≡ noted_list (items_of is)
content_of-List is = search (rules, the_lemmas)

pub noted_of-item : (i : NotedItem) → noted_of i ≡ (note_of i, content_of i.content)
noted_of-item i = search (rules, the_lemmas)

-- the plain data, once the form is known
pub ruleset views = (content_of-Scalar, content_of-Map, content_of-List, noted_of-item)
