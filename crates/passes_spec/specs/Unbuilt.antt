-- What of a template isn't built yet and is told before it runs: notes of schemas, data values and overlays, and loads of modules that
-- come later.
use Rattle.std.specs.Prelude.{ℕ, nat_lt, bytes_eq, codes, ◌||◌, Bool, if◌then◌else◌, List, [], ◌∷◌, ◌++◌, Option, Some, None}
use Rattle.ytt_base.specs.declared.fault.Place.{Place}
use Rattle.code_spec.specs.Code.{Name, Statement, load}
use Rattle.template_spec.specs.Template.{Notes, no_notes, note, Item, node, code, if_block, for_block, def_block, Items, no_items, an_item, Branches, no_branch, else_branch, elif_branch, Content, written_value, value_from, pairs, elements}

-- the notes that are built, by their names
abbrev pub is_built_note : Name → Bool
is_built_note x = bytes_eq x (codes "yaml/map-key-override") || bytes_eq x (codes "yaml/text-templated-strings")

abbrev pub unbuilt_note : Place → Name → List Place
unbuilt_note p x = if is_built_note x then [] else p ∷ []

abbrev pub unbuilt_notes : Notes → List Place
unbuilt_notes no_notes = []
unbuilt_notes (note p x es ns) = unbuilt_note p x ++ unbuilt_notes ns

-- the path of a module that comes later
abbrev pub is_later_module : (path : List ℕ) → Bool
is_later_module path = bytes_eq path (codes "@ytt:data") || bytes_eq path (codes "@ytt:overlay")

abbrev pub unbuilt_statement : Statement → List Place
unbuilt_statement (load p path xs) = if is_later_module path then p ∷ [] else []
unbuilt_statement _ = []

-- where something in items isn't built
abbrev mutual
  pub unbuilt_item : Item → List Place
  unbuilt_item (node p kind ns key c) = unbuilt_notes ns ++ unbuilt_content c
  unbuilt_item (code s) = unbuilt_statement s
  unbuilt_item (if_block p e body more) = unbuilt_items body ++ unbuilt_branches more
  unbuilt_item (for_block p x e body) = unbuilt_items body
  unbuilt_item (def_block p number x ps kind body) = unbuilt_items body

  pub unbuilt_items : Items → List Place
  unbuilt_items no_items = []
  unbuilt_items (an_item i is) = unbuilt_item i ++ unbuilt_items is

  pub unbuilt_branches : Branches → List Place
  unbuilt_branches no_branch = []
  unbuilt_branches (else_branch p body) = unbuilt_items body
  unbuilt_branches (elif_branch p e body more) = unbuilt_items body ++ unbuilt_branches more

  pub unbuilt_content : Content → List Place
  unbuilt_content (written_value x) = []
  unbuilt_content (value_from e) = []
  unbuilt_content (pairs is) = unbuilt_items is
  unbuilt_content (elements is) = unbuilt_items is

-- the first of those at the least line
abbrev pub first_place : Place → List Place → Place
first_place p [] = p
first_place p (q ∷ qs) = if nat_lt q.line p.line then first_place q qs else first_place p qs

abbrev pub first_unbuilt : List Place → Option Place
first_unbuilt [] = None
first_unbuilt (p ∷ ps) = Some (first_place p ps)
