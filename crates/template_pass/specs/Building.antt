-- The template of rows: a pass from the left says to which level each statement, opener, branch and end belongs and which notes an
-- item has, and a pass from the right builds, with one slot for each level.
use Rattle.std.specs.Prelude.{ℕ, zero, suc, List, [], ◌∷◌, ◌++◌, take, Option, Some, None}
use Rattle.ytt_base.specs.Outcomes.{place_at}
use Rattle.ytt_base.specs.Trees.{Scalar}
use Rattle.code_spec.specs.Code.{Name, Expr, Exprs}
use Rattle.code_spec.specs.Program.{ItemKind, document_item, pair_item, element_item}
use Rattle.template_spec.specs.Comments.{Said, a_note, a_value, statements, opens, elif, otherwise, closes}
use Rattle.template_spec.specs.Nesting.{Part, a_node, nest, whole, key_part, value_or, scalar_of}
use Rattle.template_spec.specs.Nesting as nesting
use Rattle.template_spec.specs.Template.{Notes, no_notes, note, Item, node, Items, Content, written_value, pairs, elements}
use Rattle.template_pass.specs.Flat.{Shape, a_scalar, a_map, a_list}
use Rattle.template_pass.specs.Levels.{Open, belongs, next_level, behind}
use Rattle.template_pass.specs.Rows.{Row, begins, beside, says}

-- ---- from the left

pub record Before : Type 0 where
  pub line : ℕ
  pub name : Name
  pub arguments : Exprs

-- an item with the notes before it; what is said beside it; a statement, an opener, a branch or an end with its level
pub data Put : Type 0 where
  an_item : (level : ℕ) → ItemKind → (line : ℕ) → (key : Option Scalar) → Shape → List Before → Put
  put_beside : (level : ℕ) → (line : ℕ) → Said → Put
  put_mark : (level : ℕ) → (line : ℕ) → Said → Put

abbrev pub innermost : List Open → ℕ
innermost [] = 0
innermost (b ∷ bs) = b.level

abbrev pub mark : List Open → (next : Option ℕ) → (line : ℕ) → Said → List Put
mark bs next l (statements is) = put_mark (belongs bs next) l (statements is) ∷ []
mark bs next l (opens h z) = put_mark (belongs bs next) l (opens h z) ∷ []
mark bs next l (elif e) = put_mark (innermost bs) l (elif e) ∷ []
mark bs next l otherwise = put_mark (innermost bs) l otherwise ∷ []
mark bs next l closes = put_mark (innermost bs) l closes ∷ []
mark bs next l s = []

-- what a row puts, behind these notes
abbrev pub put_row : List Open → (next : Option ℕ) → List Before → Row → List Put
put_row bs next ns (begins d k l key w) = an_item d k l key w ns ∷ []
put_row bs next ns (beside d k b l s) = put_beside d l s ∷ []
put_row bs next ns (says l s) = mark bs next l s

-- the notes that wait for an item behind a row
abbrev pub waiting : List Before → Row → List Before
waiting ns (begins d k l key w) = []
waiting ns (says l (a_note x es)) = ns ++ record { line = l; name = x; arguments = es } ∷ []
waiting ns r = ns

abbrev pub puts : List Open → (count : ℕ) → List Before → List Row → List Put
puts bs n ns [] = []
puts bs n ns (r ∷ rs) = put_row bs (next_level rs) ns r ++ puts (behind bs (next_level rs) n r) (suc n) (waiting ns r) rs

-- ---- from the right

-- what was read of a collection from its end, and what stands beside the item whose value it is
pub record Slot : Type 0 where
  pub parts : List Part
  pub value : Option Expr
  pub notes : Notes

abbrev pub fresh : Slot
fresh = record { parts = []; value = None; notes = no_notes }

abbrev pub slot_at : (level : ℕ) → List Slot → Slot
slot_at d [] = fresh
slot_at zero (s ∷ ss) = s
slot_at (suc d) (s ∷ ss) = slot_at d ss

abbrev pub changed : (level : ℕ) → (Slot → Slot) → List Slot → List Slot
changed zero f [] = f fresh ∷ []
changed zero f (s ∷ ss) = f s ∷ ss
changed (suc d) f [] = fresh ∷ changed d f []
changed (suc d) f (s ∷ ss) = s ∷ changed d f ss

abbrev pub with_part : Part → Slot → Slot
with_part p s = record s { parts = p ∷ s.parts }

abbrev pub with_beside : (file line : ℕ) → Said → Slot → Slot
with_beside file l (a_value e) s = record s { value = Some e }
with_beside file l (a_note x es) s = record s { notes = note (place_at file l) x es no_notes }
with_beside file l t s = s

abbrev pub notes_then : (file : ℕ) → List Before → Notes → Notes
notes_then file [] more = more
notes_then file (n ∷ ns) more = note (place_at file n.line) n.name n.arguments (notes_then file ns more)

abbrev pub content_of : (file : ℕ) → Shape → List Part → Content
content_of file (a_scalar t) ps = written_value (scalar_of t)
content_of file a_map ps = pairs (whole (nest file pair_item ps))
content_of file a_list ps = elements (whole (nest file element_item ps))

-- the item whose value's slot this is
abbrev pub item_with : (file : ℕ) → ItemKind → (line : ℕ) → Option Scalar → Shape → List Before → Slot → Item
item_with file k l key w ns s = node (place_at file l) k (notes_then file ns s.notes) (key_part key) (value_or s.value (content_of file w s.parts))

abbrev pub built_step : (file : ℕ) → Put → List Slot → List Slot
built_step file (an_item d k l key w ns) ss = changed d (with_part (a_node (item_with file k l key w ns (slot_at (suc d) ss)))) (take (suc d) ss)
built_step file (put_beside d l s) ss = changed (suc d) (with_beside file l s) ss
built_step file (put_mark d l s) ss = changed d (with_part (nesting.a_mark l s)) ss

abbrev pub built : (file : ℕ) → List Put → List Slot
built file [] = []
built file (p ∷ ps) = built_step file p (built file ps)

abbrev pub documents_in : (file : ℕ) → List Slot → Items
documents_in file ss = whole (nest file document_item (slot_at 0 ss).parts)

unfoldable pub template_by_levels : (file : ℕ) → List Row → Items
template_by_levels file rs = documents_in file (built file (puts [] 0 [] rs))
