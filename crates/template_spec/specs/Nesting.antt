-- The template of noted documents: in each collection its items, statements and blocks, in text order.
use Rattle.std.specs.Prelude.{ℕ, suc, Bool, true, false, ◌&&◌, ◌==◌, if◌then◌else◌, List, [], ◌∷◌, ◌++◌, bytes_eq, Option, Some, None, Ok, Err}
use Rattle.ytt_base.specs.declared.fault.Fault.{Fault}
use Rattle.ytt_base.specs.declared.fault.Place.{Place}
use Rattle.ytt_base.specs.Outcomes.{Outcome, ◌>>=◌, place_at}
use Rattle.ytt_base.specs.Trees.{Scalar, null, scalar, Tree}
use Rattle.yaml_spec.specs.Noted as noted
use Rattle.yaml_spec.specs.Noted.{Note, noted_scalar, noted_list, noted_map, Documents}
use Rattle.code_spec.specs.Code.{Expr}
use Rattle.code_spec.specs.CodeReading.{CodeReader, Header, if_header, for_header, def_header}
use Rattle.code_spec.specs.Program.{ItemKind, document_item, pair_item, element_item, Instruction, statement}
use Rattle.template_spec.specs.Comments.{Said, a_note, a_value, statements, opens, elif, otherwise, closes}
use Rattle.template_spec.specs.Events.{Path, Event, begins, beside, says, events}
use Rattle.template_spec.specs.Misplaced.{placing_fault}
use Rattle.template_spec.specs.OpenBlocks.{Block, belongs, next_item, open_blocks, so_far}
use Rattle.template_spec.specs.Template.{Notes, no_notes, note, Key, no_key, written_key, Item, node, code, if_block, for_block, def_block, Items, no_items, an_item, Branches, no_branch, else_branch, elif_branch, Content, written_value, value_from, pairs, elements}

-- ---- where what is said stands

-- a statement, an opener, a branch or an end: the collection to which it belongs, and how many items of that stand before it
pub record Mark : Type 0 where
  pub collection : Path
  pub number : ℕ
  pub line : ℕ
  pub said : Said

abbrev pub innermost : List Block → Path
innermost [] = []
innermost (b ∷ bs) = b.collection

abbrev pub mark_in : Path → (past : List Event) → (line : ℕ) → Said → List Mark
mark_in c past l s = record { collection = c; number = so_far c past; line = l; said = s } ∷ []

-- a branch and an end belong to their opener's collection
abbrev pub mark : (past coming : List Event) → (line : ℕ) → Said → List Mark
mark past coming l (statements is) = mark_in (belongs (open_blocks past (next_item coming)) (next_item coming)) past l (statements is)
mark past coming l (opens h z) = mark_in (belongs (open_blocks past (next_item coming)) (next_item coming)) past l (opens h z)
mark past coming l (elif e) = mark_in (innermost (open_blocks past (next_item coming))) past l (elif e)
mark past coming l otherwise = mark_in (innermost (open_blocks past (next_item coming))) past l otherwise
mark past coming l closes = mark_in (innermost (open_blocks past (next_item coming))) past l closes
mark past coming l s = []

abbrev pub marks : (past : List Event) → List Event → List Mark
marks past [] = []
marks past (says l s ∷ es) = mark past es l s ++ marks (says l s ∷ past) es
marks past (e ∷ es) = marks (e ∷ past) es

-- ---- the notes and the value expression of an item

-- the notes that stand before the next item, and then those beside it
abbrev pub notes_from : (file : ℕ) → (more : Notes) → List Event → Notes
notes_from file more [] = more
notes_from file more (begins p k l ∷ es) = more
notes_from file more (says l (a_note x vs) ∷ es) = note (place_at file l) x vs (notes_from file more es)
notes_from file more (says l s ∷ es) = notes_from file more es
notes_from file more (beside p k b l s ∷ es) = notes_from file more es

abbrev pub note_beside : (file : ℕ) → Path → List Event → Notes
note_beside file p [] = no_notes
note_beside file p (beside q k b l (a_note x vs) ∷ es) = if bytes_eq p q then note (place_at file l) x vs no_notes else note_beside file p es
note_beside file p (e ∷ es) = note_beside file p es

abbrev pub value_beside : Path → List Event → Option Expr
value_beside p [] = None
value_beside p (beside q k b l (a_value e) ∷ es) = if bytes_eq p q then Some e else value_beside p es
value_beside p (e ∷ es) = value_beside p es

-- the events from behind the item before the one at a path on; `since` are those behind the last item so far
abbrev pub events_at : Path → (since : List Event) → List Event → List Event
events_at p since [] = []
events_at p since (begins q k l ∷ es) = if bytes_eq p q then since else events_at p es es
events_at p since (e ∷ es) = events_at p since es

-- ---- what stands in one collection

-- an item, or something said between items
pub data Part : Type 0 where
  a_node : Item → Part
  a_mark : (line : ℕ) → Said → Part

-- what was read from the end of a collection: the items so far, in the blocks that are closed further on
pub data Nested : Type 0 where
  broken : Nested
  at_top : Items → Nested
  inside : Items → Branches → Nested → Nested

abbrev pub put : Item → Nested → Nested
put i broken = broken
put i (at_top is) = at_top (an_item i is)
put i (inside is more outer) = inside (an_item i is) more outer

abbrev pub put_statements : List Instruction → Nested → Nested
put_statements [] n = n
put_statements (statement s ∷ is) n = put (code s) (put_statements is n)
put_statements (i ∷ is) n = put_statements is n

-- the block of a head; `kind` is that of the items of its collection
abbrev pub block_of : ItemKind → Place → Header → Items → Branches → Option Item
block_of kind p (if_header e) is more = Some (if_block p e is more)
block_of kind p (for_header x e) is no_branch = Some (for_block p x e is)
block_of kind p (def_header x ps) is no_branch = Some (def_block p 0 x ps kind is)
block_of kind p h is more = None

abbrev pub put_block : Option Item → Nested → Nested
put_block None n = broken
put_block (Some i) n = put i n

abbrev pub open_block : ItemKind → Place → Header → Nested → Nested
open_block kind p h (inside is more outer) = put_block (block_of kind p h is more) outer
open_block kind p h n = broken

-- a block for one item
abbrev pub around_one : ItemKind → Place → Header → Nested → Nested
around_one kind p h (at_top (an_item i is)) = put_block (block_of kind p h (an_item i no_items) no_branch) (at_top is)
around_one kind p h (inside (an_item i is) more outer) = put_block (block_of kind p h (an_item i no_items) no_branch) (inside is more outer)
around_one kind p h n = broken

abbrev pub next_branch : Place → Expr → Nested → Nested
next_branch p e (inside is more outer) = inside no_items (elif_branch p e is more) outer
next_branch p e n = broken

abbrev pub last_branch : Place → Nested → Nested
last_branch p (inside is no_branch outer) = inside no_items (else_branch p is) outer
last_branch p n = broken

abbrev pub nest_said : ItemKind → Place → Said → Nested → Nested
nest_said kind p (statements is) n = put_statements is n
nest_said kind p (opens h true) n = around_one kind p h n
nest_said kind p (opens h false) n = open_block kind p h n
nest_said kind p (elif e) n = next_branch p e n
nest_said kind p otherwise n = last_branch p n
nest_said kind p closes n = inside no_items no_branch n
nest_said kind p s n = n

abbrev pub nest : (file : ℕ) → ItemKind → List Part → Nested
nest file kind [] = at_top no_items
nest file kind (a_node i ∷ ps) = put i (nest file kind ps)
nest file kind (a_mark l s ∷ ps) = nest_said kind (place_at file l) s (nest file kind ps)

-- no block of a placed text is left open or closed twice, so the whole is at the top
abbrev pub whole : Nested → Items
whole (at_top is) = is
whole n = no_items

-- ---- the template

-- the marks of a collection behind so many of its items, in front of what follows
abbrev pub marks_at : Path → (number : ℕ) → List Mark → List Part → List Part
marks_at c n [] rest = rest
marks_at c n (m ∷ ms) rest =
    if bytes_eq m.collection c && m.number == n then a_mark m.line m.said ∷ marks_at c n ms rest else marks_at c n ms rest

abbrev pub key_part : Option Scalar → Key
key_part None = no_key
key_part (Some s) = written_key s

-- a value expression stands for what is written
abbrev pub value_or : Option Expr → Content → Content
value_or None c = c
value_or (Some e) c = value_from e

-- the scalar that a noted scalar is; of a list or a map it would be null, but none is asked for here, since all that is
-- read as a noted scalar is a scalar
abbrev pub scalar_of : Tree → Scalar
scalar_of (scalar s) = s
scalar_of t = null

module _ (file : ℕ) (text : List Event) where
  abbrev pub node_at : Path → ItemKind → Note → Content → Item
  node_at p k i c =
      node (place_at file i.place.line) k (notes_from file (note_beside file p text) (events_at p text text)) (key_part i.key) (value_or (value_beside p text) c)

  abbrev mutual
    -- the items of a collection from one on, with what stands between them
    pub parts : ItemKind → Path → (number : ℕ) → noted.Items → List Part
    parts k c n noted.no_items = marks_at c n (marks [] text) []
    parts k c n (noted.item i x more) = marks_at c n (marks [] text) (a_node (node_at (n ∷ c) k i (content (n ∷ c) x)) ∷ parts k c (suc n) more)

    pub content : Path → noted.Content → Content
    content p (noted_scalar t) = written_value (scalar_of t)
    content p (noted_list is) = elements (whole (nest file element_item (parts element_item p 0 is)))
    content p (noted_map is) = pairs (whole (nest file pair_item (parts pair_item p 0 is)))

  abbrev pub template_of : noted.Items → Items
  template_of is = whole (nest file document_item (parts document_item [] 0 is))

abbrev pub placed_or : Option Fault → Items → Outcome Items
placed_or (Some f) t = Err f
placed_or None t = Ok t

-- the template of noted documents, or the first fault of their comments and then of their placing
unfoldable pub placed_whole : CodeReader → (ignore_unknown : Bool) → (file : ℕ) → Documents → Outcome Items
placed_whole r ignore file ds = events r ignore file ds >>= (λ es. placed_or (placing_fault file es) (template_of file es ds.items))
