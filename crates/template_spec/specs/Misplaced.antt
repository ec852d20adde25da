-- The pass over placing: the first fault of a text whose comments are read, where a statement, a block, an item or a note
-- doesn't stand where it may.
use Rattle.std.specs.Prelude.{ℕ, Bool, true, false, not, ◌&&◌, ◌||◌, ◌==◌, nat_lt, if◌then◌else◌, List, [], ◌∷◌, ◌++◌, length, bytes_eq, is_some, Option, Some, None}
use Rattle.std.specs.List.{list_any}
use Rattle.ytt_base.specs.declared.fault.Fault.{Fault}
use Rattle.ytt_base.specs.declared.fault.FaultKind.{FaultKind}
use Rattle.ytt_base.specs.declared.fault.FaultKind.TheVariants as kind
use Rattle.ytt_base.specs.declared.fault.Place.{Place}
use Rattle.ytt_base.specs.Outcomes.{fault_at, place_at}
use Rattle.code_spec.specs.Code.{Statement, load, return, break, continue}
use Rattle.code_spec.specs.CodeReading.{Header, if_header, for_header, def_header}
use Rattle.code_spec.specs.Program.{ItemKind, document_item, Instruction, statement}
use Rattle.template_spec.specs.Comments.{Said, a_note, a_value, statements, opens, elif, otherwise, closes, is_data_note}
use Rattle.template_spec.specs.Events.{Path, Event, begins, beside, says}
use Rattle.template_spec.specs.OpenBlocks.{collection_of, lies_in, Block, belongs, next_item, open_blocks, first_of}

-- how many blocks may be open
abbrev pub max_blocks : ℕ
max_blocks = 50

abbrev pub is_if : Header → Bool
is_if (if_header e) = true
is_if _ = false

abbrev pub is_def : Header → Bool
is_def (def_header x ps) = true
is_def _ = false

abbrev pub is_for : Header → Bool
is_for (for_header x e) = true
is_for _ = false

abbrev pub innermost_def : List Block → Option Block
innermost_def [] = None
innermost_def (b ∷ bs) = if is_def b.header then Some b else innermost_def bs

-- the loop around a place, in the same function
abbrev pub innermost_loop : List Block → Option Block
innermost_loop [] = None
innermost_loop (b ∷ bs) = if is_def b.header then None else if is_for b.header then Some b else innermost_loop bs

-- a fault, unless the place is right
abbrev pub unless : Bool → Fault → Option Fault
unless true f = None
unless false f = Some f

abbrev pub fault_on : (file : ℕ) → FaultKind → (line : ℕ) → Fault
fault_on file k l = fault_at k (place_at file l)

-- ---- statements

abbrev pub is_collection_of : Path → Option Block → Bool
is_collection_of c None = false
is_collection_of c (Some b) = bytes_eq b.collection c

abbrev pub no_block : List Block → Bool
no_block [] = true
no_block (b ∷ bs) = false

-- A statement that belongs to a collection, within these blocks: `return` belongs to its function's own collection, `break` and
-- `continue` to their loop's, and `load` stands outside every block.
abbrev pub statement_fault : List Block → Path → Statement → Option Fault
statement_fault bs c (return p e) = unless (is_collection_of c (innermost_def bs)) (fault_at kind.CodeForm p)
statement_fault bs c (break p) = unless (is_collection_of c (innermost_loop bs)) (fault_at kind.CodeForm p)
statement_fault bs c (continue p) = unless (is_collection_of c (innermost_loop bs)) (fault_at kind.CodeForm p)
statement_fault bs c (load p path xs) = unless (no_block bs) (fault_at kind.CodeForm p)
statement_fault bs c s = None

abbrev pub statements_fault : List Block → Path → List Instruction → Option Fault
statements_fault bs c [] = None
statements_fault bs c (statement s ∷ is) = first_of (statement_fault bs c s) (statements_fault bs c is)
statements_fault bs c (i ∷ is) = statements_fault bs c is

-- ---- one event

-- a block for one item whose item has not begun
abbrev pub is_waiting : Block → Bool
is_waiting b = b.for_one && not (is_some b.one)

-- what may stand between such an opener and its item
abbrev pub may_wait : Said → Bool
may_wait (a_note x es) = true
may_wait (opens h z) = z
may_wait s = false

-- `elif` and `else` belong to an `if` without `else`, and `end` to any block; one for a single item takes none of them. An `end`
-- stands in no item of its block: a statement there would belong to its block's collection too.
abbrev pub takes_branch : List Block → Bool
takes_branch [] = false
takes_branch (b ∷ bs) = is_if b.header && not b.has_else && not b.for_one

abbrev pub takes_end : List Block → (next : Option Path) → Bool
takes_end [] next = false
takes_end (b ∷ bs) next = not b.for_one && bytes_eq (belongs (b ∷ bs) next) b.collection

abbrev pub said_fault : (file : ℕ) → List Block → (next : Option Path) → (line : ℕ) → Said → Option Fault
said_fault file bs next l (statements is) = statements_fault bs (belongs bs next) is
said_fault file bs next l (opens h z) = unless (nat_lt (length bs) max_blocks) (fault_on file kind.TooDeep l)
said_fault file bs next l (elif e) = unless (takes_branch bs) (fault_on file kind.BlockStray l)
said_fault file bs next l otherwise = unless (takes_branch bs) (fault_on file kind.BlockStray l)
said_fault file bs next l closes = unless (takes_end bs next) (fault_on file kind.BlockStray l)
said_fault file bs next l s = None

-- nothing but notes and further such openers comes between an opener for one item and the item
abbrev pub waiting_or_said : (file : ℕ) → List Block → (next : Option Path) → (line : ℕ) → Said → Option Fault
waiting_or_said file [] next l s = said_fault file [] next l s
waiting_or_said file (b ∷ bs) next l s = if is_waiting b && not (may_wait s) then Some (fault_on file kind.BlockOpen b.line) else said_fault file (b ∷ bs) next l s

-- an item begins in the innermost open block's collection or below it
abbrev pub stays_within : List Block → Path → Bool
stays_within [] p = true
stays_within (b ∷ bs) p = lies_in (collection_of p) b.collection

-- a value expression stands for a written scalar
abbrev pub beside_fault : (file : ℕ) → (is_collection : Bool) → (line : ℕ) → Said → Option Fault
beside_fault file b l (a_value e) = unless (not b) (fault_on file kind.CodeForm l)
beside_fault file b l s = None

-- what is wrong with an event where it stands, behind the past ones, given latest first, and before the coming ones
abbrev pub event_fault : (file : ℕ) → (past : List Event) → Event → (coming : List Event) → Option Fault
event_fault file past (begins p k l) coming = unless (stays_within (open_blocks past (Some p)) p) (fault_on file kind.BlockCrossed l)
event_fault file past (beside p k b l s) coming = beside_fault file b l s
event_fault file past (says l s) coming = waiting_or_said file (open_blocks past (next_item coming)) (next_item coming) l s

-- ---- notes

-- no item comes, or for a note of documents another item than a document, or a branch or an end stands before the item
abbrev pub is_lost : (is_data : Bool) → (coming : List Event) → Bool
is_lost d [] = true
is_lost d (begins p document_item l ∷ es) = false
is_lost d (begins p k l ∷ es) = d
is_lost d (beside p k b l s ∷ es) = is_lost d es
is_lost d (says l (elif e) ∷ es) = true
is_lost d (says l otherwise ∷ es) = true
is_lost d (says l closes ∷ es) = true
is_lost d (says l s ∷ es) = is_lost d es

abbrev pub is_document : ItemKind → Bool
is_document document_item = true
is_document k = false

abbrev pub note_fault : (file : ℕ) → Event → (coming : List Event) → Option Fault
note_fault file (says l (a_note x es)) coming = unless (not (is_lost (is_data_note x) coming)) (fault_on file kind.NoteForm l)
note_fault file (beside p k b l (a_note x es)) coming = unless (is_document k || not (is_data_note x)) (fault_on file kind.NoteForm l)
note_fault file e coming = None

-- ---- functions that build fragments

-- a `return`, and the `def` around it, which is known by the number of events before it
pub record Returned : Type 0 where
  pub within : ℕ
  pub place : Place

abbrev pub returned_in : Option Block → List Instruction → List Returned
returned_in None is = []
returned_in (Some b) [] = []
returned_in (Some b) (statement (return p e) ∷ is) = record { within = b.before; place = p } ∷ returned_in (Some b) is
returned_in (Some b) (i ∷ is) = returned_in (Some b) is

abbrev pub returned_at : (past : List Event) → Event → (coming : List Event) → List Returned
returned_at past (says l (statements is)) coming = returned_in (innermost_def (open_blocks past (next_item coming))) is
returned_at past e coming = []

-- the innermost `def` around an item, where the item stands in its own collection
abbrev pub holder_in : Path → Option Block → List ℕ
holder_in c None = []
holder_in c (Some b) = if bytes_eq b.collection c then b.before ∷ [] else []

abbrev pub holder_at : (past : List Event) → Event → List ℕ
holder_at past (begins p k l) = holder_in (collection_of p) (innermost_def (open_blocks past (Some p)))
holder_at past e = []

-- a `return` in a `def` that holds items
abbrev pub return_faults : (holders : List ℕ) → List Returned → List Fault
return_faults hs [] = []
return_faults hs (r ∷ rs) = if list_any (λ h. h == r.within) hs then fault_at kind.CodeForm r.place ∷ return_faults hs rs else return_faults hs rs

-- ---- the pass

-- of the text up to the first event that is wrong where it stands: the `def`s that hold items, the `return`s, and that fault
pub record Sound : Type 0 where
  pub holders : List ℕ
  pub returned : List Returned
  pub stop : List Fault

abbrev pub and_sound : List ℕ → List Returned → Sound → Sound
and_sound hs rs s = record { holders = hs ++ s.holders; returned = rs ++ s.returned; stop = s.stop }

abbrev pub sound_from : (file : ℕ) → (past : List Event) → List Event → Sound
sound_from file past [] = record { holders = []; returned = []; stop = [] }
sound_from file past (e ∷ es) =
    elim (event_fault file past e es) [
      | Some f ↦ record { holders = []; returned = returned_at past e es; stop = f ∷ [] }
      | None ↦ and_sound (holder_at past e) (returned_at past e es) (sound_from file (e ∷ past) es)
    ]

abbrev pub option_list : {A : Type 0} → Option A → List A
option_list None = []
option_list (Some a) = a ∷ []

abbrev pub note_faults : (file : ℕ) → List Event → List Fault
note_faults file [] = []
note_faults file (e ∷ es) = option_list (note_fault file e es) ++ note_faults file es

abbrev pub line_of : Fault → ℕ
line_of f = elim f.place [ None ↦ 0 | Some p ↦ p.line ]

-- the first of those that stand at the least line
abbrev pub least : Fault → List Fault → Fault
least f [] = f
least f (g ∷ gs) = if nat_lt (line_of g) (line_of f) then least g gs else least f gs

abbrev pub earliest : List Fault → Option Fault
earliest [] = None
earliest (f ∷ fs) = Some (least f fs)

abbrev pub reversed : List Event → (past : List Event) → List Event
reversed [] past = past
reversed (e ∷ es) past = reversed es (e ∷ past)

-- a block that is open at the text's end
abbrev pub left_open : (file : ℕ) → List Block → Option Fault
left_open file [] = None
left_open file (b ∷ bs) = Some (fault_on file kind.BlockOpen b.line)

-- the fault that stands first in the text; a block that is open at its end only where nothing else is wrong
unfoldable pub placing_fault : (file : ℕ) → List Event → Option Fault
placing_fault file es =
    let s = sound_from file [] es in
    first_of (earliest (s.stop ++ (return_faults s.holders s.returned ++ note_faults file es))) (left_open file (open_blocks (reversed es []) None))
