-- The pass over placing by levels alone: a stack of open blocks, and where it stops.
use Rattle.std.specs.Prelude.{ℕ, suc, Bool, true, false, not, ◌&&◌, ◌||◌, ◌==◌, nat_lt, if◌then◌else◌, List, [], ◌∷◌, ◌++◌, drop, length, is_some, Option, Some, None}
use Rattle.ytt_base.specs.declared.fault.Fault.{Fault}
use Rattle.ytt_base.specs.declared.fault.FaultKind.TheVariants as kind
use Rattle.ytt_base.specs.Outcomes.{fault_at}
use Rattle.code_spec.specs.Code.{Statement, load, return, break, continue}
use Rattle.code_spec.specs.CodeReading.{Header}
use Rattle.code_spec.specs.Program.{Instruction, statement, document_item}
use Rattle.template_spec.specs.Comments.{Said, a_note, statements, opens, elif, otherwise, closes, is_data_note}
use Rattle.template_spec.specs.Misplaced.{max_blocks, is_if, is_def, is_for, unless, fault_on, may_wait, beside_fault, is_document, Returned, return_faults, Sound, and_sound, option_list, earliest}
use Rattle.template_spec.specs.OpenBlocks.{first_of}
use Rattle.template_pass.specs.Rows.{Row, begins, beside, says}

pub record Open : Type 0 where
  -- the level of the collection to which its opener belongs
  pub level : ℕ
  pub header : Header
  pub for_one : Bool
  pub line : ℕ
  -- the level of the collection that holds the item for which alone it holds, once that has begun
  pub one : Option ℕ
  pub has_else : Bool
  -- how many rows stand before its opener
  pub before : ℕ

-- ---- the stack

abbrev pub at_most : (m n : ℕ) → Bool
at_most m n = not (nat_lt n m)

-- the level to which a statement or an opener belongs
abbrev pub belongs : List Open → (next : Option ℕ) → ℕ
belongs [] None = 0
belongs [] (Some d) = d
belongs (b ∷ bs) None = b.level
belongs (b ∷ bs) (Some d) = if at_most b.level d then d else b.level

-- the level of the item that begins first among these rows
abbrev pub next_level : List Row → Option ℕ
next_level [] = None
next_level (begins d k l key w ∷ rs) = Some d
next_level (r ∷ rs) = next_level rs

-- the text of an item in a collection of one level is over where an item of the other comes next
abbrev pub is_over : (one next : Option ℕ) → Bool
is_over None next = false
is_over (Some d) None = true
is_over (Some d) (Some e) = at_most e d

-- an item has begun: those that wait for one have it
abbrev pub has_one : (level : ℕ) → Open → Open
has_one d b = if b.for_one && not (is_some b.one) then record b { one = Some d } else b

abbrev pub keep : (next : Option ℕ) → Open → List Open → List Open
keep next b bs = if b.for_one && is_over b.one next then bs else b ∷ bs

-- the blocks behind the beginning of an item: those for one item go with its text
abbrev pub advanced : (level : ℕ) → (next : Option ℕ) → List Open → List Open
advanced d next [] = []
advanced d next (b ∷ bs) = keep next (has_one d b) (advanced d next bs)

abbrev pub opened : List Open → (next : Option ℕ) → (count line : ℕ) → Header → (for_one : Bool) → Open
opened bs next n l h z = record { level = belongs bs next; header = h; for_one = z; line = l; one = None; has_else = false; before = n }

abbrev pub with_else : List Open → List Open
with_else [] = []
with_else (b ∷ bs) = record b { has_else = true } ∷ bs

-- the blocks behind a row, before which so many stand; `next` is the level of the item that begins first behind it
abbrev pub behind : List Open → (next : Option ℕ) → (count : ℕ) → Row → List Open
behind bs next n (begins d k l key w) = advanced d next bs
behind bs next n (says l (opens h z)) = opened bs next n l h z ∷ bs
behind bs next n (says l otherwise) = with_else bs
behind bs next n (says l closes) = drop 1 bs
behind bs next n r = bs

-- ---- statements

abbrev pub innermost_def : List Open → Option Open
innermost_def [] = None
innermost_def (b ∷ bs) = if is_def b.header then Some b else innermost_def bs

abbrev pub innermost_loop : List Open → Option Open
innermost_loop [] = None
innermost_loop (b ∷ bs) = if is_def b.header then None else if is_for b.header then Some b else innermost_loop bs

abbrev pub is_level_of : ℕ → Option Open → Bool
is_level_of d None = false
is_level_of d (Some b) = b.level == d

abbrev pub no_block : List Open → Bool
no_block [] = true
no_block (b ∷ bs) = false

abbrev pub statement_fault : List Open → (level : ℕ) → Statement → Option Fault
statement_fault bs d (return p e) = unless (is_level_of d (innermost_def bs)) (fault_at kind.CodeForm p)
statement_fault bs d (break p) = unless (is_level_of d (innermost_loop bs)) (fault_at kind.CodeForm p)
statement_fault bs d (continue p) = unless (is_level_of d (innermost_loop bs)) (fault_at kind.CodeForm p)
statement_fault bs d (load p path xs) = unless (no_block bs) (fault_at kind.CodeForm p)
statement_fault bs d s = None

abbrev pub statements_fault : List Open → (level : ℕ) → List Instruction → Option Fault
statements_fault bs d [] = None
statements_fault bs d (statement s ∷ is) = first_of (statement_fault bs d s) (statements_fault bs d is)
statements_fault bs d (i ∷ is) = statements_fault bs d is

-- ---- one row

abbrev pub is_waiting : Open → Bool
is_waiting b = b.for_one && not (is_some b.one)

abbrev pub takes_branch : List Open → Bool
takes_branch [] = false
takes_branch (b ∷ bs) = is_if b.header && not b.has_else && not b.for_one

abbrev pub takes_end : List Open → (next : Option ℕ) → Bool
takes_end [] next = false
takes_end (b ∷ bs) next = not b.for_one && belongs (b ∷ bs) next == b.level

abbrev pub said_fault : (file : ℕ) → List Open → (next : Option ℕ) → (line : ℕ) → Said → Option Fault
said_fault file bs next l (statements is) = statements_fault bs (belongs bs next) is
said_fault file bs next l (opens h z) = unless (nat_lt (length bs) max_blocks) (fault_on file kind.TooDeep l)
said_fault file bs next l (elif e) = unless (takes_branch bs) (fault_on file kind.BlockStray l)
said_fault file bs next l otherwise = unless (takes_branch bs) (fault_on file kind.BlockStray l)
said_fault file bs next l closes = unless (takes_end bs next) (fault_on file kind.BlockStray l)
said_fault file bs next l s = None

abbrev pub waiting_or_said : (file : ℕ) → List Open → (next : Option ℕ) → (line : ℕ) → Said → Option Fault
waiting_or_said file [] next l s = said_fault file [] next l s
waiting_or_said file (b ∷ bs) next l s = if is_waiting b && not (may_wait s) then Some (fault_on file kind.BlockOpen b.line) else said_fault file (b ∷ bs) next l s

-- an item begins in the innermost open block's collection or below it
abbrev pub stays_within : List Open → (level : ℕ) → Bool
stays_within [] d = true
stays_within (b ∷ bs) d = at_most b.level d

-- what is wrong with a row where these blocks are open
abbrev pub row_fault : (file : ℕ) → List Open → (next : Option ℕ) → Row → Option Fault
row_fault file bs next (begins d k l key w) = unless (stays_within bs d) (fault_on file kind.BlockCrossed l)
row_fault file bs next (beside d k b l s) = beside_fault file b l s
row_fault file bs next (says l s) = waiting_or_said file bs next l s

-- ---- notes

abbrev pub is_lost : (is_data : Bool) → (coming : List Row) → Bool
is_lost z [] = true
is_lost z (begins d document_item l key w ∷ rs) = false
is_lost z (begins d k l key w ∷ rs) = z
is_lost z (beside d k b l s ∷ rs) = is_lost z rs
is_lost z (says l (elif e) ∷ rs) = true
is_lost z (says l otherwise ∷ rs) = true
is_lost z (says l closes ∷ rs) = true
is_lost z (says l s ∷ rs) = is_lost z rs

abbrev pub note_fault : (file : ℕ) → Row → (coming : List Row) → Option Fault
note_fault file (says l (a_note x es)) coming = unless (not (is_lost (is_data_note x) coming)) (fault_on file kind.NoteForm l)
note_fault file (beside d k b l (a_note x es)) coming = unless (is_document k || not (is_data_note x)) (fault_on file kind.NoteForm l)
note_fault file r coming = None

abbrev pub note_faults : (file : ℕ) → List Row → List Fault
note_faults file [] = []
note_faults file (r ∷ rs) = option_list (note_fault file r rs) ++ note_faults file rs

-- ---- functions that build fragments

abbrev pub returned_in : Option Open → List Instruction → List Returned
returned_in None is = []
returned_in (Some b) [] = []
returned_in (Some b) (statement (return p e) ∷ is) = record { within = b.before; place = p } ∷ returned_in (Some b) is
returned_in (Some b) (i ∷ is) = returned_in (Some b) is

abbrev pub returned_at : List Open → Row → List Returned
returned_at bs (says l (statements is)) = returned_in (innermost_def bs) is
returned_at bs r = []

abbrev pub holder_in : (level : ℕ) → Option Open → List ℕ
holder_in d None = []
holder_in d (Some b) = if b.level == d then b.before ∷ [] else []

abbrev pub holder_at : List Open → Row → List ℕ
holder_at bs (begins d k l key w) = holder_in d (innermost_def bs)
holder_at bs r = []

-- ---- the pass

abbrev pub sound_from : (file : ℕ) → List Open → (count : ℕ) → List Row → Sound
sound_from file bs n [] = record { holders = []; returned = []; stop = [] }
sound_from file bs n (r ∷ rs) =
    elim (row_fault file bs (next_level rs) r) [
      | Some f ↦ record { holders = []; returned = returned_at bs r; stop = f ∷ [] }
      | None ↦ and_sound (holder_at bs r) (returned_at bs r) (sound_from file (behind bs (next_level rs) n r) (suc n) rs)
    ]

-- the blocks that are open at the end
abbrev pub last_open : List Open → (count : ℕ) → List Row → List Open
last_open bs n [] = bs
last_open bs n (r ∷ rs) = last_open (behind bs (next_level rs) n r) (suc n) rs

abbrev pub left_open : (file : ℕ) → List Open → Option Fault
left_open file [] = None
left_open file (b ∷ bs) = Some (fault_on file kind.BlockOpen b.line)

abbrev pub fault_of : (file : ℕ) → Sound → (notes : List Fault) → (left : Option Fault) → Option Fault
fault_of file s notes left = first_of (earliest (s.stop ++ (return_faults s.holders s.returned ++ notes))) left

-- the fault that stands first; a block that is open at the end only where nothing else is wrong
unfoldable pub fault_by_levels : (file : ℕ) → List Row → Option Fault
fault_by_levels file rs = fault_of file (sound_from file [] 0 rs) (note_faults file rs) (left_open file (last_open [] 0 rs))
