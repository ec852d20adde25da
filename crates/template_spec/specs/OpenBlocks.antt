-- Which blocks are open at a place of a template, and to which collection a statement or a block belongs there.
use Rattle.std.specs.Prelude.{ℕ, zero, suc, ◌-◌, Bool, true, false, not, ◌&&◌, if◌then◌else◌, List, [], ◌∷◌, length, drop, bytes_eq, Option, Some, None}
use Rattle.code_spec.specs.CodeReading.{Header}
use Rattle.template_spec.specs.Comments.{opens, otherwise, closes}
use Rattle.template_spec.specs.Events.{Path, Event, begins, beside, says}

-- the collection that holds an item
abbrev pub collection_of : Path → Path
collection_of p = drop 1 p

-- a collection is the other one, or lies below it
abbrev pub lies_in : (inner outer : Path) → Bool
lies_in c d = bytes_eq d (drop (length c - length d) c)

pub record Block : Type 0 where
  -- the collection to which its opener belongs
  pub collection : Path
  pub header : Header
  pub for_one : Bool
  pub line : ℕ
  -- the item for which alone it holds, once that has begun
  pub one : Option Path
  pub has_else : Bool
  -- how many events stand before its opener
  pub before : ℕ

-- A statement or an opener belongs to the collection that holds the next item, if no block is open or that collection
-- is the innermost open block's collection or lies below it; else to the innermost open block's collection, or to the
-- list of documents where no block is open.
abbrev pub belongs : List Block → (next : Option Path) → Path
belongs [] None = []
belongs [] (Some p) = collection_of p
belongs (b ∷ bs) None = b.collection
belongs (b ∷ bs) (Some p) = if lies_in (collection_of p) b.collection then collection_of p else b.collection

-- the item that begins first among these events
abbrev pub next_item : List Event → Option Path
next_item [] = None
next_item (begins p k l ∷ es) = Some p
next_item (beside p k b l s ∷ es) = next_item es
next_item (says l s ∷ es) = next_item es

abbrev pub first_of : {A : Type 0} → Option A → Option A → Option A
first_of None o = o
first_of (Some a) o = Some a

-- the text of an item is over where this item comes next, unless that is the item or stands in it
abbrev pub is_over : (one next : Option Path) → Bool
is_over None next = false
is_over (Some p) None = true
is_over (Some p) (Some q) = not (lies_in q p)

-- the blocks that are left where this item comes next: one for a single item goes with the item's text
abbrev pub left_at : (next : Option Path) → List Block → List Block
left_at next [] = []
left_at next (b ∷ bs) = if b.for_one && is_over b.one next then left_at next bs else b ∷ left_at next bs

abbrev pub if_begun : (has_begun : Bool) → Option Path → Option Path
if_begun true next = next
if_begun false next = None

-- The blocks that no `end` closes, innermost first; one for a single item stays among them also when that is over. The events are
-- given latest first. `next` is the item that begins first behind this place, and `has_begun` tells that it has by now.
-- `closed` counts the `end`s behind this place whose openers are still to come, and `has_else` tells that the next block
-- that takes an `else` has one. A block's collection is by the blocks that are open where its opener stands.
abbrev pub unclosed : (next : Option Path) → (has_begun : Bool) → (closed : ℕ) → (has_else : Bool) → List Event → List Block
unclosed q z n e [] = []
unclosed q z n e (begins p k l ∷ es) = unclosed (Some p) true n e es
unclosed q z n e (beside p k b l s ∷ es) = unclosed q z n e es
unclosed q z n e (says l closes ∷ es) = unclosed q z (suc n) e es
unclosed q z zero e (says l otherwise ∷ es) = unclosed q z zero true es
unclosed q z (suc n) e (says l (opens h false) ∷ es) = unclosed q z n e es
unclosed q z zero e (says l (opens h false) ∷ es) =
    let outer = unclosed q z zero false es in
    record { collection = belongs (left_at q outer) q; header = h; for_one = false; line = l; one = None; has_else = e; before = length es } ∷ outer
unclosed q z zero e (says l (opens h true) ∷ es) =
    let outer = unclosed q z zero e es in
    record { collection = belongs (left_at q outer) q; header = h; for_one = true; line = l; one = if_begun z q; has_else = false; before = length es } ∷ outer
unclosed q z n e (says l s ∷ es) = unclosed q z n e es

-- the blocks that are open behind these events, given latest first, where this item comes next
abbrev pub open_blocks : (past : List Event) → (next : Option Path) → List Block
open_blocks past next = left_at next (unclosed next false zero false past)

-- how many items of a collection have begun
abbrev pub so_far : Path → (past : List Event) → ℕ
so_far c [] = 0
so_far c (begins p k l ∷ es) = if bytes_eq (collection_of p) c then suc (so_far c es) else so_far c es
so_far c (beside p k b l s ∷ es) = so_far c es
so_far c (says l s ∷ es) = so_far c es
