-- How the stack of levels stands to the blocks that are open, where nothing was wrong so far.
use Rattle.std.specs.Prelude.{◌≡◌, ℕ, suc, ◌≤◌, List, [], ◌∷◌, length, map as each, Option, Some, None, IsTrue}
use Rattle.template_spec.specs.Events.{Path, Event, begins, beside, says}
use Rattle.template_spec.specs.OpenBlocks.{collection_of, lies_in, Block, open_blocks, so_far}
use Rattle.template_pass.specs.Flat.{a_map}
use Rattle.template_pass.specs.Levels.{Open}
use Rattle.template_pass.specs.Rows as row
use Rattle.template_pass.specs.Rows.{Row, level_of}

abbrev pub level_at : Option Path → Option ℕ
level_at None = None
level_at (Some p) = Some (level_of p)

-- a block by levels
abbrev pub seen : Block → Open
seen b = record { level = length b.collection; header = b.header; for_one = b.for_one; line = b.line; one = level_at b.one; has_else = b.has_else; before = b.before }

-- an event by levels, without a key and what is written
abbrev pub row_of : Event → Row
row_of (begins p k l) = row.begins (level_of p) k l None a_map
row_of (beside p k b l s) = row.beside (level_of p) k b l s
row_of (says l s) = row.says l s

-- the item that began last
abbrev pub last_behind : (last : Path) → Event → Path
last_behind q (begins p k l) = p
last_behind q e = q

-- The collections of these blocks are ones that the last item is in, each in that of the block around it, and the innermost of no
-- more than this level.
abbrev pub Around : (last : Path) → (most : ℕ) → List Block → Type 0
Around q m [] = Unit {0}
Around q m (b ∷ bs) = IsTrue (lies_in q b.collection) × (length b.collection ≤ m) × Around q (length b.collection) bs

-- something holds of each item that has begun
abbrev pub Began : (Path → Type 0) → (past : List Event) → Type 0
Began P [] = Unit {0}
Began P (begins p k l ∷ es) = P p × Began P es
Began P (beside p k b l s ∷ es) = Began P es
Began P (says l s ∷ es) = Began P es

-- the item is one of those of its collection that have begun
abbrev pub Numbered : (past : List Event) → Path → Type 0
Numbered past p = (n : ℕ) × (c : Path) × (p ≡ n ∷ c) × (suc n ≤ so_far c past)

-- the item that comes is the next one of a collection that the last one is in
abbrev pub Coming : (last : Path) → (past : List Event) → (next : Option Path) → Type 0
Coming q past None = Unit {0}
Coming q past (Some p) = IsTrue (lies_in q (collection_of p)) × (p ≡ so_far (collection_of p) past ∷ collection_of p)

-- behind these events, with the item that began last and the one that comes, this is the stack
pub record Standing (last : Path) (past : List Event) (next : Option Path) (bs : List Open) : Type 0 where
  pub stack : bs ≡ each seen (open_blocks past next)
  pub around : Around last (length last) (open_blocks past next)
  pub numbered : Began (Numbered past) past
  pub coming : Coming last past next
