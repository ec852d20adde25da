-- Texts in which no `return` and no `load` stands in an item of a block of which it is meant to be outside.
use Rattle.std.specs.Prelude.{Bool, false, not, ◌&&◌, ◌||◌, List, [], ◌∷◌, bytes_eq, Some, IsTrue}
use Rattle.code_spec.specs.Code.{Statement, load, return}
use Rattle.code_spec.specs.Program.{Instruction, statement}
use Rattle.template_spec.specs.Comments.{closes, statements}
use Rattle.template_spec.specs.Events.{Path, Event, begins, beside, says}
use Rattle.template_spec.specs.Misplaced.{innermost_def, is_collection_of, no_block}
use Rattle.template_spec.specs.Nesting.{innermost}
use Rattle.template_spec.specs.OpenBlocks.{Block, lies_in, belongs, next_item, open_blocks}

-- the collection is in an item that began in a block
abbrev pub is_in_block : Path → (past : List Event) → Bool
is_in_block c [] = false
is_in_block c (begins p k l ∷ es) = (lies_in c p && not (no_block (open_blocks es (Some p)))) || is_in_block c es
is_in_block c (beside p k b l s ∷ es) = is_in_block c es
is_in_block c (says l s ∷ es) = is_in_block c es

-- `return` belongs to its function's own collection, and `load` to one that is in no item of a block
abbrev pub StatementClear : (past : List Event) → List Block → Path → Statement → Type 0
StatementClear past bs c (return p e) = IsTrue (is_collection_of c (innermost_def bs))
StatementClear past bs c (load p path xs) = IsTrue (not (is_in_block c past))
StatementClear past bs c s = Unit {0}

abbrev pub StatementsClear : (past : List Event) → List Block → Path → List Instruction → Type 0
StatementsClear past bs c [] = Unit {0}
StatementsClear past bs c (statement s ∷ is) = StatementClear past bs c s × StatementsClear past bs c is
StatementsClear past bs c (i ∷ is) = StatementsClear past bs c is

abbrev pub Uncrossed : (past : List Event) → List Event → Type 0
Uncrossed past [] = Unit {0}
Uncrossed past (says l (statements is) ∷ es) =
    StatementsClear past (open_blocks past (next_item es)) (belongs (open_blocks past (next_item es)) (next_item es)) is × Uncrossed (says l (statements is) ∷ past) es
Uncrossed past (e ∷ es) = Uncrossed (e ∷ past) es

-- ---- ends

-- each `end` stands where a statement would belong to the collection of the `end`'s block, so in no item of that block
abbrev pub EndsClear : (past : List Event) → List Event → Type 0
EndsClear past [] = Unit {0}
EndsClear past (says l closes ∷ es) =
    IsTrue (bytes_eq (belongs (open_blocks past (next_item es)) (next_item es)) (innermost (open_blocks past (next_item es)))) × EndsClear (says l closes ∷ past) es
EndsClear past (e ∷ es) = EndsClear (e ∷ past) es

-- each `return` belongs to its function's own collection
abbrev pub ReturnsClear : List Block → Path → List Instruction → Type 0
ReturnsClear bs c [] = Unit {0}
ReturnsClear bs c (statement (return p e) ∷ is) = IsTrue (is_collection_of c (innermost_def bs)) × ReturnsClear bs c is
ReturnsClear bs c (i ∷ is) = ReturnsClear bs c is

abbrev pub AllReturnsClear : (past : List Event) → List Event → Type 0
AllReturnsClear past [] = Unit {0}
AllReturnsClear past (says l (statements is) ∷ es) =
    ReturnsClear (open_blocks past (next_item es)) (belongs (open_blocks past (next_item es)) (next_item es)) is × AllReturnsClear (says l (statements is) ∷ past) es
AllReturnsClear past (e ∷ es) = AllReturnsClear (e ∷ past) es
