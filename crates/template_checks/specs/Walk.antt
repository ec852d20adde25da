-- The pass over rows as it is made: a block's head is known by its form alone, and what comes next is known beforehand.
use Rattle.std.specs.Prelude.{◌≡◌, ℕ, suc, Bool, true, false, nat_lt, slice_index_or, ◌==◌, if◌then◌else◌, List, [], ◌∷◌, map as each, Option, Some, None}
use Rattle.std.specs.List.{list_any}
use Rattle.ytt_base.specs.declared.fault.Fault.{Fault}
use Rattle.ytt_base.specs.declared.fault.FaultKind.TheVariants as kind
use Rattle.ytt_base.specs.Outcomes.{fault_at, place_at}
use Rattle.code_spec.specs.Code.{Expr, name, no_parameters}
use Rattle.code_spec.specs.CodeReading.{Header, if_header, elif_header, else_header, for_header, def_header, end_header}
use Rattle.code_spec.specs.Program.{Instruction, statement}
use Rattle.template_spec.specs.Comments.{opens, elif, otherwise, closes}
use Rattle.template_spec.specs.Misplaced.{Returned, fault_on, line_of, option_list}
use Rattle.template_pass.specs.Building.{innermost}
use Rattle.template_pass.specs.Levels.{Open, behind, belongs, is_waiting, last_open, left_open, next_level, sound_from, statement_fault}
use Rattle.template_pass.specs.Rows.{Row, says}

-- ---- heads by their form

abbrev pub nothing : Expr
nothing = name (place_at 0 0) []

-- a head of the same form, without its code
abbrev pub same_form : Header → Header
same_form (if_header e) = if_header nothing
same_form (for_header x e) = for_header nothing nothing
same_form (def_header x ps) = def_header [] no_parameters
same_form (elif_header e) = end_header
same_form else_header = end_header
same_form end_header = end_header

abbrev pub bare : Open → Open
bare b = record b { header = same_form b.header }

abbrev pub bare_all : List Open → List Open
bare_all bs = each bare bs

abbrev pub bare_row : Row → Row
bare_row (says l (opens h z)) = says l (opens (same_form h) z)
bare_row r = r

-- ---- what comes behind each row

abbrev pub nexts_of : List Row → List (Option ℕ)
nexts_of [] = []
nexts_of (r ∷ rs) = next_level rs ∷ nexts_of rs

-- ---- faults

abbrev pub instruction_fault : List Open → (level : ℕ) → Instruction → Option Fault
instruction_fault bs d (statement s) = statement_fault bs d s
instruction_fault bs d i = None

-- the line of the innermost block, where it holds for one item that has not begun
abbrev pub waiting_line : List Open → Option ℕ
waiting_line [] = None
waiting_line (b ∷ bs) = if is_waiting b then Some b.line else None

-- nothing but notes and further such openers comes before the item of a block that waits for it
abbrev pub waiting_or : (file : ℕ) → (waiting : Option ℕ) → (may_wait : Bool) → Option Fault → Option Fault
waiting_or file None may f = f
waiting_or file (Some l) true f = f
waiting_or file (Some l) false f = Some (fault_on file kind.BlockOpen l)

-- the one that stands at the lesser line, and else the first
abbrev pub earlier : Option Fault → Option Fault → Option Fault
earlier None g = g
earlier (Some f) None = Some f
earlier (Some f) (Some g) = if nat_lt (line_of g) (line_of f) then Some g else Some f

-- the flag of a number; none is raised past the end
abbrev pub flag : List Bool → ℕ → Bool
flag flags n = slice_index_or flags n false

-- a `return` in a `def` whose flag is raised
abbrev pub flagged_faults : List Bool → List Returned → List Fault
flagged_faults flags [] = []
flagged_faults flags (r ∷ rs) = if flag flags r.within then fault_at kind.CodeForm r.place ∷ flagged_faults flags rs else flagged_faults flags rs

-- ---- where each row's mark goes

-- the level of what a row puts between items
abbrev pub mark_level : List Open → (next : Option ℕ) → Row → ℕ
mark_level bs next (says l (elif e)) = innermost bs
mark_level bs next (says l otherwise) = innermost bs
mark_level bs next (says l closes) = innermost bs
mark_level bs next r = belongs bs next

abbrev pub mark_levels : List Open → (count : ℕ) → List Row → List ℕ
mark_levels bs n [] = []
mark_levels bs n (r ∷ rs) = mark_level bs (next_level rs) r ∷ mark_levels (behind bs (next_level rs) n r) (suc n) rs

-- ---- what the pass finds

-- the `def`s that hold items, the `return`s and the fault that stopped it; and where nothing is wrong, the levels and the block that is
-- open at the end
pub record IsWalked (file : ℕ) (rs : List Row) (flags : List Bool) (returned : List Returned) (stop : Option Fault) (levels : List ℕ) (left : Option Fault) : Type 0 where
  pub flagged : (k : ℕ) → flag flags k ≡ list_any (λ h. h == k) (sound_from file [] 0 rs).holders
  pub returns : returned ≡ (sound_from file [] 0 rs).returned
  pub stops : option_list stop ≡ (sound_from file [] 0 rs).stop
  pub marked : stop ≡ None → levels ≡ mark_levels [] 0 rs
  pub last : stop ≡ None → left ≡ left_open file (last_open [] 0 rs)
