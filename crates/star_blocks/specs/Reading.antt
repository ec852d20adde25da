-- What is read of a program from its end.
use Rattle.std.specs.Prelude.{◌≡◌, ℕ, List, [], ◌∷◌, Option, Some, None, reverse}
use Rattle.std.specs.declared.alloc.Global.{Global}
use Rattle.std.specs.declared.vec.Vec.{Vec}
use Rattle.code_spec.specs.Blocks as blocks
use Rattle.code_spec.specs.Blocks.{Ops, no_ops, Arms, no_arm, Parsed, broken, at_top, inside, put, open_if, next_arm, last_arm, open_block, op_part, op_statement, op_for, op_def}
use Rattle.code_spec.specs.Program.{Instruction, part, statement, begin_if, begin_elif, begin_else, begin_for, begin_def, close}
use Rattle.star_blocks.specs.Nested.{ops_of, arms_of}
use Rattle.star_blocks.specs.declared.block.Op.{Op}
use Rattle.star_blocks.specs.declared.level.Level.{Level}
use Rattle.star_blocks.specs.declared.level.Reading.{Reading}

-- what stands in no block
abbrev pub top_of : (file : ℕ) → Option (Vec Op Global) → Parsed
top_of file None = broken
top_of file (Some os) = at_top (ops_of file (reverse os.items))

-- the blocks that are closed further on, the innermost first, and what stands in none
abbrev pub inner_of : (file : ℕ) → Option (Vec Op Global) → List Level → Parsed
inner_of file top [] = top_of file top
inner_of file top (l ∷ ls) = inside (ops_of file (reverse l.ops.items)) (arms_of file (reverse l.arms.items)) (inner_of file top ls)

-- as the program holds it, with what is first here at the end
abbrev pub parsed_of : (file : ℕ) → Reading → Parsed
parsed_of file r = inner_of file r.top (reverse r.inner)

-- one instruction more
abbrev pub read_one : Instruction → Parsed → Parsed
read_one (part o) p = put (op_part o) p
read_one (statement s) p = put (op_statement s) p
read_one (begin_if at e) p = open_if at e p
read_one (begin_elif at e) p = next_arm e p
read_one (begin_else at) p = last_arm p
read_one (begin_for at x e) p = open_block (op_for at x e) p
read_one (begin_def at n fragment x ps) p = open_block (op_def at n fragment x ps) p
read_one (close at) p = inside no_ops no_arm p

-- where no block is one that a loop, a function or the last branch of an `if` may hold
pub record Refused (old new : Parsed) : Type 0 where
  pub after : new ≡ broken
  pub block : (f : Ops → blocks.Op) → open_block f old ≡ broken
  pub branch : last_arm old ≡ broken

-- the innermost block, if no branch stands behind it
abbrev pub Taken : (file : ℕ) → Option (List Op) → (old new : Parsed) → Type 0
Taken file (Some os) old new = old ≡ inside (ops_of file os) no_arm new
Taken file None old new = Refused old new
