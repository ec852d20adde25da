-- The blocks of a program.
use Rattle.std.specs.Prelude.{ℕ, List, [], ◌∷◌, Option, Some, None}
use Rattle.ytt_base.specs.declared.fault.Place.{Place}
use Rattle.code_spec.specs.Code.{Name, Expr, Parameters, Statement}
use Rattle.code_spec.specs.Program.{ItemKind, NodePart, Instruction, part, statement, begin_if, begin_elif, begin_else, begin_for, begin_def, close}

-- a program cut into its blocks; the parts of a node stay in one row
mutual
  pub data Op : Type 0 where
    op_part : NodePart → Op
    op_statement : Statement → Op
    op_if : Place → Arms → Op
    op_for : Place → (target members : Expr) → Ops → Op
    op_def : Place → (number : ℕ) → (fragment : Option ItemKind) → Name → Parameters → Ops → Op

  pub data Ops : Type 0 where
    no_ops : Ops
    an_op : Op → Ops → Ops

  -- the branches of an `if`
  pub data Arms : Type 0 where
    no_arm : Arms
    else_arm : Ops → Arms
    arm : Expr → Ops → Arms → Arms

-- what is read of a program from its end: the ops so far, in the blocks that are closed further on
pub data Parsed : Type 0 where
  broken : Parsed
  at_top : Ops → Parsed
  inside : Ops → Arms → Parsed → Parsed

abbrev pub put : Op → Parsed → Parsed
put o broken = broken
put o (at_top os) = at_top (an_op o os)
put o (inside os arms outer) = inside (an_op o os) arms outer

abbrev pub open_if : Place → Expr → Parsed → Parsed
open_if p e broken = broken
open_if p e (at_top os) = broken
open_if p e (inside os arms outer) = put (op_if p (arm e os arms)) outer

abbrev pub next_arm : Expr → Parsed → Parsed
next_arm e broken = broken
next_arm e (at_top os) = broken
next_arm e (inside os arms outer) = inside no_ops (arm e os arms) outer

abbrev pub last_arm : Parsed → Parsed
last_arm (inside os no_arm outer) = inside no_ops (else_arm os) outer
last_arm _ = broken

abbrev pub open_block : (Ops → Op) → Parsed → Parsed
open_block f (inside os no_arm outer) = put (f os) outer
open_block f _ = broken

abbrev pub parse : List Instruction → Parsed
parse [] = at_top no_ops
parse (part o ∷ is) = put (op_part o) (parse is)
parse (statement s ∷ is) = put (op_statement s) (parse is)
parse (begin_if p e ∷ is) = open_if p e (parse is)
parse (begin_elif p e ∷ is) = next_arm e (parse is)
parse (begin_else p ∷ is) = last_arm (parse is)
parse (begin_for p x e ∷ is) = open_block (op_for p x e) (parse is)
parse (begin_def p n fragment x ps ∷ is) = open_block (op_def p n fragment x ps) (parse is)
parse (close p ∷ is) = inside no_ops no_arm (parse is)

abbrev pub whole : Parsed → Option Ops
whole (at_top os) = Some os
whole _ = None

-- the blocks of a program, if each block is closed where it should be
abbrev pub blocks : List Instruction → Option Ops
blocks is = whole (parse is)
