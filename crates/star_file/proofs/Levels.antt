-- Statements of which each block is closed, as they are read one after another: what is open behind each.
use Rattle.std.proofs.Common.{◌≡◌, ℕ, List, [], ◌∷◌, ◌++◌, Option, Some, None, refl, ap, ◌∙◌}
use Rattle.ytt_base.specs.declared.fault.Place.{Place}
use Rattle.code_spec.specs.Blocks.{Op, Ops, op_statement, op_if, op_for, op_def, Arms, no_arm, else_arm, arm, Parsed, broken, at_top, inside, put, open_if, next_arm, last_arm, open_block, parse, whole}
use Rattle.code_spec.specs.Code.{Expr}
use Rattle.code_spec.specs.Program.{Instruction, part, statement, begin_if, begin_elif, begin_else, begin_for, begin_def, close}
use Rattle.template_spec.specs.Numbered.{number_instruction, number_program, numbered_program}
use Rattle.world_spec.specs.Laws.{AreCodeBlocks}
use Rattle.world_spec.specs.StarFiles.{AreCode, AreFurther, IsCode}

-- a block that is open: that of a branch behind which others may begin, or another
pub data Level : Type 0 where
  branch : Level
  block : Level

abbrev pub Levels : Type 0
Levels = List Level

abbrev pub opened : Level → Levels → Option Levels
opened l ls = Some (l ∷ ls)

abbrev pub next_branch : Level → Levels → Option Levels
next_branch l (branch ∷ ls) = Some (l ∷ ls)
next_branch l ls = None

abbrev pub closed : Levels → Option Levels
closed [] = None
closed (l ∷ ls) = Some ls

-- no function builds items
abbrev pub defined : {A : Type 0} → Option A → Levels → Option Levels
defined None ls = opened block ls
defined (Some k) ls = None

-- what is open behind an instruction, if it may stand there
abbrev pub step : Instruction → Levels → Option Levels
step (part o) ls = None
step (statement s) ls = Some ls
step (begin_if p e) ls = opened branch ls
step (begin_elif p e) ls = next_branch branch ls
step (begin_else p) ls = next_branch block ls
step (begin_for p x e) ls = opened block ls
step (begin_def p n fragment x ps) ls = defined fragment ls
step (close p) ls = closed ls

abbrev pub step_from : Instruction → Option Levels → Option Levels
step_from i None = None
step_from i (Some ls) = step i ls

-- what is open behind all of these
abbrev pub run : List Instruction → Option Levels → Option Levels
run [] o = o
run (i ∷ is) o = run is (step_from i o)

pub run_more : (is : List Instruction) (i : Instruction) (o : Option Levels) → run (is ++ i ∷ []) o ≡ step_from i (run is o)
run_more [] i o = refl
run_more (j ∷ is) i o = run_more is i (step_from j o)

-- ---- numbers change nothing of it

step_numbered : (i : Instruction) (n : ℕ) (o : Option Levels) → step_from (number_instruction i n).result o ≡ step_from i o
step_numbered i n None = refl
step_numbered (part o) n (Some ls) = refl
step_numbered (statement s) n (Some ls) = refl
step_numbered (begin_if p e) n (Some ls) = refl
step_numbered (begin_elif p e) n (Some ls) = refl
step_numbered (begin_else p) n (Some ls) = refl
step_numbered (begin_for p x e) n (Some ls) = refl
step_numbered (begin_def p k fragment x ps) n (Some ls) = refl
step_numbered (close p) n (Some ls) = refl

run_numbered : (is : List Instruction) (n : ℕ) (o : Option Levels) → run (number_program is n).result o ≡ run is o
run_numbered [] n o = refl
run_numbered (i ∷ is) n o = run_numbered is (number_instruction i n).next (step_from (number_instruction i n).result o) ∙ ap (run is) (step_numbered i n o)

-- ---- what is read of them from their end

abbrev AreArms : Level → Arms → Type 0
AreArms branch arms = AreFurther arms
AreArms block arms = arms ≡ no_arm

-- the blocks that are open before them are those that are closed in them
abbrev Fits : Levels → Parsed → Type 0
Fits [] (at_top os) = AreCode os
Fits (l ∷ ls) (inside os arms outer) = AreCode os × AreArms l arms × Fits ls outer
Fits ls r = ⊥

nowhere : (is : List Instruction) (ls : Levels) → run is None ≡ Some ls → ⊥
nowhere [] ls e = cc
nowhere (i ∷ is) ls e = nowhere is ls e

none_left : (l : Level) (ls : Levels) → ◌≡◌ {A = Option Levels} (Some (l ∷ ls)) (Some []) → ⊥
none_left l ls e = cc

put_fits : (ls : Levels) (r : Parsed) (o : Op) → IsCode o → Fits ls r → Fits ls (put o r)
put_fits [] (at_top os) o c h = (c, h)
put_fits (l ∷ ls) (inside os arms outer) o c h = ((c, h.0), h.1, h.2)
put_fits [] broken o c h = absurd h
put_fits [] (inside os arms outer) o c h = absurd h
put_fits (l ∷ ls) broken o c h = absurd h
put_fits (l ∷ ls) (at_top os) o c h = absurd h

if_fits : (p : Place) (e : Expr) (ls : Levels) (r : Parsed) → Fits (branch ∷ ls) r → Fits ls (open_if p e r)
if_fits p e ls (inside os arms outer) h = put_fits ls outer (op_if p (arm e os arms)) (h.0, h.1) h.2
if_fits p e ls broken h = absurd h
if_fits p e ls (at_top os) h = absurd h

elif_fits : (e : Expr) (ls : Levels) (r : Parsed) → Fits (branch ∷ ls) r → Fits (branch ∷ ls) (next_arm e r)
elif_fits e ls (inside os arms outer) h = (tt, (h.0, h.1), h.2)
elif_fits e ls broken h = absurd h
elif_fits e ls (at_top os) h = absurd h

some_arm : (os : Ops) → else_arm os ≡ no_arm → ⊥
some_arm os e = cc

one_arm : (e : Expr) (os : Ops) (more : Arms) → arm e os more ≡ no_arm → ⊥
one_arm e os more h = cc

else_fits : (ls : Levels) (r : Parsed) → Fits (block ∷ ls) r → Fits (branch ∷ ls) (last_arm r)
else_fits ls (inside os no_arm outer) h = (tt, h.0, h.2)
else_fits ls (inside os (else_arm qs) outer) h = absurd (some_arm qs h.1)
else_fits ls (inside os (arm e qs more) outer) h = absurd (one_arm e qs more h.1)
else_fits ls broken h = absurd h
else_fits ls (at_top os) h = absurd h

block_fits : (f : Ops → Op) (ls : Levels) (r : Parsed) → ((os : Ops) → AreCode os → IsCode (f os)) → Fits (block ∷ ls) r → Fits ls (open_block f r)
block_fits f ls (inside os no_arm outer) g h = put_fits ls outer (f os) (g os h.0) h.2
block_fits f ls (inside os (else_arm qs) outer) g h = absurd (some_arm qs h.1)
block_fits f ls (inside os (arm e qs more) outer) g h = absurd (one_arm e qs more h.1)
block_fits f ls broken g h = absurd h
block_fits f ls (at_top os) g h = absurd h

no_arms : (l : Level) → AreArms l no_arm
no_arms branch = tt
no_arms block = refl

fits : (is : List Instruction) (ls : Levels) → run is (Some ls) ≡ Some [] → Fits ls (parse is)
fits [] [] e = tt
fits [] (l ∷ ls) e = absurd (none_left l ls e)
fits (part o ∷ is) ls e = absurd (nowhere is [] e)
fits (statement s ∷ is) ls e = put_fits ls (parse is) (op_statement s) tt (fits is ls e)
fits (begin_if p x ∷ is) ls e = if_fits p x ls (parse is) (fits is (branch ∷ ls) e)
fits (begin_elif p x ∷ is) [] e = absurd (nowhere is [] e)
fits (begin_elif p x ∷ is) (branch ∷ ls) e = elif_fits x ls (parse is) (fits is (branch ∷ ls) e)
fits (begin_elif p x ∷ is) (block ∷ ls) e = absurd (nowhere is [] e)
fits (begin_else p ∷ is) [] e = absurd (nowhere is [] e)
fits (begin_else p ∷ is) (branch ∷ ls) e = else_fits ls (parse is) (fits is (block ∷ ls) e)
fits (begin_else p ∷ is) (block ∷ ls) e = absurd (nowhere is [] e)
fits (begin_for p x m ∷ is) ls e = block_fits (op_for p x m) ls (parse is) (λ os h. h) (fits is (block ∷ ls) e)
fits (begin_def p n None x ps ∷ is) ls e = block_fits (op_def p n None x ps) ls (parse is) (λ os h. (refl, h)) (fits is (block ∷ ls) e)
fits (begin_def p n (Some k) x ps ∷ is) ls e = absurd (nowhere is [] e)
fits (close p ∷ is) [] e = absurd (nowhere is [] e)
fits (close p ∷ is) (l ∷ ls) e = (tt, no_arms l, fits is ls e)

closed_whole : (r : Parsed) → Fits [] r → (os : Ops) × (whole r ≡ Some os) × AreCode os
closed_whole (at_top os) h = (os, refl, h)
closed_whole broken h = absurd h
closed_whole (inside os arms outer) h = absurd h

-- statements behind which nothing is open have blocks of code
pub closed_blocks : (is : List Instruction) → run is (Some []) ≡ Some [] → AreCodeBlocks is
closed_blocks is e =
    let w = closed_whole (parse (numbered_program is)) (fits (numbered_program is) [] (run_numbered is 0 (Some []) ∙ e)) in
    record { ops = w.0; blocks_are = w.1; code = w.2 }
