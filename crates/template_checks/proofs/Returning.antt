-- Statements one after another.
use Rattle.std.proofs.Common.{◌≡◌, ℕ, List, [], ◌∷◌, ◌++◌, Option, Some, None, refl}
use Rattle.code_spec.specs.Code.{evaluate, assign, augment, load, return, break, continue, pass}
use Rattle.code_spec.specs.Program.{Instruction, part, statement, begin_if, begin_elif, begin_else, begin_for, begin_def, close}
use Rattle.template_spec.specs.OpenBlocks.{first_of}
use Rattle.template_pass.specs.Levels.{Open, returned_in, statements_fault}
use Rattle.template_checks.specs.Walk.{instruction_fault}

pub statements_split : (bs : List Open) (d : ℕ) (i : Instruction) (is : List Instruction) → statements_fault bs d (i ∷ is) ≡ first_of (instruction_fault bs d i) (statements_fault bs d is)
statements_split bs d (part o) is = refl
statements_split bs d (statement s) is = refl
statements_split bs d (begin_if p e) is = refl
statements_split bs d (begin_elif p e) is = refl
statements_split bs d (begin_else p) is = refl
statements_split bs d (begin_for p x e) is = refl
statements_split bs d (begin_def p n f x ps) is = refl
statements_split bs d (close p) is = refl

pub returns_split : (o : Option Open) (i : Instruction) (is : List Instruction) → returned_in o (i ∷ is) ≡ returned_in o (i ∷ []) ++ returned_in o is
returns_split None i is = refl
returns_split (Some b) (part o) is = refl
returns_split (Some b) (statement (evaluate p e)) is = refl
returns_split (Some b) (statement (assign p x e)) is = refl
returns_split (Some b) (statement (augment p o q x e)) is = refl
returns_split (Some b) (statement (load p path xs)) is = refl
returns_split (Some b) (statement (return p e)) is = refl
returns_split (Some b) (statement (break p)) is = refl
returns_split (Some b) (statement (continue p)) is = refl
returns_split (Some b) (statement (pass p)) is = refl
returns_split (Some b) (begin_if p e) is = refl
returns_split (Some b) (begin_elif p e) is = refl
returns_split (Some b) (begin_else p) is = refl
returns_split (Some b) (begin_for p x e) is = refl
returns_split (Some b) (begin_def p n f x ps) is = refl
returns_split (Some b) (close p) is = refl

pub returned_none : (is : List Instruction) → returned_in None is ≡ []
returned_none [] = refl
returned_none (i ∷ is) = refl

pub ruleset returning = (returns_split, returned_none)
