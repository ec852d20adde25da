-- What is read of a program's names from its end.
use Rattle.std.specs.Prelude.{List, [], ◌∷◌, ◌++◌, reverse}
use Rattle.code_spec.specs.Code.{Name}
use Rattle.code_spec.specs.Names.{target_names, statement_names}
use Rattle.code_spec.specs.Program.{Instruction, part, statement, begin_if, begin_elif, begin_else, begin_for, begin_def, close}
use Rattle.code_spec.specs.Allowed.{parameter_names}
use Rattle.star_resolve.specs.declared.gather.Blocks.{Blocks}

-- the names so far of the blocks that are closed further on, the innermost first, each from its end; and the names that
-- each function binds, in text order
pub record Gathered : Type 0 where
  pub inner : List (List Name)
  pub functions : List (List Name)

abbrev pub front : List (List Name) → List Name
front [] = []
front (xs ∷ more) = xs

abbrev pub behind : List (List Name) → List (List Name)
behind [] = []
behind (xs ∷ more) = more

-- names in front of those of the innermost block
abbrev pub with_names : List Name → List (List Name) → List (List Name)
with_names xs [] = []
with_names xs (ys ∷ more) = (ys ++ reverse xs) ∷ more

-- the names of a block that is no function's are those of the block around it
abbrev pub merged : List (List Name) → List (List Name)
merged (xs ∷ ys ∷ more) = (ys ++ xs) ∷ more
merged _ = []

abbrev pub with_function : List Name → Gathered → Gathered
with_function parameters g = record { inner = behind g.inner; functions = (parameters ++ reverse (front g.inner)) ∷ g.functions }

abbrev pub bind : List Name → Gathered → Gathered
bind xs g = record g { inner = with_names xs g.inner }

-- the names that an instruction binds where it stands
abbrev pub own_names : Instruction → List Name
own_names (part o) = []
own_names (statement s) = statement_names s
own_names (begin_if p e) = []
own_names (begin_elif p e) = []
own_names (begin_else p) = []
own_names (begin_for p x e) = target_names x
own_names (begin_def p number fragment x ps) = x ∷ []
own_names (close p) = []

-- the block that it begins has been read whole
abbrev pub begun_by : Instruction → Gathered → Gathered
begun_by (part o) g = g
begun_by (statement s) g = g
begun_by (begin_if p e) g = record g { inner = merged g.inner }
begun_by (begin_elif p e) g = g
begun_by (begin_else p) g = g
begun_by (begin_for p x e) g = record g { inner = merged g.inner }
begun_by (begin_def p number fragment x ps) g = with_function (parameter_names ps) g
begun_by (close p) g = record g { inner = [] ∷ g.inner }

abbrev pub gather : Instruction → Gathered → Gathered
gather i g = bind (own_names i) (begun_by i g)

abbrev pub gathered : List Instruction → Gathered
gathered [] = record { inner = [] ∷ []; functions = [] }
gathered (i ∷ is) = gather i (gathered is)

-- as the program holds it, with what is first here at the end
abbrev pub gathered_of : Blocks → Gathered
gathered_of b = record { inner = reverse b.inner; functions = reverse b.functions }

-- the names of the file, and those of each function in it
abbrev pub all_names : List Instruction → List (List Name)
all_names is = reverse (front (gathered is).inner) ∷ (gathered is).functions
