-- Units as a program holds them.
use Rattle.std.specs.Prelude.{◌≡◌, ℕ, suc, ◌==◌, List, [], ◌∷◌, Option, Some, if◌then◌else◌}
use Rattle.ytt_base.specs.Trees.{Trees}
use Rattle.code_spec.specs.Blocks.{Ops, no_ops, blocks}
use Rattle.template_spec.specs.Compiled.{compiled}
use Rattle.template_spec.specs.ControlWords.{WordsStand, free}
use Rattle.template_spec.specs.Template.{Items, no_items}
use Rattle.world_spec.specs.Units.{FileUnit, Role, Source, code, plain}

-- a program's blocks with its file's number, or documents; that a program's scope has the names of its file is a clause of its own
pub data HeldCode : Type 0 where
  program : (file : ℕ) → Ops → HeldCode
  documents : Trees → HeldCode

pub record HeldUnit : Type 0 where
  pub name : List ℕ
  pub role : Role
  pub code : HeldCode

-- A program of a file with a number, whose blocks are those of these items compiled, in which no word leaves a node: of a template it is
-- the template compiled, and of a file of code its own statements.
pub record IsProgramFor (n : ℕ) (t : Items) (file : ℕ) (os : Ops) : Type 0 where
  pub file_is : file ≡ n
  pub blocks_are : Some os ≡ blocks (compiled t)
  pub words_stand : WordsStand free t

abbrev pub Holds : (n : ℕ) → Source → HeldCode → Type 0
Holds n (code t) (program f os) = IsProgramFor n t f os
Holds n (plain ts) (documents us) = us ≡ ts
Holds n _ _ = ⊥

pub record IsUnit (n : ℕ) (u : FileUnit) (h : HeldUnit) : Type 0 where
  pub name_is : h.name ≡ u.name
  pub role_is : h.role ≡ u.role
  pub holds : Holds n u.source h.code

-- units in the order of their numbers
abbrev pub AreUnits : (first : ℕ) → List FileUnit → List HeldUnit → Type 0
AreUnits n [] [] = Unit {0}
AreUnits n (u ∷ us) (h ∷ hs) = IsUnit n u h × AreUnits (suc n) us hs
AreUnits n _ _ = ⊥

-- ---- what a run sees of them

abbrev pub blocks_of_code : HeldCode → Option Ops
blocks_of_code (program f os) = Some os
blocks_of_code (documents ts) = Some no_ops

-- the blocks of all files by their numbers; a file without code, and a number of no file, have none
abbrev pub blocks_from : (first : ℕ) → List HeldUnit → (file : ℕ) → Option Ops
blocks_from n [] f = Some no_ops
blocks_from n (h ∷ hs) f = if f == n then blocks_of_code h.code else blocks_from (suc n) hs f

abbrev pub blocks_held : List HeldUnit → (file : ℕ) → Option Ops
blocks_held hs = blocks_from 1 hs

-- their names, what they are for, and documents; a run goes by blocks, and looks at no items
abbrev pub source_seen : HeldCode → Source
source_seen (program f os) = code no_items
source_seen (documents ts) = plain ts

abbrev pub units_seen : List HeldUnit → List FileUnit
units_seen [] = []
units_seen (h ∷ hs) = record { name = h.name; role = h.role; source = source_seen h.code } ∷ units_seen hs
