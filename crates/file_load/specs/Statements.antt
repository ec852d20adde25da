-- The load statements of a block, as the definitions list them.
use Rattle.std.specs.Prelude.{◌≡◌, ℕ, List, [], ◌∷◌, Option, Some, None}
use denote.Ref.{Bor}
use Rattle.star_blocks.specs.Nested.{op_of, ops_of}
use Rattle.star_blocks.specs.declared.block.Op.{Op}
use Rattle.star_blocks.specs.declared.block.Op as op
use Rattle.star_blocks.specs.declared.block.Statement.{Statement}
use Rattle.star_tree.specs.Whole.{loaded_names_of}
use Rattle.template_meaning.specs.Files as plain
use Rattle.template_meaning.specs.Files.{op_loads, ops_loads}
use Rattle.file_load.specs.declared.statements.Load.{Load}

abbrev pub load_in : Load → plain.Load
load_in l = record { place = l.place; path = l.path.now; names = loaded_names_of l.names.now }

-- the load statements that one part of a block of a file is: this one or none
abbrev pub loads_in : Option Load → List plain.Load
loads_in None = []
loads_in (Some l) = load_in l ∷ []

-- and it stands in the file
abbrev pub StandsIn : (file : ℕ) → Option Load → Type 0
StandsIn file None = Unit {0}
StandsIn file (Some l) = l.place.file ≡ file

abbrev pub IsLoad : (file : ℕ) → Op → Option Load → Type 0
IsLoad file o l = (op_loads (op_of file o) ≡ loads_in l) × StandsIn file l

abbrev pub StatementLoad : (file : ℕ) → Statement → Option Load → Type 0
StatementLoad file s o = IsLoad file (op.Code s) o

-- the first load statement of a block, and what stands behind it
abbrev pub NextLoad : (file : ℕ) → List Op → Option (Load × Bor (List Op)) → Type 0
NextLoad file os None = ops_loads (ops_of file os) ≡ []
NextLoad file os (Some r) = (ops_loads (ops_of file os) ≡ load_in r.0 ∷ ops_loads (ops_of file r.1.now)) × (r.0.place.file ≡ file)
