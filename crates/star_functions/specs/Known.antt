-- The functions of files, by the numbers of the files. Of files with the same number the first counts.
use Rattle.std.specs.Prelude.{ℕ, ◌==◌, List, [], ◌∷◌, Option, None, map as each, if◌then◌else◌}
use denote.Ref.{Bor}
use Rattle.code_spec.specs.Blocks.{Ops}
use Rattle.star_blocks.specs.Nested.{ops_of}
use Rattle.star_blocks.specs.declared.block.Op.{Op}
use Rattle.star_spec.specs.Calls.{Code, Table}
use Rattle.template_meaning.specs.Calls.{ops_function}
use Rattle.star_functions.specs.declared.programs.FileBlock.{FileBlock}

-- a file's number, and its block
abbrev pub File : Type 0
File = ℕ × List Op

-- what references point at
abbrev pub blocks_in : List (Bor FileBlock) → List FileBlock
blocks_in bs = each (λ b. b.now) bs

abbrev pub files_of : List FileBlock → List File
files_of bs = each (λ b. (b.file, b.block)) bs

-- the function of a file in front of others, or of these
abbrev pub known_before : FileBlock → (file number : ℕ) → Option (Code Ops) → Option (Code Ops)
known_before b f k more = if b.file == f then ops_function k (ops_of f b.block) else more

abbrev pub known : List File → Table Ops
known [] f k = None
known (b ∷ bs) f k = if b.0 == f then ops_function k (ops_of f b.1) else known bs f k
