-- The programs of the files of a run, and what of them a run goes by.
use Rattle.std.specs.Prelude.{◌≡◌, ℕ, suc, ◌==◌, List, [], ◌∷◌, map as each, Option, Some, None, if◌then◌else◌}
use Rattle.code_spec.specs.Blocks.{Ops, no_ops}
use Rattle.code_spec.specs.Scopes.{ops_names}
use Rattle.star_eval.specs.FileRun.{block_of}
use Rattle.star_resolve.specs.Variables.{each_once}
use Rattle.world_spec.specs.Paths.{name_at, number_from}
use Rattle.file_load.specs.declared.programs.Program.{Program}

abbrev pub names_in : List Program → List (List ℕ)
names_in ps = each (λ p. p.name.now) ps

-- its number, and its scope has the names of its file
pub record IsRunnable (n : ℕ) (p : Program) : Type 0 where
  pub file_is : p.block.now.file ≡ n
  pub scope : p.scope.now ≡ each_once (ops_names (block_of p.block.now))

-- in the order of their numbers
abbrev pub AreRunnable : (first : ℕ) → List Program → Type 0
AreRunnable n [] = Unit {0}
AreRunnable n (p ∷ ps) = IsRunnable n p × AreRunnable (suc n) ps

-- the blocks of all files by their numbers; a number of no file has none
abbrev pub blocks_from : (first : ℕ) → List Program → (file : ℕ) → Option Ops
blocks_from n [] f = Some no_ops
blocks_from n (p ∷ ps) f = if f == n then Some (block_of p.block.now) else blocks_from (suc n) ps f

-- one of these programs: what its number says of its name and of its blocks
pub record Stands (ps : List Program) (p : Program) : Type 0 where
  pub name : name_at (names_in ps) p.block.now.file ≡ p.name.now
  pub block : blocks_from 1 ps p.block.now.file ≡ Some (block_of p.block.now)
  pub scope : p.scope.now ≡ each_once (ops_names (block_of p.block.now))

-- the first one of a file with this name, if there is one
abbrev pub Finds : List Program → (name : List ℕ) → Option Program → Type 0
Finds ps x None = number_from 1 x (names_in ps) ≡ None
Finds ps x (Some p) = (number_from 1 x (names_in ps) ≡ Some p.block.now.file) × Stands ps p
