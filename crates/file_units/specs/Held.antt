-- What is held of units: the block of each file, by its number, and what the file gives.
use Rattle.std.specs.Prelude.{◌≡◌, ℕ, suc, List, [], ◌∷◌}
use Rattle.ytt_base.specs.View.{trees_of}
use Rattle.code_spec.specs.Blocks.{Ops, no_ops}
use Rattle.code_spec.specs.Scopes.{ops_names}
use Rattle.star_blocks.specs.Nested.{ops_of}
use Rattle.star_functions.specs.declared.programs.FileBlock.{FileBlock}
use Rattle.star_resolve.specs.Variables.{each_once}
use Rattle.world_spec.specs.Held.{HeldCode, Holds, documents, program}
use Rattle.world_spec.specs.Units.{FileUnit, Role, loaded, template}
use Rattle.file_units.specs.declared.units.Content.{Content}
use Rattle.file_units.specs.declared.units.Content.TheVariants as content

abbrev pub block_of : FileBlock → Ops
block_of b = ops_of b.file b.block

-- what a file is for
abbrev pub role_in : Content → Role
role_in (content.Template names) = template
role_in (content.Library names) = loaded
role_in (content.Documents trees) = template

-- what it holds
abbrev pub code_in : FileBlock → Content → HeldCode
code_in b (content.Documents trees) = documents (trees_of trees)
code_in b _ = program b.file (block_of b)

pub record IsHeld (n : ℕ) (u : FileUnit) (b : FileBlock) (c : Content) : Type 0 where
  pub role_is : role_in c ≡ u.role
  pub holds : Holds n u.source (code_in b c)

-- in the order of their numbers, from this one on
abbrev pub AreHeld : (first : ℕ) → List FileUnit → List FileBlock → List Content → Type 0
AreHeld n [] [] [] = Unit {0}
AreHeld n (u ∷ us) (b ∷ bs) (c ∷ cs) = IsHeld n u b c × AreHeld (suc n) us bs cs
AreHeld n _ _ _ = ⊥

-- the scope of a file's block has its names; a file without code has no block
abbrev pub IsWhole : FileBlock → Content → Type 0
IsWhole b (content.Template names) = names ≡ each_once (ops_names (block_of b))
IsWhole b (content.Library names) = names ≡ each_once (ops_names (block_of b))
IsWhole b (content.Documents trees) = block_of b ≡ no_ops

-- each file has its number, and is whole
abbrev pub MayRun : (first : ℕ) → List FileBlock → List Content → Type 0
MayRun n [] [] = Unit {0}
MayRun n (b ∷ bs) (c ∷ cs) = (b.file ≡ n) × IsWhole b c × MayRun (suc n) bs cs
MayRun n _ _ = ⊥
