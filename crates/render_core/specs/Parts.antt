-- What is held of files, in the parts that a run needs apart.
use Rattle.std.specs.Prelude.{◌≡◌, ℕ, suc, List, [], ◌∷◌, map as each}
use Rattle.code_spec.specs.Code.{Name}
use Rattle.code_spec.specs.Scopes.{ops_names}
use Rattle.file_load.specs.declared.programs.Program.{Program}
use Rattle.file_units.specs.Held.{block_of}
use Rattle.file_units.specs.declared.units.Content.{Content}
use Rattle.file_units.specs.declared.units.Content.TheVariants as content
use Rattle.star_functions.specs.declared.programs.FileBlock.{FileBlock}
use Rattle.star_resolve.specs.Variables.{each_once}
use Rattle.render_core.specs.declared.parts.Output.{Output}
use Rattle.render_core.specs.declared.parts.Output.TheVariants as output

-- the names of a file's scope; a file without code has none
abbrev pub scope_in : Content → List Name
scope_in (content.Template names) = names
scope_in (content.Library names) = names
scope_in (content.Documents trees) = []

-- what a file gives
abbrev pub gives_in : Content → Output
gives_in (content.Template names) = output.Built
gives_in (content.Library names) = output.Nothing
gives_in (content.Documents trees) = output.Documents trees

-- each file has its number, and a scope with its names
abbrev pub AreWhole : (first : ℕ) → List FileBlock → (scopes : List (List Name)) → Type 0
AreWhole n [] [] = Unit {0}
AreWhole n (b ∷ bs) (xs ∷ xss) = (b.file ≡ n) × (xs ≡ each_once (ops_names (block_of b))) × AreWhole (suc n) bs xss
AreWhole n _ _ = ⊥

-- ---- of programs

abbrev pub file_blocks : List Program → List FileBlock
file_blocks ps = each (λ p. p.block.now) ps

abbrev pub scopes_of : List Program → List (List Name)
scopes_of ps = each (λ p. p.scope.now) ps
