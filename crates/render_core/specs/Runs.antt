-- What files do that are held: the documents of each, by what its block comes to.
use Rattle.std.specs.Prelude.{◌≡◌, ℕ, suc, List, [], ◌∷◌, length, Result, Ok, Err}
use Rattle.ytt_base.specs.Trees.{Trees, no_trees}
use Rattle.ytt_base.specs.View.{trees_of}
use Rattle.ytt_base.specs.declared.fault.Stop.{Stop}
use Rattle.ytt_base.specs.declared.fault.Stop.TheVariants as stop
use Rattle.ytt_base.specs.declared.tree.Tree.{Tree}
use Rattle.file_load.specs.Gave.{OwnsGiven}
use Rattle.file_load.specs.Running.{file_at}
use Rattle.file_load.specs.Seen.{setting_of, world_of}
use Rattle.file_load.specs.declared.given.Given.{Given}
use Rattle.file_load.specs.declared.programs.Program.{Program}
use Rattle.star_eval.specs.Meets.{arena_of}
use Rattle.star_eval.specs.declared.session.Session.{Session}
use Rattle.star_functions.specs.Table.{table_of}
use Rattle.star_functions.specs.declared.functions.Functions.{Functions}
use Rattle.template_meaning.specs.Files.{FileResult}
use Rattle.template_meaning.specs.Meaning.{documents}
use Rattle.value_spec.specs.Outcomes.{State, Ending, done, bad, Computation, give, ◌>>=◌}
use Rattle.world_spec.specs.Parts.{Files, World, trees_before}
use Rattle.render_core.specs.declared.parts.Output.{Output}
use Rattle.render_core.specs.declared.parts.Output.TheVariants as output

-- ---- documents

abbrev pub built_documents : FileResult → Computation World Trees
built_documents r = give (documents r.documents)

-- those of the file of a number, where this is what files are run to
abbrev pub output_documents : Files → (file : ℕ) → Output → Computation World Trees
output_documents files n output.Built = files n >>= built_documents
output_documents files n output.Nothing = give no_trees
output_documents files n (output.Documents trees) = give (trees_of trees)

-- of files in the order of their numbers, from this one on
abbrev pub all_documents : Files → (first : ℕ) → List Output → Computation World Trees
all_documents files n [] = give no_trees
all_documents files n (o ∷ os) = do
  ts ← output_documents files n o
  more ← all_documents files (suc n) os
  give (trees_before ts more)

-- what the files of these programs are run to, with the functions of all of them
unfoldable pub files_in : Functions → List Program → (depth : ℕ) → Files
files_in fs ps d f = file_at (setting_of (table_of fs) ps d) (suc (length ps)) f

-- ---- ends

-- It ends so, in this session and where files have given this; a fault leaves some state, and want of memory says nothing.
abbrev pub EndsIn : Session → List Given → Result (List Tree) Stop → Ending World Trees → Type 0
EndsIn session gs (Ok trees) e = (e ≡ done (trees_of trees) (world_of session gs [])) × OwnsGiven (arena_of session) gs
EndsIn session gs (Err (stop.Fault f)) e = (s : State World) × (e ≡ bad f s)
EndsIn session gs (Err stop.Memory) e = Unit {0}

-- what the file of a number gives is what was returned, where files gave `hs` before and `gs` after it
abbrev pub EndsFrom : Functions → List Program → (file : ℕ) → Output → Result (List Tree) Stop → (gs hs : List Given) → (after before : Session) → Type 0
EndsFrom fs ps n o result gs hs after before = EndsIn after gs result (output_documents (files_in fs ps before.work.depth) n o (world_of before hs []))
