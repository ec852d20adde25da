-- The parts of a request's meaning over its units, behind finding and reading: 3 the schema, 4 the data, 5 the documents of files, 6 the
-- overlays, 7 null documents. One budget serves them all. Parts 3, 4 and 6 have their places here, and do nothing yet.
use Rattle.std.specs.Prelude.{ℕ, suc, List, [], ◌∷◌, length, Option, Ok, Err}
use Rattle.ytt_base.specs.declared.fault.FaultKind.TheVariants as kind
use Rattle.ytt_base.specs.Outcomes.{Outcome, fault_of}
use Rattle.ytt_base.specs.Trees.{Trees, no_trees, tree}
use Rattle.code_spec.specs.Blocks.{Ops}
use Rattle.module_spec.specs.Answering.{modules_answer}
use Rattle.template_meaning.specs.Files.{FileResult}
use Rattle.template_meaning.specs.Meaning.{documents}
use Rattle.value_spec.specs.Outcomes.{State, Ending, done, bad, asks, Computation, give, ◌>>=◌}
use Rattle.world_spec.specs.Units as units
use Rattle.world_spec.specs.Units.{FileUnit, Source, code, plain, items_at, names_of}
use Rattle.world_spec.specs.Worlds.{Kept, nothing_kept, unit_meaning, unit_run, table_of}

-- how many steps a run may take, and how many calls of functions may stand in one another in it
pub record Budget : Type 0 where
  pub steps : ℕ
  pub depth : ℕ

-- natives keep nothing of their own
abbrev pub World : Type 0
World = Kept (Unit {0})

-- what a file is run to, by its number
abbrev pub Files : Type 0
Files = (file : ℕ) → Computation World FileResult

abbrev pub trees_before : Trees → Trees → Trees
trees_before no_trees us = us
trees_before (tree t ts) us = tree t (trees_before ts us)

-- ---- parts 3 and 4: what `data.values` is

abbrev pub data_found : Files → List FileUnit → Computation World (Unit {0})
data_found files us = give tt

-- ---- part 5: the documents of each file that gives any, in order; a null one is dropped at once

abbrev pub source_documents : Computation World FileResult → Source → Computation World Trees
source_documents file (plain ts) = give ts
source_documents file (code t) = file >>= λ r. give (documents r.documents)

abbrev pub role_documents : Computation World FileResult → Source → units.Role → Computation World Trees
role_documents file s units.template = source_documents file s
role_documents file s units.loaded = give no_trees

abbrev pub documents_from : Files → (first : ℕ) → List FileUnit → Computation World Trees
documents_from files n [] = give no_trees
documents_from files n (u ∷ us) = do
  ts ← role_documents (files n) u.source u.role
  more ← documents_from files (suc n) us
  give (trees_before ts more)

-- ---- parts 6 and 7: overlays on them, and then the null documents that they leave

abbrev pub overlaid : Trees → Computation World Trees
overlaid ts = give ts

abbrev pub all_parts : Files → List FileUnit → Computation World Trees
all_parts files us = do
  u ← data_found files us
  ts ← documents_from files 1 us
  overlaid ts

-- ---- the parts of a request

abbrev pub at_start : (steps : ℕ) → State World
at_start steps = record { store = []; steps = steps; host = nothing_kept tt }

-- each question has its answer inside
abbrev pub outcome_of : {A : Type 0} → Ending World A → Outcome A
outcome_of (done a s) = Ok a
outcome_of (bad f s) = Err f
outcome_of (asks q s k) = Err (fault_of kind.CodeForm)

-- no file is loaded while it is under way, so no more loads stand in one another than there are files
abbrev pub loads_for : List FileUnit → ℕ
loads_for us = suc (length us)

-- What the units of a request mean within a budget: documents, or the first fault.
unfoldable pub units_meaning : Budget → List FileUnit → Outcome Trees
units_meaning budget us = outcome_of (all_parts (unit_meaning modules_answer (names_of us) (items_at us) budget.depth (loads_for us)) us (at_start budget.steps))

-- The same by the blocks of programs.
unfoldable pub units_run : Budget → (blocks_at : ℕ → Option Ops) → List FileUnit → Outcome Trees
units_run budget blocks_at us = outcome_of (all_parts (unit_run modules_answer (names_of us) (table_of blocks_at) blocks_at budget.depth (loads_for us)) us (at_start budget.steps))
