-- Programs that load one another run as their files are built.
use Rattle.std.proofs.Common.{◌≡◌, ℕ, zero, suc, List, [], length, Option, refl, ap, ◌∙◌}
use Rattle.code_spec.specs.Blocks.{Ops, blocks}
use Rattle.star_spec.specs.Calls.{asking}
use Rattle.star_spec.specs.Eval.{starlark}
use Rattle.star_spec.specs.Hosts.{Answers}
use Rattle.star_spec.specs.Names.{with_boxes}
use Rattle.module_spec.specs.Answering.{modules_answer}
use Rattle.template_meaning.specs.Calls.{program_calls, template_calls}
use Rattle.template_meaning.specs.Files.{Globals, all_loads, bind_loaded, ended, LoadedFile, items_loads, loader_of}
use Rattle.template_meaning.specs.Meaning.{AllStand, Build, RunLoaded, names_in, run_blocks}
use Rattle.template_meaning.proofs.Loads.{loads_agree}
use Rattle.template_meaning.proofs.Theorem.{agrees}
use Rattle.template_spec.proofs.NamesAgree.{same_names}
use Rattle.template_spec.proofs.Nested.{blocks_of}
use Rattle.template_spec.specs.Compiled.{compiled}
use Rattle.template_spec.specs.Names.{items_names}
use Rattle.template_spec.specs.Template.{Items}
use Rattle.value_spec.proofs.Computations.{then_ext}
use Rattle.value_spec.specs.Outcomes.{State, then_do}
use Rattle.world_spec.specs.Laws.{LoadsRunAsBuilt, UnitsRunAsBuilt}
use Rattle.world_spec.specs.Parts.{all_parts, at_start, loads_for, outcome_of, units_meaning, units_run}
use Rattle.world_spec.specs.Units.{items_at, names_of}
use Rattle.world_spec.specs.Worlds.{Kept, inside, shelf_of, table_of, unit_meaning, unit_run}

-- the blocks of a compiled template bind the names of the template
names_agree : (t : Items) → names_in (blocks (compiled t)) ≡ items_names t
names_agree t = ap names_in (blocks_of t) ∙ same_names t

module _ (files : ℕ → Items) (stand : AllStand files) where
  -- the blocks of all files
  abbrev all_blocks : ℕ → Option Ops
  all_blocks f = blocks (compiled (files f))

  -- one file, where its load statements gave these names
  file_agrees : (d f : ℕ) (gs : Globals) (s : State (Unit {0})) →
      RunLoaded starlark asking (table_of all_blocks) d gs (all_blocks f) s
      ≡ LoadedFile gs (items_names (files f)) (Build starlark (template_calls starlark asking files d) (files f)) s
  file_agrees d f gs s =
      (λ i. LoadedFile gs (names_agree (files f) i) (run_blocks starlark (program_calls starlark asking (λ g. compiled (files g)) d) (all_blocks f)) s)
      ∙ then_ext (with_boxes (items_names (files f)) [] s) _ _ (λ env r. then_ext (bind_loaded gs env r) _ _ (λ u r.
      (λ i. then_do (agrees starlark asking (compiled (files f)) (files f) refl (stand f) files stand d env r i) (ended (length s.store) env))))

  module _ {G : Type 0} (answers : Answers G) (names : List (List ℕ)) where
    loads_run : (d n f : ℕ) (s : State (Kept G)) → unit_run answers names (table_of all_blocks) all_blocks d n f s ≡ unit_meaning answers names files d n f s
    loads_run d zero f s = refl
    loads_run d (suc n) f s =
        (λ i. then_do (all_loads (loader_of (shelf_of names) (λ g r. loads_run d n g r i)) (loads_agree (files f) i) s) (λ gs. inside answers (RunLoaded starlark asking (table_of all_blocks) d gs (all_blocks f))))
        ∙ then_ext (all_loads (loader_of (shelf_of names) (unit_meaning answers names files d n)) (items_loads (files f)) s) _ _ (λ gs r.
        (λ i. inside answers (λ q. file_agrees d f gs q i) r))

pub loads_run_as_built : {G : Type 0} → LoadsRunAsBuilt G
loads_run_as_built answers names files blocks_at p d n f s =
    (λ i. unit_run answers names (table_of (λ g. p.blocks_are g i)) (λ g. p.blocks_are g i) d n f s)
    ∙ loads_run files p.words_stand answers names d n f s

pub units_run_as_built : UnitsRunAsBuilt
unfolding units_meaning units_run
units_run_as_built budget us blocks_at p i =
    outcome_of (all_parts (λ f s. loads_run_as_built modules_answer (names_of us) (items_at us) blocks_at p budget.depth (loads_for us) f s i) us (at_start budget.steps))
