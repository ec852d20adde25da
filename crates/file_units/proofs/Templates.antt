-- Templates as programs.
use Rattle.std.proofs.Common.{◌≡◌, ℕ, Bool, IfOk, IsSome, Some, Result, Ok, Err, sym, ap, ◌∙◌, subst, refl}
use Rattle.ytt_base.specs.declared.fault.Stop.{Stop}
use Rattle.ytt_base.specs.declared.fault.Stop.TheVariants as stop
use Rattle.ytt_base.specs.Outcomes.{Outcome, and_then}
use Rattle.code_spec.specs.Blocks.{blocks}
use Rattle.code_spec.specs.CodeReading.{CodeReader}
use Rattle.code_spec.specs.Scopes.{names_of_file, program_names}
use Rattle.passes_spec.specs.Passes.{all_built, bound, texts_passed}
use Rattle.star_blocks.specs.Nested.{ops_of}
use Rattle.star_file.specs.Programs.{ReadsProgram, blocks_in}
use Rattle.star_file.specs.declared.program.FileProgram.{FileProgram}
use Rattle.star_grammar.specs.CodeReaders.{GivesCode, MeansCode}
use Rattle.star_resolve.specs.Variables.{each_once}
use Rattle.star_resolve.specs.declared.binding.Resolved.{Resolved}
use Rattle.star_tree.specs.Whole.{program_of}
use Rattle.template_program.specs.Programs.{Compiles, IsProgramOf}
use Rattle.template_spec.proofs.Nested.{blocks_of}
use Rattle.template_spec.proofs.NestedWords.{placed_words}
use Rattle.template_spec.proofs.NumbersKeep.{numbered_stands}
use Rattle.template_spec.specs.Nesting.{placed_whole}
use Rattle.template_spec.specs.Numbered.{numbered}
use Rattle.template_spec.specs.Placed.{Placed}
use Rattle.template_spec.specs.Template.{Items}
use Rattle.world_spec.specs.Units.{template_items}
use Rattle.yaml_spec.specs.Noted.{Documents}
use Rattle.file_units.specs.Templates.{CompilesItems, IsCompiled}

-- the functions of items get their numbers
abbrev with_numbers : Outcome Items → Outcome Items
with_numbers o = and_then (λ t. Ok (numbered t)) o

module _ (n : ℕ) (ignore : Bool) (ds : Documents) where
  abbrev items : CodeReader → Outcome Items
  items r = template_items r ignore n ds

  pub place_stop : {A : Type 0} (view : A → Items) (s : Stop) → GivesCode view (Err s) (λ r. placed_whole r ignore n ds) → CompilesItems n (Err s) items
  place_stop view (stop.Fault f) h = λ r reads. ap (λ o. with_numbers (and_then (texts_passed r) o)) (h r reads)
  place_stop view stop.Memory h = tt

  module _ (t : Items) (placed : MeansCode (λ r. placed_whole r ignore n ds) (Ok t)) where
    pub compile_stop : (s : Stop) → Compiles t (Err s) → CompilesItems n (Err s) items
    compile_stop (stop.Fault f) h = λ r reads. ap (λ o. with_numbers (and_then (texts_passed r) o)) (placed r reads) ∙ ap with_numbers (h r reads)
    compile_stop stop.Memory h = tt

    compiled_items : Placed t → (q : Resolved) → q.program.file ≡ n → IsProgramOf t (program_of q.program) → q.globals ≡ each_once (program_names (program_of q.program)) → CompilesItems n (Ok q) items
    compiled_items is q number p names = (
      numbered p.code.whole,
      λ r reads. ap (λ o. with_numbers (and_then (texts_passed r) o)) (placed r reads) ∙ ap (λ o. with_numbers (and_then (λ u. and_then all_built (bound u)) o)) (p.code.texts r reads) ∙ ap with_numbers p.passes,
      record {
        file_is = number;
        code = p.code.code;
        words_stand = numbered_stands p.code.whole (p.words (placed_words t is));
        globals = names;
      },
    )

    pub compile_told : Placed t → (file : ℕ) → file ≡ n → (result : Result Resolved Stop) → Compiles t result → IfOk result (λ q. q.globals ≡ each_once (program_names (program_of q.program))) →
        IfOk result (λ q. q.program.file ≡ file) → CompilesItems n result items
    compile_told is file number (Ok q) p names f = compiled_items is q (f ∙ number) p names
    compile_told is file number (Err s) p names f = compile_stop s p

-- ---- with blocks nested

-- compiled items have blocks
pub has_blocks : (n : ℕ) (t : Items) (q : Resolved) → IsCompiled n t q → IsSome (blocks (program_of q.program))
has_blocks n t q c = subst IsSome (sym (ap blocks c.code ∙ blocks_of t)) refl

pub nested_read : (n : ℕ) (outcome : CodeReader → Outcome Items) (q : Resolved) (p : FileProgram) → CompilesItems n (Ok q) outcome → p.block.file ≡ q.program.file →
    Some (ops_of q.program.file p.block.block) ≡ blocks (program_of q.program) → p.globals ≡ q.globals → ReadsProgram n (Ok p) outcome
nested_read n outcome q p (t, means, c) file nested globals =
    let closed : Some (blocks_in p) ≡ blocks (program_of q.program) = ap (λ k. Some (ops_of k p.block.block)) file ∙ nested in (
      t,
      means,
      record {
        program = record { file_is = file ∙ c.file_is; blocks_are = closed ∙ ap blocks c.code; words_stand = c.words_stand };
        globals = globals ∙ c.globals ∙ ap (λ o. each_once (names_of_file o)) (sym closed);
      },
    )

pub stop_read : (n : ℕ) (outcome : CodeReader → Outcome Items) (s : Stop) → CompilesItems n (Err s) outcome → ReadsProgram n (Err s) outcome
stop_read n outcome (stop.Fault f) h = h
stop_read n outcome stop.Memory h = tt
