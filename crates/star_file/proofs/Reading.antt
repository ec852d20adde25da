-- Programs of what each reader of code gives.
use Rattle.std.proofs.Common.{◌≡◌, ℕ, List, Some, Ok, Err, sym, ap, ◌∙◌}
use Rattle.ytt_base.specs.declared.fault.Stop.{Stop}
use Rattle.ytt_base.specs.declared.fault.Stop.TheVariants as stop
use Rattle.ytt_base.specs.Outcomes.{Outcome, and_then, ◌>>=◌}
use Rattle.ytt_laws.proofs.Chains.{then_assoc}
use Rattle.code_spec.specs.Blocks.{blocks}
use Rattle.code_spec.specs.CodeReading.{CodeReader}
use Rattle.code_spec.specs.Program.{Instruction}
use Rattle.code_spec.specs.Scopes.{names_of_file, program_names}
use Rattle.star_blocks.specs.Nested.{ops_of}
use Rattle.star_file.specs.declared.program.FileProgram.{FileProgram}
use Rattle.star_file.specs.Passing.{Passed}
use Rattle.star_file.specs.Programs.{ReadsItems, ReadsProgram, blocks_in}
use Rattle.star_grammar.specs.CodeReaders.{GivesCode}
use Rattle.star_resolve.specs.declared.binding.Resolved.{Resolved}
use Rattle.star_resolve.specs.Variables.{each_once}
use Rattle.star_tree.specs.declared.code.Program.{Program}
use Rattle.star_tree.specs.Whole.{program_of}
use Rattle.template_spec.specs.Numbered.{numbered_program}
use Rattle.template_spec.specs.Template.{Items}
use Rattle.world_spec.proofs.CodeBlocks.{code_is_compiled, code_stands}
use Rattle.world_spec.specs.Laws.{AreCodeBlocks}
use Rattle.world_spec.specs.StarFiles.{items_in, lines_text, ops_items, program_items, star_items}
use Rattle.world_spec.specs.Units.{passed}
use Rattle.yaml_spec.specs.Lines.{Lines}

-- ---- before the passes over names

module _ (n : ℕ) (bytes : List ℕ) where
  abbrev code_read : CodeReader → Outcome (List Instruction)
  code_read r = Lines n bytes >>= (λ ls. r.file n (lines_text ls))

  items_are : (r : CodeReader) → star_items r n bytes ≡ code_read r >>= program_items
  items_are r = sym (then_assoc (Lines n bytes) (λ ls. r.file n (lines_text ls)) program_items)

  -- what stops before
  pub items_stop : (s : Stop) → GivesCode program_of (Err s) code_read → ReadsItems (Err s) (λ r. star_items r n bytes)
  items_stop (stop.Fault f) h = λ r reads. items_are r ∙ ap (and_then program_items) (h r reads)
  items_stop stop.Memory h = tt

  -- the statements that were read, with their numbers
  pub items_read : (q p : Program) → GivesCode program_of (Ok q) code_read → AreCodeBlocks (program_of q) → program_of p ≡ numbered_program (program_of q) → ReadsItems (Ok p) (λ r. star_items r n bytes)
  items_read q p h code e =
      (code.ops, code.code, ap blocks e ∙ code.blocks_are, λ r reads. items_are r ∙ ap (and_then program_items) (h r reads) ∙ ap items_in code.blocks_are)

-- ---- behind them

module _ (n : ℕ) (outcome : CodeReader → Outcome Items) where
  abbrev whole : CodeReader → Outcome Items
  whole r = and_then passed (outcome r)

  -- what was read stops
  pub program_stop : (s : Stop) → ReadsItems (Err s) outcome → ReadsProgram n (Err s) whole
  program_stop (stop.Fault f) h = λ r reads. ap (and_then passed) (h r reads)
  program_stop stop.Memory h = tt

  module _ (p : Program) (h : ReadsItems (Ok p) outcome) where
    -- a pass stops
    pub passes_stop : (s : Stop) → Passed {A = Resolved} (program_of p) (Err s) → ReadsProgram n (Err s) whole
    passes_stop (stop.Fault f) g = λ r reads. ap (and_then passed) (h.3 r reads) ∙ g h.0 h.1 h.2
    passes_stop stop.Memory g = tt

    -- the program
    pub program_read : (q : Resolved) (f : FileProgram) → p.file ≡ n → Passed (program_of p) (Ok q) → q.program ≡ p → q.globals ≡ each_once (program_names (program_of p)) →
        f.block.file ≡ q.program.file → Some (ops_of q.program.file f.block.block) ≡ blocks (program_of q.program) → f.globals ≡ q.globals → ReadsProgram n (Ok f) whole
    program_read q f number passes same names file nested globals =
        let closed : Some (blocks_in f) ≡ blocks (program_of p) = ap (λ k. Some (ops_of k f.block.block)) file ∙ nested ∙ ap (λ (x : Program). blocks (program_of x)) same in (
          ops_items h.0,
          λ r reads. ap (and_then passed) (h.3 r reads) ∙ passes h.0 h.1 h.2,
          record {
            program = record {
              file_is = file ∙ ap (λ (x : Program). x.file) same ∙ number;
              blocks_are = closed ∙ h.2 ∙ sym (code_is_compiled h.0 h.1);
              words_stand = code_stands h.0;
            };
            globals = globals ∙ names ∙ ap (λ o. each_once (names_of_file o)) (sym closed);
          },
        )
