use Rattle.std.proofs.Common.{◌≡◌, ◌∙◌, ℕ, List, reverse, ap, subst, sym}
use Rattle.ytt_base.specs.Outcomes.{Gives}
use Rattle.ytt_base.specs.View.{trees_of}
use Rattle.code_spec.specs.Code.{Name}
use Rattle.file_load.specs.Programs.{names_in}
use Rattle.file_load.specs.declared.programs.Program.{Program}
use Rattle.file_units.specs.Held.{AreHeld, MayRun}
use Rattle.star_functions.specs.Known.{blocks_in, files_of, known}
use Rattle.star_functions.specs.Table.{table_of}
use Rattle.star_functions.specs.declared.programs.FileBlock.{FileBlock}
use Rattle.world_spec.specs.Parts.{at_start, outcome_of}
use Rattle.ytt_words.specs.Asks.{budget_of}
use Rattle.render_core.proofs.Held.{held_means, many_scopes, runnable}
use Rattle.render_core.specs.Parts.{AreWhole, file_blocks, scopes_of}
use Rattle.render_core.specs.Runs.{all_documents, files_in}
use Rattle.render_core.specs.declared.parts.Output.{Output}
use Rattle.render_core.proofs.running.run_programs.Goals as goal

pub programs_of-requires-clause-scopes : goal.programs_of-requires-clause-scopes
programs_of-requires-clause-scopes c = many_scopes 1 c.args.files.now c.args.scopes.now c.requires.files

pub run_all-requires-clause-programs : goal.run_all-requires-clause-programs
run_all-requires-clause-programs c =
    let ps = c.as_slice-2.result.now in
    let files : file_blocks ps ≡ c.args.files.now = ap (λ (qs : List Program). file_blocks qs) c.as_slice-2.ensures ∙ c.in_ok-programs.ensures.files in
    let scopes : scopes_of ps ≡ c.args.scopes.now = ap (λ (qs : List Program). scopes_of qs) c.as_slice-2.ensures ∙ c.in_ok-programs.ensures.scopes in
    runnable 1 ps (subst (λ (bs : List FileBlock). AreWhole 1 bs (scopes_of ps)) (sym files) (subst (λ (xss : List (List Name)). AreWhole 1 c.args.files.now xss) (sym scopes) c.requires.files))

pub returns : goal.returns
returns c = λ us cs may held named gives.
    let bs = c.args.files.now in
    let budget = c.args.budget in
    let fs = c.in_ok-functions.functions in
    let ps = c.as_slice-2.result.now in
    let files : file_blocks ps ≡ bs = ap (λ (qs : List Program). file_blocks qs) c.as_slice-2.ensures ∙ c.in_ok-programs.ensures.files in
    let names : names_in ps ≡ c.args.names.now = ap (λ (qs : List Program). names_in qs) c.as_slice-2.ensures ∙ c.in_ok-programs.ensures.names in
    let same : (f k : ℕ) → table_of fs f k ≡ known (files_of (file_blocks ps)) f k =
    λ f k. c.in_ok-functions.ensures f k ∙ (λ i. known (files_of (blocks_in (c.as_slice.ensures i))) f k) ∙ (λ i. known (files_of (c.in_ok-known.ensures i)) f k) ∙ (λ i. known (files_of (sym files i)) f k) in
    let means = held_means (budget_of budget) us cs fs ps (names ∙ named) (subst (λ (xs : List FileBlock). MayRun 1 xs cs) (sym files) may) (subst (λ (xs : List FileBlock). AreHeld 1 us xs cs) (sym files) held) same in
    subst (Gives trees_of c.run_all.result) (sym means)
    (subst (λ (os : List Output). Gives trees_of c.run_all.result (outcome_of (all_documents (files_in fs ps budget.depth) 1 os (at_start budget.steps)))) gives c.run_all.ensures)
