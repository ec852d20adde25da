-- What the run of a file says of its documents.
use Rattle.std.proofs.Common.{◌≡◌, ◌∙◌, ℕ, List, [], Ok, Err, ap, sym}
use Rattle.ytt_base.specs.Trees.{Trees}
use Rattle.ytt_base.specs.View.{trees_of}
use Rattle.ytt_base.specs.declared.fault.Stop.{Stop}
use Rattle.ytt_base.specs.declared.fault.Stop.TheVariants as stop
use Rattle.ytt_base.specs.declared.tree.Tree.{Tree}
use Rattle.file_load.specs.Seen.{world_of}
use Rattle.file_load.specs.Turns.{RunsFileAt}
use Rattle.file_load.specs.declared.given.Given.{Given}
use Rattle.file_load.specs.declared.programs.Program.{Program}
use Rattle.star_eval.specs.Finishes.{result_of}
use Rattle.star_eval.specs.Meets.{arena_of}
use Rattle.star_eval.specs.declared.file.FileResult.{FileResult as Gave}
use Rattle.star_eval.specs.declared.session.Session.{Session}
use Rattle.star_functions.specs.declared.functions.Functions.{Functions}
use Rattle.star_values.specs.View.{built_in}
use Rattle.template_meaning.specs.Files.{FileResult}
use Rattle.template_meaning.specs.Meaning.{documents}
use Rattle.value_spec.specs.Outcomes.{Ending, done, then_do}
use Rattle.world_spec.specs.Parts.{World}
use Rattle.render_core.specs.Runs.{EndsFrom, built_documents, files_in}
use Rattle.render_core.specs.declared.parts.Output.TheVariants as output

module _ (fs : Functions) (ps : List Program) (n : ℕ) (gs hs : List Given) (after before : Session) where
  -- the documents of a block that ended
  pub block_ends : (file : Gave) (trees : List Tree) → trees_of trees ≡ documents (built_in (arena_of after).held file.documents) → RunsFileAt ps fs n (Ok file) gs hs after before →
      EndsFrom fs ps n output.Built (Ok trees) gs hs after before
  unfolding files_in
  block_ends file trees same runs =
      (ap (λ (e : Ending World FileResult). then_do e built_documents) runs.same ∙ (λ i. built_documents_of (sym same i)), runs.given)
    where
      built_documents_of : Trees → Ending World Trees
      built_documents_of ts = done ts (world_of after gs [])

  -- and the fault of one that didn't
  pub block_refused : (s : Stop) → RunsFileAt ps fs n (Err s) gs hs after before → EndsFrom fs ps n output.Built (Err s) gs hs after before
  unfolding files_in
  block_refused (stop.Fault f) runs = (_, ap (λ (e : Ending World FileResult). then_do e built_documents) runs.1)
  block_refused stop.Memory runs = tt
