-- What a request means, by what was read of it.
use Rattle.std.proofs.Common.{◌≡◌, ◌∙◌, ℕ, Bool, List, Option, Some, None, Result, Ok, Err, IfOk, IfSome, ap, sym}
use Rattle.ytt_base.specs.Outcomes.{Outcome}
use Rattle.ytt_base.specs.Trees.{Trees, AreTrees, Writable}
use Rattle.ytt_base.specs.View.{trees_of}
use Rattle.ytt_base.specs.declared.tree.Tree.{Tree as Held}
use Rattle.code_spec.specs.CodeReading.{CodeReader}
use Rattle.star_grammar.specs.CodeReaders.{IsCodeReader, MeansCode}
use Rattle.file_units.specs.Reads.{HasCause, ReadsUnits, Tree}
use Rattle.file_units.specs.declared.units.RenderStop.{RenderStop}
use Rattle.file_units.specs.declared.units.RenderStop.TheVariants as stop
use Rattle.file_units.specs.declared.units.Units.{Units}
use Rattle.world_spec.specs.Units.{FileUnit, names_of}
use Rattle.ytt_spec.proofs.HeldBuilt.{units_written}
use Rattle.ytt_spec.specs.Meaning.{AreRead, Means, documents, documents_meant, named_in, produced, units_found}
use Rattle.ytt_spec.specs.Words.{Render, render}
use Rattle.render_core.specs.Renders.{Renders, RendersUnits}

-- ---- where the reads stopped

pub stop_told : (asked : Render) (tree : Option Tree) (s : RenderStop) → ReadsUnits asked.ignore_unknown asked.paths tree (Err s) → IfSome tree (λ t. Renders (Means (render asked) t) (Err s))
stop_told asked None s h = tt
stop_told asked (Some t) (stop.Refused f names) h = λ r reads. ap (documents_meant asked) (h r reads)
stop_told asked (Some t) (stop.ReadFailed path) h = tt
stop_told asked (Some t) stop.Memory h = tt

pub stop_caused : (ignore : Bool) (paths : List (List ℕ)) (tree : Option Tree) (before now : ℕ) (s : RenderStop) → HasCause {A = Units} ignore paths tree before now (Err s) → HasCause {A = List Held} ignore paths tree before now (Err s)
stop_caused ignore paths tree before now (stop.Refused f names) h = h
stop_caused ignore paths tree before now (stop.ReadFailed path) h = h
stop_caused ignore paths tree before now stop.Memory h = tt

-- ---- where there are units

module _ (asked : Render) (us : List FileUnit) (names : List (List ℕ)) where
  pub units_told : (tree : Option Tree) → IfSome tree (λ t. MeansCode (λ r. units_found r asked.ignore_unknown asked.paths t) (Ok us)) → names ≡ names_of us → (result : Result (List Held) RenderStop) →
      RendersUnits asked.budget us names result → IfSome tree (λ t. Renders (Means (render asked) t) result)
  units_told None found same result h = tt
  units_told (Some t) found same (Ok trees) h = λ r reads. ap (documents_meant asked) (found r reads) ∙ ap (λ (o : Outcome Trees). produced documents (named_in (names_of us) o)) h
  units_told (Some t) found same (Err (stop.Refused f held)) h = λ r reads.
      ap (documents_meant asked) (found r reads) ∙ ap (λ (o : Outcome Trees). produced documents (named_in (names_of us) o)) h.0 ∙ (λ i. Err (record { fault = f; names = sym (h.1 ∙ same) i }))
  units_told (Some t) found same (Err (stop.ReadFailed path)) h = tt
  units_told (Some t) found same (Err stop.Memory) h = tt

  pub units_caused : (tree : Option Tree) (before now : ℕ) (result : Result (List Held) RenderStop) → now ≡ before → RendersUnits asked.budget us names result → HasCause asked.ignore_unknown asked.paths tree before now result
  units_caused tree before now (Ok trees) same h = same
  units_caused tree before now (Err (stop.Refused f held)) same h = same
  units_caused tree before now (Err (stop.ReadFailed path)) same h = absurd h
  units_caused tree before now (Err stop.Memory) same h = tt

  pub units_are_written : (r : CodeReader) → IsCodeReader r → AreRead asked.ignore_unknown 1 us → (result : Result (List Held) RenderStop) → RendersUnits asked.budget us names result →
      IfOk result (λ ts. AreTrees (trees_of ts)) × IfOk result (λ ts. Writable (trees_of ts))
  units_are_written r reads are_read (Ok trees) h = let written = units_written r reads asked.ignore_unknown us are_read asked.budget (trees_of trees) h in (written.0, written.1)
  units_are_written r reads are_read (Err s) h = (tt, tt)
