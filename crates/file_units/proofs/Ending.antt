-- What finding and reading ends with.
use Rattle.std.proofs.Common.{◌≡◌, ℕ, Bool, List, [], Option, Some, None, Result, Ok, Err, IfSome, sym, ap, subst, ◌∙◌}
use Rattle.ytt_outside.specs.Counts.{Rose}
use Rattle.code_spec.specs.CodeReading.{CodeReader}
use Rattle.file_find.proofs.Runs.{asks_left, asks_right}
use Rattle.file_find.specs.Comes.{HasPath}
use Rattle.file_find.specs.Finds as finding
use Rattle.file_find.specs.declared.found.FindStop.{FindStop}
use Rattle.file_find.specs.declared.found.FindStop.TheVariants as find_stop
use Rattle.file_spec.specs.Asked.{AsksFor, with_outcome}
use Rattle.file_spec.specs.Finding.{FoundFile, files_found}
use Rattle.file_spec.specs.Reading.{IsAtOrBelow, IsPathOfRun}
use Rattle.star_grammar.specs.CodeReaders.{IsCodeReader, MeansCode}
use Rattle.world_spec.specs.Units.{FileUnit}
use Rattle.ytt_spec.specs.Meaning.{files_read, found_names, named_in, names_found, run_asks, units_found}
use Rattle.file_units.specs.Files.{IsReached, ReadsFiles, ReadsFound}
use Rattle.file_units.specs.Reads.{HasCause, ReadsUnits, Tree}
use Rattle.file_units.specs.Stops.{EndsAt, FailsAt, stop_with}
use Rattle.file_units.specs.declared.units.RenderStop.{RenderStop}
use Rattle.file_units.specs.declared.units.RenderStop.TheVariants as stop
use Rattle.file_units.specs.declared.units.Units.{Units}

-- ---- reading stops

pub files_stop : (ignore : Bool) (fs : List FoundFile) (tree : Option Tree) (names : List (List ℕ)) → names ≡ found_names fs → (e : FindStop) → ReadsFiles ignore fs tree (Err e) → ReadsFound ignore fs tree (Err (stop_with names e))
files_stop ignore fs tree names same (find_stop.Fault f) h = (same, h)
files_stop ignore fs tree names same (find_stop.ReadFailed path) h = tt
files_stop ignore fs tree names same find_stop.Memory h = tt

pub ends_stop : (A B : Type 0) (At : List ℕ → Type 0) (before now : ℕ) (names : List (List ℕ)) (e : FindStop) → FailsAt {A = A} At before now (Err e) → EndsAt {A = B} At before now (Err (stop_with names e))
ends_stop A B At before now names (find_stop.Fault f) h = h
ends_stop A B At before now names (find_stop.ReadFailed path) h = h
ends_stop A B At before now names find_stop.Memory h = tt

module _ (ignore : Bool) (paths : List (List ℕ)) where
  -- ---- finding stops

  pub found_none : (tree : Option Tree) (e : FindStop) → IfSome tree (λ t. finding.Finds (files_found t paths) (Err e)) → ReadsUnits ignore paths tree (Err (stop_with [] e))
  found_none None (find_stop.Fault f) h = tt
  found_none (Some t) (find_stop.Fault f) h = λ r reads. ap (λ o. named_in (names_found o) (with_outcome o (files_read r ignore t)).outcome) h
  found_none tree (find_stop.ReadFailed path) h = tt
  found_none tree find_stop.Memory h = tt

  asked_so : (tree : Option Tree) (path : List ℕ) → IsPathOfRun paths (λ t. (files_found t paths).asks) tree path → (r : CodeReader) → IsCodeReader r → IsPathOfRun paths (run_asks r ignore paths) tree path
  asked_so None path h r reads = h
  asked_so (Some t) path h r reads = asks_left path (files_found t paths).asks (with_outcome (files_found t paths).outcome (files_read r ignore t)).asks h

  pub none_cause : (tree : Option Tree) (before now : ℕ) (e : FindStop) → finding.HasCause paths tree before now (Err e) → HasCause {A = Units} ignore paths tree before now (Err (stop_with [] e))
  none_cause tree before now (find_stop.Fault f) h = h
  none_cause tree before now (find_stop.ReadFailed path) h = (h.0, asked_so tree path h.1)
  none_cause tree before now find_stop.Memory h = tt

  -- ---- behind finding

  module _ (fs : List FoundFile) where
    abbrev Finding : Option Tree → Type 0
    Finding tree = IfSome tree (λ t. (files_found t paths).outcome ≡ Ok fs)

    in_all : (t : Tree) → (files_found t paths).outcome ≡ Ok fs → (r : CodeReader) → units_found r ignore paths t ≡ named_in (found_names fs) (files_read r ignore t fs).outcome
    in_all t e r = ap (λ o. named_in (names_found o) (with_outcome o (files_read r ignore t)).outcome) e

    units_told : (tree : Option Tree) (us : List FileUnit) → Finding tree → IfSome tree (λ t. MeansCode (λ r. (files_read r ignore t fs).outcome) (Ok us)) → IfSome tree (λ t. MeansCode (λ r. units_found r ignore paths t) (Ok us))
    units_told None us e h = tt
    units_told (Some t) us e h = λ r reads. in_all t e r ∙ ap (named_in (found_names fs)) (h r reads)

    pub found_some : (tree : Option Tree) (res : Result Units RenderStop) → Finding tree → ReadsFound ignore fs tree res → ReadsUnits ignore paths tree res
    found_some tree (Ok us) e h = record {
      units = h.0.units;
      read = h.0.read;
      are_held = h.0.are_held;
      names_are = h.1 ∙ sym h.0.names_are;
      found = units_told tree h.0.units e h.0.told;
    }
    found_some None (Err (stop.Refused f names)) e h = tt
    found_some (Some t) (Err (stop.Refused f names)) e h = λ r reads.
        in_all t e r ∙ ap (named_in (found_names fs)) (h.1 r reads) ∙ ap (λ ns. Err (record { fault = f; names = ns })) (sym h.0)
    found_some tree (Err (stop.ReadFailed path)) e h = tt
    found_some tree (Err stop.Memory) e h = tt

    reached_so : (tree : Option Tree) → Finding tree → ((path : List ℕ) → HasPath path fs → IsAtOrBelow path paths) → (path : List ℕ) → IsReached ignore fs tree path
        → (r : CodeReader) → IsCodeReader r → IsPathOfRun paths (run_asks r ignore paths) tree path
    reached_so None e near path h r reads = near path h
    reached_so (Some t) e near path h r reads =
        asks_right path (files_found t paths).asks (with_outcome (files_found t paths).outcome (files_read r ignore t)).asks
        (subst (λ o. AsksFor path (with_outcome o (files_read r ignore t)).asks) (sym e) (h r reads))

    pub some_cause : (tree : Option Tree) (first before now : ℕ) (res : Result Units RenderStop) → Finding tree → ((path : List ℕ) → HasPath path fs → IsAtOrBelow path paths) → before ≡ first
        → EndsAt (IsReached ignore fs tree) before now res → HasCause ignore paths tree first now res
    some_cause tree first before now (Ok us) e near still h = h ∙ still
    some_cause tree first before now (Err (stop.Refused f names)) e near still h = h ∙ still
    some_cause tree first before now (Err (stop.ReadFailed path)) e near still h = (subst (λ b. Rose b now) still h.0, reached_so tree e near path h.1)
    some_cause tree first before now (Err stop.Memory) e near still h = tt
