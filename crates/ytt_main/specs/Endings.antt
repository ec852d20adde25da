-- What each ending of the top call leaves, and what it comes from.
use Rattle.std.specs.Prelude.{◌≡◌, ◌⊎◌, ℕ, Bool, List, Ok}
use Rattle.ytt_base.specs.Trees.{Trees}
use Rattle.ytt_outside.specs.Counts.{Rose}
use Rattle.ytt_outside.specs.Sink.{Grows, GrowsByFront}
use Rattle.yaml_spec.specs.ReadsBack.{ReadsAlone}
use Rattle.yaml_spec.specs.Text.{Text}
use Rattle.ytt_spec.specs.Due.{out_of_memory_line, write_failed_line}
use Rattle.ytt_spec.specs.Meaning.{TextMeans}
use Rattle.world_spec.specs.Parts.{Budget}
use Rattle.ytt_main.specs.Found.{AreMeant, IsDueText, IsFaultLine, IsListing, IsReadLine, IsUsageLine}
use Rattle.ytt_main.specs.Seen.{Files, Sink}
use Rattle.ytt_main.specs.declared.run.Status.{Status}
use Rattle.ytt_main.specs.declared.run.Status.TheVariants as status

-- ---- a sink

-- nothing was written to it
pub record IsUntouched (s : Sink) : Type 0 where
  pub same_bytes : s.held_now ≡ s.held_before
  pub same_count : s.faults_now ≡ s.faults_before

-- these bytes were written to it, and nothing else, and no write failed
pub record HasWritten (s : Sink) (bytes : List ℕ) : Type 0 where
  pub grew : Grows s.held_before s.held_now bytes
  pub same_count : s.faults_now ≡ s.faults_before

-- a write of these bytes failed: a front of them was written
pub record HasFailed (s : Sink) (bytes : List ℕ) : Type 0 where
  pub grew : GrowsByFront s.held_before s.held_now bytes
  pub rose : Rose s.faults_before s.faults_now

-- these bytes were tried once
abbrev pub HasTried : Sink → List ℕ → Type 0
HasTried s bytes = HasWritten s bytes ⊎ HasFailed s bytes

-- ---- the endings

-- The documents that are meant are on `out`: their text reads back as them and as no others, and rendering it gives it again.
pub record IsDone (words : List (List ℕ)) (files : Files) (out err : Sink) : Type 0 where
  pub documents : Trees
  pub found : AreMeant words files documents
  pub written : HasWritten out (Text documents)
  pub reads_back : ReadsAlone (Text documents) documents
  pub renders_itself : (ignore_unknown : Bool) (budget : Budget) → TextMeans ignore_unknown budget (Text documents) (Ok documents)
  pub silent : IsUntouched err

-- The listing that is asked for is on `out`: it is that of a program which runs as the file's items are built.
pub record IsListed (words : List (List ℕ)) (files : Files) (out err : Sink) : Type 0 where
  pub listing : List ℕ
  pub found : IsListing words files listing
  pub written : HasWritten out listing
  pub silent : IsUntouched err

-- A line is due on `err` by this cause, and it has the line.
pub record HasLine (IsDueLine : List ℕ → Type 0) (out err : Sink) : Type 0 where
  pub line : List ℕ
  pub found : IsDueLine line
  pub written : HasWritten err line
  pub silent : IsUntouched out

-- the line that is due on `err` where nothing is due on `out`
abbrev pub IsDueLine : List (List ℕ) → Files → List ℕ → Type 0
IsDueLine words files line = IsFaultLine words files line ⊎ (IsUsageLine words files line ⊎ IsReadLine words files line)

-- `out` failed where documents or a listing are meant: it has a front of their text, and the line was tried on `err`
pub record OutFailed (words : List (List ℕ)) (files : Files) (out err : Sink) : Type 0 where
  pub text : List ℕ
  pub found : IsDueText words files text
  pub failed : HasFailed out text
  pub tried : HasTried err write_failed_line

-- `err` failed where another line is due: it has a front of it, and nothing more was tried
pub record ErrFailed (words : List (List ℕ)) (files : Files) (out err : Sink) : Type 0 where
  pub line : List ℕ
  pub found : IsDueLine words files line
  pub failed : HasFailed err line
  pub silent : IsUntouched out

-- There was no room, and the line was tried on `err`.
pub record IsMemory (out err : Sink) : Type 0 where
  pub tried : HasTried err out_of_memory_line
  pub silent : IsUntouched out

-- What a run with this status comes from, and what it leaves.
abbrev pub Ends : Status → (words : List (List ℕ)) → Files → (out err : Sink) → Type 0
Ends status.Done words files out err = IsDone words files out err ⊎ IsListed words files out err
Ends status.Fault words files out err = HasLine (IsFaultLine words files) out err
Ends status.Usage words files out err = HasLine (IsUsageLine words files) out err
Ends status.ReadFault words files out err = HasLine (IsReadLine words files) out err
Ends status.WriteFault words files out err = OutFailed words files out err ⊎ ErrFailed words files out err
Ends status.Memory words files out err = IsMemory out err
