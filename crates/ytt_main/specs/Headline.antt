-- What the top call leaves where nothing failed.
use Rattle.std.specs.Prelude.{◌≡◌, ◌≢◌, ℕ, List, [], IfSome}
use Rattle.ytt_outside.specs.Counts.{NoneRose}
use Rattle.ytt_outside.specs.Sink.{Grows}
use Rattle.ytt_spec.specs.Due.{Due, IsDue, done, fault, usage}
use Rattle.ytt_main.specs.Seen.{Files, Sink}
use Rattle.ytt_main.specs.declared.run.Status.{Status}
use Rattle.ytt_main.specs.declared.run.Status.TheVariants as status

abbrev pub due_status : Due → Status
due_status (done text) = status.Done
due_status (fault line) = status.Fault
due_status (usage line) = status.Usage

abbrev pub due_out : Due → List ℕ
due_out (done text) = text
due_out (fault line) = []
due_out (usage line) = []

abbrev pub due_err : Due → List ℕ
due_err (done text) = []
due_err (fault line) = line
due_err (usage line) = line

-- the status and the bytes are those of what is due, and nothing else
pub record Meets (d : Due) (status : Status) (out err : Sink) : Type 0 where
  pub status_is : status ≡ due_status d
  pub out_grew : Grows out.held_before out.held_now (due_out d)
  pub err_grew : Grows err.held_before err.held_now (due_err d)

-- no count of failures rose
abbrev pub NothingFailed : Files → (out err : Sink) → Type 0
NothingFailed files out err = NoneRose files.faults_before files.faults_now × NoneRose out.faults_before out.faults_now × NoneRose err.faults_before err.faults_now

-- Where the files tell their tree, nothing failed and there was room, the status and all bytes are those of what is due.
abbrev pub GivesDue : Status → (words : List (List ℕ)) → Files → (out err : Sink) → Type 0
GivesDue s words files out err =
    IfSome files.tree (λ tree. NothingFailed files out err → s ≢ status.Memory → (d : Due) × IsDue words tree d × Meets d s out err)

-- a status that stands on all that was asked of the files
abbrev pub IsWhole : Status → Type 0
IsWhole status.Done = Unit {0}
IsWhole status.Fault = Unit {0}
IsWhole status.Usage = Unit {0}
IsWhole _ = ⊥
