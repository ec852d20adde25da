-- What is written for an answer.
use Rattle.std.specs.Prelude.{◌≡◌, ◌⊎◌, ℕ, List}
use Rattle.ytt_base.specs.Trees.{Trees}
use Rattle.ytt_base.specs.View.{trees_of}
use Rattle.yaml_spec.specs.Text.{Text}
use Rattle.ytt_spec.specs.Due.{out_of_memory_line, write_failed_line}
use Rattle.ytt_main.specs.Endings.{HasFailed, HasTried, HasWritten, IsUntouched}
use Rattle.ytt_main.specs.Seen.{Sink}
use Rattle.ytt_main.specs.declared.answer.Answer.{Answer}
use Rattle.ytt_main.specs.declared.answer.Answer.TheVariants as answer
use Rattle.ytt_main.specs.declared.run.Status.{Status}
use Rattle.ytt_main.specs.declared.run.Status.TheVariants as status

-- a text is written to `out`, with Done; or a front of it, with WriteFault, and then a line is tried on `err`
abbrev pub WrittenText : List ℕ → Status → (out err : Sink) → Type 0
WrittenText text status.Done out err = HasWritten out text × IsUntouched err
WrittenText text status.WriteFault out err = HasFailed out text × HasTried err write_failed_line
WrittenText text _ out err = ⊥

abbrev pub WrittenDocuments : Trees → Status → (out err : Sink) → Type 0
WrittenDocuments documents s out err = WrittenText (Text documents) s out err

-- the line is written to `err`, with this status; or a front of it, with WriteFault
abbrev pub WrittenLine : List ℕ → (whole : Status) → Status → (err : Sink) → Type 0
WrittenLine line whole s err = ((s ≡ whole) × HasWritten err line) ⊎ ((s ≡ status.WriteFault) × HasFailed err line)

-- the answer alone is written
abbrev pub Written : Answer → Status → (out err : Sink) → Type 0
Written (answer.Documents trees) s out err = WrittenDocuments (trees_of trees) s out err
Written (answer.Listing text) s out err = WrittenText text s out err
Written (answer.Fault line) s out err = WrittenLine line status.Fault s err × IsUntouched out
Written (answer.Usage line) s out err = WrittenLine line status.Usage s err × IsUntouched out
Written (answer.ReadFailed line) s out err = WrittenLine line status.ReadFault s err × IsUntouched out
Written answer.Memory s out err = (s ≡ status.Memory) × HasTried err out_of_memory_line × IsUntouched out
