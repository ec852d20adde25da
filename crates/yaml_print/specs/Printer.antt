-- What a printer has given to its sink, and what waits.
use Rattle.std.specs.Prelude.{◌≡◌, ℕ, ◌++◌, Bool, true, false, List, take, Option, Result}
use Rattle.std.specs.Borrow.{MutBor}
use Rattle.ytt_outside.specs.Counts.{Rose}
use Rattle.ytt_outside.specs.Sink.{SinkCounts, Writes, grown}
use Rattle.ytt_outside.specs.declared.sink.SinkFailed.{SinkFailed}
use Rattle.yaml_print.specs.Start.{Start}
use Rattle.yaml_print.specs.declared.printer.Printer.{Printer}

-- the start of a printer over this sink and buffer
abbrev pub start_of : {O : Type 0} → (O → Option (List ℕ)) → (O → ℕ) → MutBor O → MutBor (List ℕ) → Start
start_of held faults out buffer = record { held = held out.now; faults = faults out.now; out = out.ghost_name; buffer = buffer.ghost_name }

-- the bytes that wait
abbrev pub waiting : {O : Type 0} → Printer O → List ℕ
waiting p = take p.filled p.buffer.now

-- While nothing has failed, what the sink didn't take waits, and its count is as before; else the count rose.
abbrev pub Stands : Bool → ℕ → ℕ → List ℕ → List ℕ → Type 0
Stands false before now rest waiting = (rest ≡ waiting) × (now ≡ before)
Stands true before now rest waiting = Rose before now

-- The text was put in all, and the sink took a front of it.
pub record IsPrinter {O : Type 0} (held : O → Option (List ℕ)) (faults : O → ℕ) (start : Start) (p : Printer O) (text : List ℕ) : Type 0 where
  pub taken : List ℕ
  pub rest : List ℕ
  pub parts : taken ++ rest ≡ text
  pub told : held p.out.now ≡ grown start.held taken
  pub stands : Stands p.failed start.faults (faults p.out.now) rest (waiting p)
  pub same_out : p.out.ghost_name ≡ start.out
  pub same_buffer : p.buffer.ghost_name ≡ start.buffer

-- The sink has all of the text, or on failure a front of it.
pub record Finished {O : Type 0} (held : O → Option (List ℕ)) (faults : O → ℕ) (start : Start) (p : Printer O) (text : List ℕ) (r : Result (Unit {0}) SinkFailed) : Type 0 where
  pub bytes : Writes start.held (held p.out.now) text r
  pub cause : SinkCounts start.faults (faults p.out.now) r
  pub same_out : p.out.ghost_name ≡ start.out
  pub same_buffer : p.buffer.ghost_name ≡ start.buffer

-- Whatever was put is written.
abbrev pub Finishes : {O : Type 0} → (O → Option (List ℕ)) → (O → ℕ) → Printer O → Printer O → Result (Unit {0}) SinkFailed → Type 0
Finishes held faults before now r = (start : Start) (text : List ℕ) → IsPrinter held faults start before text → Finished held faults start now text r
