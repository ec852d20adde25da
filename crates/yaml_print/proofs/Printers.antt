-- What is put into a printer.
use Rattle.std.proofs.Common.{◌≡◌, ℕ, true, false, List, [], ◌++◌, length, take, drop, Option, Some, None, Ok, Err, refl, ap, sym, ◌∙◌, append_assoc, append-nil}
use Rattle.std.proofs.Math.Seq.{take-append_seam}
use Rattle.std.proofs.lemmas.List.{take-append-drop}
use Rattle.ytt_outside.specs.Counts.{Rose}
use Rattle.ytt_outside.specs.Sink.{GrowsByFront, grown}
use Rattle.ytt_outside.specs.declared.sink.SinkFailed.{SinkFailed}
use Rattle.yaml_print.specs.Printer.{Finished, IsPrinter, waiting}
use Rattle.yaml_print.specs.Puts.{Puts}
use Rattle.yaml_print.specs.Start.{Start}
use Rattle.yaml_print.specs.declared.printer.Printer.{Printer}

grown-grown : (o : Option (List ℕ)) (s t : List ℕ) → grown (grown o s) t ≡ grown o (s ++ t)
grown-grown None s t = refl
grown-grown (Some held) s t = ap Some (append_assoc held s t)

behind-both : (taken rest text bytes : List ℕ) → taken ++ rest ≡ text → taken ++ (rest ++ bytes) ≡ text ++ bytes
behind-both taken rest text bytes e = sym (append_assoc taken rest bytes) ∙ ap (λ t. t ++ bytes) e

-- nothing is put where something has failed
pub put_failed : {O : Type 0} (held : O → Option (List ℕ)) (faults : O → ℕ) (p : Printer O) (bytes : List ℕ) → p.failed ≡ true → Puts (IsPrinter held faults) p p bytes
put_failed held faults p bytes e = record {
  behind = λ start text h. record {
    taken = h.taken;
    rest = h.rest ++ bytes;
    parts = behind-both h.taken h.rest text bytes h.parts;
    told = h.told;
    stands = rw e (rw e at h.stands);
    same_out = h.same_out;
    same_buffer = h.same_buffer;
  };
}

-- What waited was written, and the bytes behind it.
pub put_sent : {O : Type 0} (held : O → Option (List ℕ)) (faults : O → ℕ) (p q : Printer O) (bytes : List ℕ) → p.failed ≡ false → q.failed ≡ false → q.out.ghost_name ≡ p.out.ghost_name
    → q.buffer.ghost_name ≡ p.buffer.ghost_name → held q.out.now ≡ grown (held p.out.now) (waiting p ++ bytes) → faults q.out.now ≡ faults p.out.now → q.filled ≡ 0 → Puts (IsPrinter held faults) p q bytes
put_sent held faults p q bytes f g n b w k z = record {
  behind = λ start text h.
      let m : (h.rest ≡ waiting p) × (faults p.out.now ≡ start.faults) = rw f at h.stands in record {
        taken = h.taken ++ (waiting p ++ bytes);
        rest = [];
        parts = append-nil (h.taken ++ (waiting p ++ bytes)) ∙ behind-both h.taken (waiting p) text bytes (ap (λ t. h.taken ++ t) (sym m.0) ∙ h.parts);
        told = w ∙ ap (λ o. grown o (waiting p ++ bytes)) h.told ∙ grown-grown start.held h.taken (waiting p ++ bytes);
        stands = rw (g, z) (refl, k ∙ m.1);
        same_out = n ∙ h.same_out;
        same_buffer = b ∙ h.same_buffer;
      };
}

-- A front of what waited and of the bytes behind it was written.
pub put_cut : {O : Type 0} (held : O → Option (List ℕ)) (faults : O → ℕ) (p q : Printer O) (bytes : List ℕ) → p.failed ≡ false → q.failed ≡ true → q.out.ghost_name ≡ p.out.ghost_name
    → q.buffer.ghost_name ≡ p.buffer.ghost_name → GrowsByFront (held p.out.now) (held q.out.now) (waiting p ++ bytes) → Rose (faults p.out.now) (faults q.out.now) → Puts (IsPrinter held faults) p q bytes
put_cut held faults p q bytes f g n b (i, w) k = record {
  behind = λ start text h.
      let m : (h.rest ≡ waiting p) × (faults p.out.now ≡ start.faults) = rw f at h.stands in record {
        taken = h.taken ++ take i (waiting p ++ bytes);
        rest = drop i (waiting p ++ bytes);
        parts =
            append_assoc h.taken (take i (waiting p ++ bytes)) (drop i (waiting p ++ bytes)) ∙ ap (λ t. h.taken ++ t) (take-append-drop i (waiting p ++ bytes))
            ∙ behind-both h.taken (waiting p) text bytes (ap (λ t. h.taken ++ t) (sym m.0) ∙ h.parts);
        told = w ∙ ap (λ o. grown o (take i (waiting p ++ bytes))) h.told ∙ grown-grown start.held h.taken (take i (waiting p ++ bytes));
        stands = rw (g, ← m.1) k;
        same_out = n ∙ h.same_out;
        same_buffer = b ∙ h.same_buffer;
      };
}

-- ---- at the end

front_of : (taken rest text : List ℕ) → taken ++ rest ≡ text → take (length taken) text ≡ taken
front_of taken rest text e = rw (← e) (take-append_seam taken rest)

-- Something failed.
pub finished_cut : {O : Type 0} (held : O → Option (List ℕ)) (faults : O → ℕ) (start : Start) (p : Printer O) (text : List ℕ) (e : SinkFailed) → p.failed ≡ true → IsPrinter held faults start p text
    → Finished held faults start p text (Err e)
finished_cut held faults start p text e f h = record {
  bytes = (length h.taken, h.told ∙ ap (grown start.held) (sym (front_of h.taken h.rest text h.parts)));
  cause = rw f at h.stands;
  same_out = h.same_out;
  same_buffer = h.same_buffer;
}

-- Nothing failed, and nothing waits.
pub finished_whole : {O : Type 0} (held : O → Option (List ℕ)) (faults : O → ℕ) (start : Start) (p : Printer O) (text : List ℕ) (u : Unit {0}) → p.failed ≡ false → p.filled ≡ 0
    → IsPrinter held faults start p text → Finished held faults start p text (Ok u)
finished_whole held faults start p text u f z h =
    let m : (h.rest ≡ take p.filled p.buffer.now) × (faults p.out.now ≡ start.faults) = rw f at h.stands in record {
      bytes = h.told ∙ ap (grown start.held) (sym (append-nil h.taken) ∙ ap (λ t. h.taken ++ t) (sym (rw z at m.0)) ∙ h.parts);
      cause = m.1;
      same_out = h.same_out;
      same_buffer = h.same_buffer;
    }
