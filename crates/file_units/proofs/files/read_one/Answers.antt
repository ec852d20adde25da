use Rattle.std.proofs.Common.{◌≡◌, ℕ, ◌-◌, List, Ok, Err, subst, ap, rules}
use Rattle.file_find.specs.Finds.{file_of, stop_of}
use Rattle.world_spec.specs.Units.{role_of, source_of}
use Rattle.file_units.specs.Files.{ReadsFile, ReadsSource}
use Rattle.file_units.specs.Stops.{FailsAt}
use Rattle.file_units.specs.declared.units.HeldFile.{HeldFile}
use Rattle.file_units.proofs.Reading.{fails_first, fails_still, meaningless, unread, was_read}
use Rattle.file_units.proofs.files.read_one.Goals as goal

pub returns-in_err-bytes-clause-read : goal.returns-in_err-bytes-clause-read
returns-in_err-bytes-clause-read g c =
    let tree = g.F.Files.tree c.args.files.now in
    let f = file_of c.args.file.now in
    let left = c.args.left.now in
    let e = c.in_err-bytes.field-0.0 in
    let stopped : ReadsFile c.args.ignore_unknown c.args.number f left left tree (Err e) = unread c.args.ignore_unknown c.args.number f left left tree e c.in_err-bytes.ensures.told in
    search rules

pub returns-in_err-bytes-clause-cause : goal.returns-in_err-bytes-clause-cause
returns-in_err-bytes-clause-cause g c =
    let path = c.args.file.now.path in
    let before = g.F.Files.faults c.args.files.now in
    let now = g.F.Files.faults c.read_file.new.files in
    let e = c.in_err-bytes.field-0.0 in
    let stopped : FailsAt {A = HeldFile} (λ p. p ≡ path) before now (Err e) = fails_first path before now e c.in_err-bytes.ensures.cause in
    search rules

pub returns-in_err-held-clause-read : goal.returns-in_err-held-clause-read
returns-in_err-held-clause-read g c =
    let tree = g.F.Files.tree c.args.files.now in
    let f = file_of c.args.file.now in
    let left = c.args.left.now in
    let bytes = c.in_ok-bytes.bytes in
    let s = c.in_err-held.field-0.0 in
    let P : List ℕ → List ℕ → Type 0 = λ name bytes. ReadsSource c.args.number (role_of name) (Err s) (λ r. source_of r c.args.ignore_unknown c.args.number name bytes) in
    let of_bytes : P f.name bytes = subst (P f.name) c.as_slice.ensures (subst (λ name. P name c.as_slice.result.now) c.as_str.ensures c.in_err-held.ensures.read) in
    let stopped : ReadsFile c.args.ignore_unknown c.args.number f left left tree (Err (stop_of s)) = meaningless c.args.ignore_unknown c.args.number f left left bytes tree s c.in_ok-bytes.ensures.told of_bytes in
    search rules

pub returns-in_err-held-clause-cause : goal.returns-in_err-held-clause-cause
returns-in_err-held-clause-cause g c =
    let path = c.args.file.now.path in
    let before = g.F.Files.faults c.args.files.now in
    let now = g.F.Files.faults c.read_file.new.files in
    let s = c.in_err-held.field-0.0 in
    let stopped : FailsAt {A = HeldFile} (λ p. p ≡ path) before now (Err (stop_of s)) = fails_still (λ p. p ≡ path) before now s c.in_ok-bytes.ensures.cause in
    search rules

pub returns-clause-read : goal.returns-clause-read
returns-clause-read g c =
    let f = file_of c.args.file.now in
    let h = c.in_ok-held.held in
    let P : List ℕ → List ℕ → Type 0 = λ name bytes. ReadsSource c.args.number (role_of name) (Ok h) (λ r. source_of r c.args.ignore_unknown c.args.number name bytes) in
    let of_bytes : P f.name c.in_ok-bytes.bytes = subst (P f.name) c.as_slice.ensures (subst (λ name. P name c.as_slice.result.now) c.as_str.ensures c.in_ok-held.ensures.read) in
    was_read c.args.ignore_unknown c.args.number f c.args.left.now _ c.in_ok-bytes.bytes (g.F.Files.tree c.args.files.now) h c.in_ok-bytes.ensures.told (ap (λ n. c.args.left.now - n) c.len.ensures) of_bytes
