use Rattle.std.proofs.Common.{◌≡◌, ℕ, ◌+◌, ◌++◌, List, [], ◌∷◌, drop, Option, Err, map as each, refl, sym, ap, subst, ◌∙◌, rules}
use Rattle.std.proofs.lemmas.List.{drop_all}
use Rattle.ytt_laws.proofs.Lists.{dropped}
use Rattle.file_find.specs.Finds.{file_of}
use Rattle.file_find.specs.declared.found.FoundFile.{FoundFile}
use Rattle.star_functions.specs.declared.programs.FileBlock.{FileBlock}
use Rattle.file_units.specs.Files.{IsReached, IsRead, ReadsFile, ReadsFiles}
use Rattle.file_units.specs.Reads.{Tree}
use Rattle.file_units.specs.Stops.{FailsAt}
use Rattle.file_units.specs.declared.units.Content.{Content}
use Rattle.file_units.specs.declared.units.HeldFile.{HeldFile}
use Rattle.file_units.specs.declared.units.HeldFiles.{HeldFiles}
use Rattle.file_units.proofs.Reading.{IsOn, begins, ends, fails_later, goes_on, has_at, reaches, stops}
use Rattle.file_units.proofs.files.read_files.Goals as goal

pub loop-file-init : goal.loop-file-init
loop-file-init g c =
    (refl, refl, refl, begins c.args.ignore_unknown (each file_of c.args.found.now) (g.F.Files.tree c.args.files.now) c.new-held.result.blocks c.new-held.result.contents c.new-held.ensures.blocks c.new-held.ensures.contents)

pub loop-file-preserved : goal.loop-file-preserved
loop-file-preserved g c =
    let ignore = c.args.ignore_unknown in
    let gs = c.args.found.now in
    let fs = each file_of gs in
    let tree = g.F.Files.tree c.args.files.now in
    let i = c.loop-file.file-index in
    let file = c.file-item.result in
    let n = c.loop-file.number in
    let left = c.loop-file.left in
    let now = c.read_one.new.left in
    let h = c.in_ok-one.one in
    let bs = c.loop-file.held.blocks in
    let cs = c.loop-file.held.contents in
    let rest = each file_of (drop (i + 1) gs) in
    let inv = c.loop-file.invariant in
    let next = dropped gs i file (rw c.as_slice-file-items.ensures at c.loop-file-test.true) (rw c.as_slice-file-items.ensures at c.file-item.is) in
    let Left : List FoundFile → Type 0 = λ left_files. IsOn ignore fs tree n left (each file_of left_files) bs cs in
    let Over : Option Tree → Type 0 = λ t. IsRead ignore n (file_of file) left now t h in
    let Blocks : List FileBlock → Type 0 = λ bs. IsOn ignore fs tree (n + 1) now rest bs c.push.new.self.contents in
    let Contents : List Content → Type 0 = λ cs. IsOn ignore fs tree (n + 1) now rest (bs ++ h.block ∷ []) cs in
    let on = goes_on ignore fs tree n left (file_of file) rest bs cs (subst Left next inv.3) now h (subst Over inv.0 c.in_ok-one.ensures.read) c.in_ok-one.ensures.whole in (
      c.read_one.ensures.keeps ∙ inv.0,
      c.in_ok-one.ensures.cause ∙ inv.1,
      ap (λ k. k + 1) inv.2,
      subst Blocks (sym c.in_ok-push.ensures.blocks) (subst Contents (sym c.in_ok-push.ensures.contents) on),
    )

pub returns-in_err-one-clause-read : goal.returns-in_err-one-clause-read
returns-in_err-one-clause-read g c =
    let ignore = c.args.ignore_unknown in
    let gs = c.args.found.now in
    let fs = each file_of gs in
    let tree = g.F.Files.tree c.args.files.now in
    let i = c.loop-file.file-index in
    let file = c.file-item.result in
    let n = c.loop-file.number in
    let left = c.loop-file.left in
    let bs = c.loop-file.held.blocks in
    let cs = c.loop-file.held.contents in
    let inv = c.loop-file.invariant in
    let e = c.in_err-one.field-0.0 in
    let next = dropped gs i file (rw c.as_slice-file-items.ensures at c.loop-file-test.true) (rw c.as_slice-file-items.ensures at c.file-item.is) in
    let Left : List FoundFile → Type 0 = λ left_files. IsOn ignore fs tree n left (each file_of left_files) bs cs in
    let Over : Option Tree → Type 0 = λ t. ReadsFile ignore n (file_of file) left c.read_one.new.left t (Err e) in
    let stopped : ReadsFiles ignore fs tree (Err e) = stops ignore fs tree n left (file_of file) (each file_of (drop (i + 1) gs)) bs cs (subst Left next inv.3) c.read_one.new.left e (subst Over inv.0 c.in_err-one.ensures.read) in
    search rules

pub returns-in_err-one-clause-keeps : goal.returns-in_err-one-clause-keeps
returns-in_err-one-clause-keeps g c = c.read_one.ensures.keeps ∙ c.loop-file.invariant.0

pub returns-in_err-one-clause-cause : goal.returns-in_err-one-clause-cause
returns-in_err-one-clause-cause g c =
    let ignore = c.args.ignore_unknown in
    let gs = c.args.found.now in
    let fs = each file_of gs in
    let tree = g.F.Files.tree c.args.files.now in
    let i = c.loop-file.file-index in
    let file = c.file-item.result in
    let n = c.loop-file.number in
    let left = c.loop-file.left in
    let bs = c.loop-file.held.blocks in
    let cs = c.loop-file.held.contents in
    let rest = drop (i + 1) gs in
    let inv = c.loop-file.invariant in
    let e = c.in_err-one.field-0.0 in
    let next = dropped gs i file (rw c.as_slice-file-items.ensures at c.loop-file-test.true) (rw c.as_slice-file-items.ensures at c.file-item.is) in
    let Left : List FoundFile → Type 0 = λ left_files. IsOn ignore fs tree n left (each file_of left_files) bs cs in
    let first = g.F.Files.faults c.args.files.now in
    let before = g.F.Files.faults c.loop-file.files in
    let now = g.F.Files.faults c.read_one.new.files in
    let At : List ℕ → Type 0 = λ p. p ≡ file.path in
    let Far : List ℕ → Type 0 = IsReached ignore fs tree in
    let stopped : FailsAt {A = HeldFiles} Far first now (Err e) =
    fails_later HeldFile HeldFiles At Far first before now e inv.1 (reaches ignore fs tree n left (file_of file) (each file_of rest) bs cs (subst Left next inv.3) (has_at gs i file rest next)) c.in_err-one.ensures.cause in
    search rules

pub returns-in_err-push-clause-keeps : goal.returns-in_err-push-clause-keeps
returns-in_err-push-clause-keeps g c = c.read_one.ensures.keeps ∙ c.loop-file.invariant.0

pub returns-clause-read : goal.returns-clause-read
returns-clause-read g c =
    let gs = c.args.found.now in
    let tree = g.F.Files.tree c.args.files.now in
    let inv = c.loop-file.invariant in
    let none : drop c.loop-file.file-index gs ≡ [] = drop_all c.loop-file.file-index gs (rw c.as_slice-file-items.ensures at c.loop-file-test.false) in
    let Left : List FoundFile → Type 0 = λ left_files. IsOn c.args.ignore_unknown (each file_of gs) tree c.loop-file.number c.loop-file.left (each file_of left_files) c.loop-file.held.blocks c.loop-file.held.contents in
    ends c.args.ignore_unknown (each file_of gs) tree c.loop-file.number c.loop-file.left c.loop-file.held.blocks c.loop-file.held.contents (subst Left none inv.3)

pub returns-clause-runs : goal.returns-clause-runs
returns-clause-runs g c = c.loop-file.invariant.3.may_run

pub returns-clause-keeps : goal.returns-clause-keeps
returns-clause-keeps g c = c.loop-file.invariant.0

pub returns-clause-cause : goal.returns-clause-cause
returns-clause-cause g c = c.loop-file.invariant.1
