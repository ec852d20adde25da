use Rattle.std.proofs.Common.{Err, map as each, sym, subst}
use Rattle.file_find.specs.Finds.{file_of}
use Rattle.file_units.specs.Files.{IsReached, ReadsFound}
use Rattle.file_units.specs.Stops.{EndsAt}
use Rattle.file_units.specs.declared.units.HeldFiles.{HeldFiles}
use Rattle.file_units.specs.declared.units.RenderStop.{RenderStop}
use Rattle.file_units.specs.declared.units.Units.{Units}
use Rattle.file_units.proofs.Ending.{ends_stop, files_stop}
use Rattle.file_units.proofs.read.read_found.Goals as goal

pub returns-in-Err-clause-read : goal.returns-in-Err-clause-read
returns-in-Err-clause-read g c =
    let fs = each file_of c.args.found.now in
    let tree = g.F.Files.tree c.args.files.now in
    let P : RenderStop → Type 0 = λ s. ReadsFound c.args.ignore_unknown fs tree (Err s) in
    subst P (sym c.stop_with.ensures) (files_stop c.args.ignore_unknown fs tree c.in_ok-names.names c.in_ok-names.ensures c.in-Err.stop c.in-Err.ensures.read)

pub returns-in-Err-clause-cause : goal.returns-in-Err-clause-cause
returns-in-Err-clause-cause g c =
    let At = IsReached c.args.ignore_unknown (each file_of c.args.found.now) (g.F.Files.tree c.args.files.now) in
    let before = g.F.Files.faults c.args.files.now in
    let now = g.F.Files.faults c.read_files.new.files in
    let P : RenderStop → Type 0 = λ s. EndsAt {A = Units} At before now (Err s) in
    subst P (sym c.stop_with.ensures) (ends_stop HeldFiles Units At before now c.in_ok-names.names c.in-Err.stop c.in-Err.ensures.cause)

pub returns-in-Ok-clause-read : goal.returns-in-Ok-clause-read
returns-in-Ok-clause-read g c = (c.in-Ok.ensures.read, c.in_ok-names.ensures)
