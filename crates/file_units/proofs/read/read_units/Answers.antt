use Rattle.std.proofs.Common.{List, ℕ, Option, Err, map as each, sym, subst, ◌∙◌}
use Rattle.file_find.specs.Finds.{file_of}
use Rattle.file_units.specs.Files.{IsReached, ReadsFound}
use Rattle.file_units.specs.Reads.{HasCause, ReadsUnits, Tree}
use Rattle.file_units.specs.Stops.{EndsAt, stop_with}
use Rattle.file_units.specs.declared.units.RenderStop.{RenderStop}
use Rattle.file_units.specs.declared.units.Units.{Units}
use Rattle.file_units.proofs.Ending.{found_none, found_some, none_cause, some_cause}
use Rattle.file_units.proofs.read.read_units.Goals as goal

pub read_found-requires : goal.read_found-requires
read_found-requires g c = c.in-Ok.ensures.few

pub returns-in-Err-clause-read : goal.returns-in-Err-clause-read
returns-in-Err-clause-read g c =
    let tree = g.F.Files.tree c.args.files.now in
    let P : RenderStop → Type 0 = λ s. ReadsUnits c.args.ignore_unknown c.args.paths.now tree (Err s) in
    let Q : List (List ℕ) → Type 0 = λ ns. P (stop_with ns c.in-Err.stop) in
    subst P (sym c.stop_with.ensures) (subst Q (sym c.new.ensures) (found_none c.args.ignore_unknown c.args.paths.now tree c.in-Err.stop c.in-Err.ensures.told))

pub returns-in-Err-clause-cause : goal.returns-in-Err-clause-cause
returns-in-Err-clause-cause g c =
    let tree = g.F.Files.tree c.args.files.now in
    let before = g.F.Files.faults c.args.files.now in
    let now = g.F.Files.faults c.find_files.new.files in
    let P : RenderStop → Type 0 = λ s. HasCause {A = Units} c.args.ignore_unknown c.args.paths.now tree before now (Err s) in
    let Q : List (List ℕ) → Type 0 = λ ns. P (stop_with ns c.in-Err.stop) in
    subst P (sym c.stop_with.ensures) (subst Q (sym c.new.ensures) (none_cause c.args.ignore_unknown c.args.paths.now tree before now c.in-Err.stop c.in-Err.ensures.cause))

pub returns-in-Ok-clause-read : goal.returns-in-Ok-clause-read
returns-in-Ok-clause-read g c =
    let fs = each file_of c.in-Ok.found in
    let tree = g.F.Files.tree c.args.files.now in
    let P : Option Tree → Type 0 = λ t. ReadsFound c.args.ignore_unknown fs t c.read_found.result in
    found_some c.args.ignore_unknown c.args.paths.now fs tree c.read_found.result c.in-Ok.ensures.told (subst P c.find_files.ensures.keeps c.read_found.ensures.read)

pub returns-in-Ok-clause-keeps : goal.returns-in-Ok-clause-keeps
returns-in-Ok-clause-keeps g c = c.read_found.ensures.keeps ∙ c.find_files.ensures.keeps

pub returns-in-Ok-clause-cause : goal.returns-in-Ok-clause-cause
returns-in-Ok-clause-cause g c =
    let fs = each file_of c.in-Ok.found in
    let tree = g.F.Files.tree c.args.files.now in
    let first = g.F.Files.faults c.args.files.now in
    let before = g.F.Files.faults c.find_files.new.files in
    let now = g.F.Files.faults c.read_found.new.files in
    let P : Option Tree → Type 0 = λ t. EndsAt {A = Units} (IsReached c.args.ignore_unknown fs t) before now c.read_found.result in
    some_cause c.args.ignore_unknown c.args.paths.now fs tree first before now c.read_found.result c.in-Ok.ensures.told c.in-Ok.ensures.near c.in-Ok.ensures.cause (subst P c.find_files.ensures.keeps c.read_found.ensures.cause)
