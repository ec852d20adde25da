use Rattle.std.proofs.Common.{◌≡◌, ◌+◌, drop, map as each}
use Rattle.file_find.specs.Finds.{file_of}
use Rattle.file_units.proofs.Reading.{IsOn}
use Rattle.file_units.proofs.files.read_files.Given as goal

abbrev pub invariant-loop-file : goal.invariant-loop-file
invariant-loop-file g l =
    (g.F.Files.tree l.files ≡ g.F.Files.tree l.fn.files) × (g.F.Files.faults l.files ≡ g.F.Files.faults l.fn.files) × (l.number ≡ l.file-index + 1)
    × IsOn l.fn.ignore_unknown (each file_of l.fn.found) (g.F.Files.tree l.fn.files) l.number l.left (each file_of (drop l.file-index l.found)) l.held.blocks l.held.contents
