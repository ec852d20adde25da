use Rattle.std.proofs.Common.{◌≡◌, drop}
use Rattle.star_unbuilt.specs.Places.{earlier}
use Rattle.star_file.specs.Loads.{load_places}
use Rattle.star_tree.specs.Whole.{instructions_of}
use Rattle.passes_spec.specs.Unbuilt.{first_unbuilt}
use Rattle.star_file.proofs.loads.first_load.Given as goal

abbrev pub invariant-loop-stmt : goal.invariant-loop-stmt
invariant-loop-stmt l =
    earlier l.first (load_places (instructions_of l.program.file (drop l.stmt-index l.program.code))) ≡ first_unbuilt (load_places (instructions_of l.program.file l.program.code))
