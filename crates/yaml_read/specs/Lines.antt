-- Lines whose numbers a program can hold.
use Rattle.std.specs.Prelude.{◌+◌, ◌<◌, ◌^◌, List, [], ◌∷◌, length}
use Rattle.yaml_spec.specs.Lines.{Line}

-- from each line on, so many lines further down a line has a number of 32 bits
abbrev pub FitLines : List Line → Type 0
FitLines [] = Unit {0}
FitLines (l ∷ ls) = (l.place.line + length ls < 2 ^ 32) × FitLines ls
