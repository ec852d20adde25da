-- Where a program loads modules that come later.
use Rattle.std.specs.Prelude.{List, [], ◌∷◌, ◌++◌}
use Rattle.ytt_base.specs.declared.fault.Place.{Place}
use Rattle.code_spec.specs.Program.{Instruction}
use Rattle.star_unbuilt.specs.Places.{load_places_of}

abbrev pub load_places : List Instruction → List Place
load_places [] = []
load_places (i ∷ is) = load_places_of i ++ load_places is
