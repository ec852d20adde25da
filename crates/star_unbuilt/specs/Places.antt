-- Where something isn't built, and the first of such places at the least line, as they are found one after another.
use Rattle.std.specs.Prelude.{List, [], Option, Some, None}
use Rattle.ytt_base.specs.declared.fault.Place.{Place}
use Rattle.code_spec.specs.Program.{Instruction, statement}
use Rattle.passes_spec.specs.Unbuilt.{first_place, first_unbuilt, unbuilt_statement}

-- where a statement of a program isn't built: it loads a module that comes later
abbrev pub load_places_of : Instruction → List Place
load_places_of (statement s) = unbuilt_statement s
load_places_of i = []

-- the first of those at the least line, where so far this one was
abbrev pub earlier : Option Place → List Place → Option Place
earlier None ps = first_unbuilt ps
earlier (Some p) ps = Some (first_place p ps)
