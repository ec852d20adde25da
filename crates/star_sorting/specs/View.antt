-- What the code's wish is in the definitions.
use Rattle.builtin_spec.specs.Sorting as plain
use Rattle.star_sorting.specs.declared.wanted.Wanted.{Wanted}

abbrev pub wanted_of : Wanted → plain.Wanted
wanted_of w = record { first_alone = w.first_alone; descending = w.descending }
