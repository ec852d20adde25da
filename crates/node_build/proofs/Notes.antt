-- One note behind others.
use Rattle.std.proofs.Common.{◌≡◌, List, [], ◌∷◌, ◌++◌, refl, ap}
use Rattle.star_values.specs.View.{arguments_in, notes_in}
use Rattle.star_values.specs.declared.value.BuiltNote.{BuiltNote}
use Rattle.template_meaning.specs.Run.{and_note}
use Rattle.value_spec.specs.Values as plain
use Rattle.value_spec.specs.Values.{a_built}

pub notes_last : (held : List plain.Value) (ns : List BuiltNote) (n : BuiltNote) → notes_in held (ns ++ n ∷ []) ≡ and_note (notes_in held ns) n.name (arguments_in held n.args)
notes_last held [] n = refl
notes_last held (m ∷ ns) n = ap (a_built m.name (arguments_in held m.args)) (notes_last held ns n)
