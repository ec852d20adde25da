use Rattle.std.proofs.Common.{◌≡◌, List, drop}
use Rattle.template_meaning.specs.Adding.{overrides}
use Rattle.star_values.specs.View.{notes_in}
use Rattle.value_spec.specs.Values as plain
use Rattle.node_build.proofs.add.overrides.Given as goal

abbrev pub invariant-loop-note : goal.invariant-loop-note
invariant-loop-note l = (held : List plain.Value) → overrides (notes_in held l.notes) ≡ overrides (notes_in held (drop l.note-index l.notes))
