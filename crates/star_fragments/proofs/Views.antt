-- The plain child of an item.
use Rattle.star_steps.proofs.Names.{◌≡◌, List, rules, child, BuiltItem, the_lemmas, body_in, child_in, notes_in, scalar_key}
use Rattle.value_spec.specs.Values as plain

pub child_in-item : (held : List plain.Value) (i : BuiltItem) → child_in held i ≡ child i.place (notes_in held i.notes) (scalar_key i.key) (body_in held i.value)
child_in-item held i = search (rules, the_lemmas)
