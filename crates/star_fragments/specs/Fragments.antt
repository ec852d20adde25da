-- What a fragment of an arena is made of.
use Rattle.std.specs.Prelude.{◌≡◌, ◌<◌}
use Rattle.star_steps.specs.Names.{ℕ, Option, Some, None, get_or, Scalar, ItemKind, Children, none_value, body_at, body_under, child_count, View, children_in, item_kind_in, Ref}

-- the kind of its items
abbrev pub kind_at : View → Ref → ItemKind
kind_at a r = item_kind_in (get_or a.held r.at none_value)

-- what its items are
abbrev pub children_at : View → Ref → Children
children_at a r = children_in (get_or a.held r.at none_value)

-- the place where the body under a key stands, if there is one
abbrev pub Finds : Scalar → Children → Option ℕ → Type 0
Finds x cs None = body_under x cs ≡ None
Finds x cs (Some i) = (i < child_count cs) × (body_under x cs ≡ body_at i cs)
