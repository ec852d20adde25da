-- What tests of an arena find out.
use Rattle.std.specs.Prelude.{◌≡◌, Some}
use Rattle.star_values.specs.declared.value.Ref.{Ref}
use Rattle.star_values.specs.declared.value.Sort.{Sort}
use Rattle.star_values.specs.Owns.{held_at, object_at}
use Rattle.star_values.specs.View.{View}
use Rattle.object_arena.specs.Stands.{choose, is_object}

-- something of the kind stands where the reference says, which names this kind
abbrev pub IsOf : View → Sort → Ref → Type 0
IsOf a k r = (r.sort ≡ k) × (choose (is_object k) (object_at a r.at) (held_at a r.at) ≡ Some k)
