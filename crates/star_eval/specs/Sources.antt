-- The members that loops and targets go over.
use Rattle.std.specs.Prelude.{◌≡◌, ℕ, ℤ, pos, ◌+ℤ◌, ◌*ℤ◌, nat_lt, Bool, true, false, IsTrue, List, [], ◌∷◌, drop, get_or, slice_get, Option, Some, None, if◌then◌else◌}
use Rattle.value_spec.specs.Members.{members_in, numbers_of, walked_in}
use Rattle.value_spec.specs.Numbers.{range_count}
use Rattle.value_spec.specs.Values as plain
use Rattle.star_values.specs.Objects.{lent_in, walked_members}
use Rattle.star_values.specs.Owns.{Owns, OwnsAll, OwnsLent, object_at}
use Rattle.star_values.specs.View.{View, members_in as held_members, value_of, values_of}
use Rattle.star_values.specs.declared.value.Ref.{Ref}
use Rattle.star_values.specs.declared.value.Sort.{Sort}
use Rattle.star_values.specs.declared.value.Sort.TheVariants as sort
use Rattle.star_values.specs.declared.value.Value.{Value}
use Rattle.star_values.specs.declared.value.Value.TheVariants as value
use Rattle.star_eval.specs.declared.source.Members.{Members}
use Rattle.star_eval.specs.declared.source.Members.TheVariants as members
use Rattle.star_eval.specs.declared.source.Source.{Source}

abbrev pub all_members : View → Members → List plain.Value
all_members a (members.Listed vs) = values_of a vs
all_members a (members.Tuple r) = plain.values_in (held_members (get_or a.held r.at plain.none_value))
all_members a (members.Lent l) = walked_members (lent_in a.held l)
all_members a (members.Numbers n) = numbers_of n.from n.to n.step

abbrev pub are_members : View → Option Members → Option (List plain.Value)
are_members a None = None
are_members a (Some ms) = Some (all_members a ms)

-- the values are owned
abbrev pub OwnsMembers : View → Members → Type 0
OwnsMembers a (members.Listed vs) = OwnsAll a vs
OwnsMembers a (members.Tuple r) = Owns a (value.Tuple r)
OwnsMembers a (members.Lent l) = OwnsLent a l
OwnsMembers a (members.Numbers n) = Unit {0}

abbrev pub OwnsIfAny : View → Option Members → Type 0
OwnsIfAny a None = Unit {0}
OwnsIfAny a (Some ms) = OwnsMembers a ms

-- the number at a place of a range, if there is one
abbrev pub number_found : (from to step : ℤ) → (place : ℕ) → Option Value
number_found from to step place = if nat_lt place (range_count from to step) then Some (value.Int (from +ℤ (pos place *ℤ step))) else None

-- the members that are left
abbrev pub left_of : View → Source → List plain.Value
left_of a s = drop s.next (all_members a s.members)

abbrev pub OwnsSource : View → Source → Type 0
OwnsSource a s = OwnsMembers a s.members

-- what was found is the first of what is left, with what is left then
abbrev pub Advances : View → Source → Option (Value × Source) → Type 0
Advances a s None = left_of a s ≡ []
Advances a s (Some found) = (left_of a s ≡ value_of a found.0 ∷ left_of a found.1) × Owns a found.0 × OwnsSource a found.1

-- ---- what is walked

-- a list or a dict stands there
abbrev pub walked_sort : Option Sort → Bool
walked_sort (Some sort.List) = true
walked_sort (Some sort.Dict) = true
walked_sort _ = false

abbrev pub Walked : View → Ref → Type 0
Walked a r = IsTrue (walked_sort (object_at a r.at))

-- the members of a list, or the keys of a dict, that stands at a place
abbrev pub object_members : Option plain.Object → List plain.Value
object_members None = []
object_members (Some o) = walked_members o.contents

abbrev pub members_at : ℕ → plain.Store → List plain.Value
members_at i store = object_members (slice_get store i)

-- the object that a walk over a value goes through, and whose members are those of the value
abbrev pub IsWalkOf : View → plain.Value → Option Ref → Type 0
IsWalkOf a v None = walked_in v ≡ None
IsWalkOf a v (Some r) = (walked_in v ≡ Some r.at) × Walked a r × (members_in a.store v ≡ Some (members_at r.at a.store))
