-- Texts that are put behind what is shown so far, in the order in which they are shown.
use Rattle.std.specs.Prelude.{◌≡◌, ◌∷◌, ◌++◌}
use Rattle.star_steps.specs.Names.{ℕ, List, [], length, map as each, codes, Option, Some, None, Place, Computation, give, paid, paid_by, text_cost, ◌>>=◌, View, Owns, OwnsAll, OwnsField, OwnsFields, OwnsPair, Each, fields_in, pair_in, value_in}
use Rattle.code_spec.specs.Code.{Name}
use Rattle.value_spec.specs.Values as plain
use Rattle.text_spec.specs.Shown.{shown}
use Rattle.star_shown.specs.declared.members.Member.{Member}
use Rattle.star_shown.specs.declared.members.Member.TheVariants as member
use Rattle.star_shown.specs.declared.members.Members.{Members}
use Rattle.star_shown.specs.declared.members.Members.TheVariants as members

abbrev pub Texts : Type 0
Texts = Computation (Unit {0}) (List ℕ)

-- what gives all that is shown then, from what is shown so far
abbrev pub Push : Type 0
Push = List ℕ → Texts

-- a text behind what is shown
abbrev pub behind : List ℕ → Texts → Texts
behind front m = m >>= λ t. give (front ++ t)

-- a value, where what stands in it may stand in so many levels
unfoldable pub showing : (levels : ℕ) → Place → plain.Value → Texts
showing n p v = shown n p v

-- ---- members

abbrev pub value_pushed : ℕ → Place → plain.Value → Push
value_pushed n p v front = paid p (behind front (showing n p v))

abbrev pub pair_pushed : ℕ → Place → plain.Value × plain.Value → Push
pair_pushed n p q front = paid p (behind front (showing n p q.0) >>= λ l. behind (l ++ codes ": ") (showing n p q.1))

abbrev pub field_pushed : ℕ → Place → Name × plain.Value → Push
field_pushed n p q front = paid p (paid_by (text_cost (length q.0)) p (behind ((front ++ q.0) ++ codes " = ") (showing n p q.1)))

abbrev pub more_pushed : List Push → Push
more_pushed [] front = give front
more_pushed (m ∷ ms) front = m (front ++ codes ", ") >>= more_pushed ms

abbrev pub all_pushed : List Push → Push
all_pushed [] front = give front
all_pushed (m ∷ ms) front = m front >>= more_pushed ms

-- members between an opening and a closing
abbrev pub pushed_within : (opening : List ℕ) → List Push → (closing : List ℕ) → Push
pushed_within opening ms closing front = all_pushed ms (front ++ opening) >>= λ l. give (l ++ closing)

-- ---- of the code

abbrev pub member_pushed : ℕ → Place → (held : List plain.Value) → Member → Push
member_pushed n p held (member.Value v) = value_pushed n p (value_in held v)
member_pushed n p held (member.Pair k v) = pair_pushed n p (value_in held k, value_in held v)
member_pushed n p held (member.Field f) = field_pushed n p (f.now.name, value_in held f.now.value)

abbrev pub pushes : ℕ → Place → (held : List plain.Value) → Members → List Push
pushes n p held (members.Values vs) = each (value_pushed n p) (each (value_in held) vs.now)
pushes n p held (members.Pairs ps) = each (pair_pushed n p) (each (pair_in held) ps)
pushes n p held (members.Fields fs) = each (field_pushed n p) (plain.fields_in (fields_in held fs.now))

-- the first, and the others
abbrev pub IsFirst : ℕ → Place → (held : List plain.Value) → List Push → Option (Member × Members) → Type 0
IsFirst n p held ms None = ms ≡ []
IsFirst n p held ms (Some f) = ms ≡ member_pushed n p held f.0 ∷ pushes n p held f.1

abbrev pub OwnsMember : View → Member → Type 0
OwnsMember a (member.Value v) = Owns a v
OwnsMember a (member.Pair k v) = Owns a k × Owns a v
OwnsMember a (member.Field f) = OwnsField a f.now

abbrev pub OwnsMembers : View → Members → Type 0
OwnsMembers a (members.Values vs) = OwnsAll a vs.now
OwnsMembers a (members.Pairs ps) = Each (OwnsPair a) ps
OwnsMembers a (members.Fields fs) = OwnsFields a fs.now

abbrev pub OwnsFirst : View → Option (Member × Members) → Type 0
OwnsFirst a None = Unit {0}
OwnsFirst a (Some f) = OwnsMember a f.0 × OwnsMembers a f.1
