-- Changes of one object of the code, which is taken out of an arena, changed, and put back.
use Rattle.std.specs.Prelude.{◌≡◌, ◌↔◌, ◌<◌, ◌≤◌, ◌==◌}
use Rattle.star_values.specs.Types.{ℕ, Bool, true, false, List, [], length, insert, remove, slice_get, slice_set, Some, None, IsTrue, Result, Ok, Err, IsKey, same_key, ArenaStop, Sort, Value, Lent, Contents, Object, Held}
use Rattle.value_spec.specs.Values as plain
use Rattle.star_values.specs.declared.object.ArenaStop.TheVariants as stop
use Rattle.star_values.specs.declared.value.Sort.TheVariants as sort
use Rattle.star_values.specs.declared.lent.Lent.TheVariants as lent
use Rattle.star_values.specs.declared.object.Contents.TheVariants as contents
use Rattle.star_values.specs.Objects.{loops_in, object_in}
use Rattle.star_values.specs.View.{View, value_in}
use Rattle.star_values.specs.Owns.{Each, Grows, SameHeld}

abbrev pub lent_kind : Lent → Sort
lent_kind (lent.List vs) = sort.List
lent_kind (lent.Dict m) = sort.Dict

abbrev pub contents_kind : Contents → Sort
contents_kind (contents.List vs) = sort.List
contents_kind (contents.Dict m) = sort.Dict
contents_kind (contents.Lent l more) = lent_kind l
contents_kind (contents.Box v) = sort.Box
contents_kind (contents.Func f) = sort.Func

-- it may be changed, or why it may not
abbrev pub Unlocks : Result (Unit {0}) ArenaStop → Object → Type 0
Unlocks (Ok u) o = (o.frozen ≡ false) × ((loops_in o.contents == 0) ≡ true)
Unlocks (Err stop.Frozen) o = o.frozen ≡ true
Unlocks (Err stop.Iterating) o = (o.frozen ≡ false) × ((loops_in o.contents == 0) ≡ false)
Unlocks (Err _) o = ⊥

abbrev pub IsList : Contents → Type 0
IsList c = contents_kind c ≡ sort.List

abbrev pub IsDict : Contents → Type 0
IsDict c = contents_kind c ≡ sort.Dict

abbrev pub IsBox : Contents → Type 0
IsBox c = contents_kind c ≡ sort.Box

abbrev pub lent_pairs : Lent → List (Value × Value)
lent_pairs (lent.List vs) = []
lent_pairs (lent.Dict m) = m.value.entries

abbrev pub pairs_of : Contents → List (Value × Value)
pairs_of (contents.List vs) = []
pairs_of (contents.Dict m) = m.entries
pairs_of (contents.Lent l more) = lent_pairs l
pairs_of (contents.Box v) = []
pairs_of (contents.Func f) = []

-- what a change of members at a place did, or that there is no such place
abbrev pub SetsAt : Result (Unit {0}) ArenaStop → (old : List Value) → ℕ → Value → (new : List Value) → Type 0
SetsAt (Ok u) old i v new = (i < length old) × (new ≡ slice_set old i v)
SetsAt (Err stop.IndexRange) old i v new = (length old ≤ i) × (new ≡ old)
SetsAt (Err _) old i v new = ⊥

abbrev pub InsertsAt : Result (Unit {0}) ArenaStop → (old : List Value) → ℕ → Value → (new : List Value) → Type 0
InsertsAt (Ok u) old i v new = (i ≤ length old) × (new ≡ insert old i v)
InsertsAt (Err stop.IndexRange) old i v new = (length old < i) × (new ≡ old)
InsertsAt (Err stop.Memory) old i v new = new ≡ old
InsertsAt (Err _) old i v new = ⊥

abbrev pub RemovesAt : Result Value ArenaStop → (old : List Value) → ℕ → (new : List Value) → Type 0
RemovesAt (Ok v) old i new = (slice_get old i ≡ Some v) × (new ≡ remove old i)
RemovesAt (Err stop.IndexRange) old i new = (length old ≤ i) × (new ≡ old)
RemovesAt (Err _) old i new = ⊥

-- a list, or a box
abbrev pub has_members : Sort → Bool
has_members sort.List = true
has_members sort.Box = true
has_members _ = false

-- a list, or a box without a value
abbrev pub has_room : Contents → Bool
has_room (contents.List vs) = true
has_room (contents.Lent l more) = has_members (lent_kind l)
has_room (contents.Box None) = true
has_room _ = false

-- a list or a dict
abbrev pub is_walked : Sort → Bool
is_walked sort.List = true
is_walked sort.Dict = true
is_walked _ = false

-- a test of values that holds exactly where they are one
abbrev pub DecidesOne : (Value → Value → Bool) → Type 0
DecidesOne test = (v w : Value) → IsTrue (test v w) ↔ (v ≡ w)

-- those of the keys that are equal to this one are it
abbrev pub Identified : (held : List plain.Value) → Value → List (Value × Value) → Type 0
Identified held k ps = IsKey (value_in held k) × Each (λ (p : Value × Value). IsTrue (same_key (value_in held p.0) (value_in held k)) → p.0 ≡ k) ps

-- an object is out: another of its kind stands in its place
pub record IsOut (at : ℕ) (a b : View) : Type 0 where
  pub other : plain.Object
  pub store : b.store ≡ slice_set a.store at other
  pub held : b.held ≡ a.held
  pub grows : Grows a b

-- an object is back
pub record IsBack (at : ℕ) (object : Object) (a b : View) : Type 0 where
  pub store : b.store ≡ slice_set a.store at (object_in a.held object)
  pub held : b.held ≡ a.held
  pub grows : Grows a b

-- a test of held things that holds exactly where they are the same
abbrev pub MeansSame : (Held → Held → Bool) → Type 0
MeansSame test = (g h : Held) → IsTrue (test g h) ↔ SameHeld g h
