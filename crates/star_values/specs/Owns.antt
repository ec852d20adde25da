-- Which values an arena owns, how it grows, and what holds of each.
use Rattle.std.specs.Prelude.{◌≡◌, ◌∷◌, ◌++◌}
use Rattle.star_values.specs.Types.{ℕ, List, [], length, Option, Some, None, IsTrue, slice_get, IsKey, same_key, Store, text_value, tuple_value, range_value, struct_value, fragment_value, module_value, native_value, of_list, of_dict, of_box, of_function, Sort, Ref, Value, NamedValue, CallArgs, BuiltNote, BuiltItem, fold-BuiltItem, BuiltItem-F, BuiltValue-F, Thing, Held, NamedBox, Function, Lent, Contents, Object}
use Rattle.value_spec.specs.Values as plain
use Rattle.star_values.specs.declared.value.Sort.TheVariants as sort
use Rattle.star_values.specs.declared.value.Value.TheVariants as value
use Rattle.star_values.specs.declared.held.Thing.TheVariants as thing
use Rattle.star_values.specs.declared.held.Held.TheVariants as held
use Rattle.star_values.specs.declared.lent.Lent.TheVariants as lent
use Rattle.star_values.specs.declared.object.Contents.TheVariants as contents
use Rattle.star_values.specs.View.{View, value_of}
use Rattle.star_values.specs.Objects.{held_value, held_of, store_in, view_of, Slots}

-- ---- kinds

abbrev pub held_sort : Option plain.Value → Option Sort
held_sort (Some (text_value t)) = Some sort.Text
held_sort (Some (tuple_value vs)) = Some sort.Tuple
held_sort (Some (range_value start stop step)) = Some sort.Range
held_sort (Some (struct_value fs)) = Some sort.Struct
held_sort (Some (fragment_value k cs)) = Some sort.Fragment
held_sort (Some (module_value x fs)) = Some sort.Module
held_sort (Some (native_value n)) = Some sort.Native
held_sort _ = None

abbrev pub contents_sort : plain.Contents → Sort
contents_sort (of_list vs) = sort.List
contents_sort (of_dict ps) = sort.Dict
contents_sort (of_box v) = sort.Box
contents_sort (of_function f) = sort.Func

abbrev pub object_sort : Option plain.Object → Option Sort
object_sort None = None
object_sort (Some o) = Some (contents_sort o.contents)

-- the kind of what is held at a place, and of an object
abbrev pub held_at : View → ℕ → Option Sort
held_at a i = held_sort (slice_get a.held i)

abbrev pub object_at : View → ℕ → Option Sort
object_at a i = object_sort (slice_get a.store i)

-- ---- owning

-- a held thing, or an object, of a kind stands there
abbrev pub OwnsHeldRef : View → Sort → Ref → Type 0
OwnsHeldRef a k r = (r.sort ≡ k) × (held_at a r.at ≡ Some k)

abbrev pub OwnsObjectRef : View → Sort → Ref → Type 0
OwnsObjectRef a k r = (r.sort ≡ k) × (object_at a r.at ≡ Some k)

-- it stands in the arena, and is of the kind that its variant names
abbrev pub Owns : View → Value → Type 0
Owns a value.None = Unit {0}
Owns a (value.Bool b) = Unit {0}
Owns a (value.Int z) = Unit {0}
Owns a (value.Text r) = OwnsHeldRef a sort.Text r
Owns a (value.List r) = OwnsObjectRef a sort.List r
Owns a (value.Dict r) = OwnsObjectRef a sort.Dict r
Owns a (value.Tuple r) = OwnsHeldRef a sort.Tuple r
Owns a (value.Range r) = OwnsHeldRef a sort.Range r
Owns a (value.Struct r) = OwnsHeldRef a sort.Struct r
Owns a (value.Fragment r) = OwnsHeldRef a sort.Fragment r
Owns a (value.Func r) = OwnsObjectRef a sort.Func r
Owns a (value.Native r) = OwnsHeldRef a sort.Native r
Owns a (value.Module r) = OwnsHeldRef a sort.Module r

-- it holds of each
abbrev pub Each : {A : Type 0} → (A → Type 0) → List A → Type 0
Each P [] = Unit {0}
Each P (x ∷ xs) = P x × Each P xs

abbrev pub OwnsAll : View → List Value → Type 0
OwnsAll a vs = Each (Owns a) vs

abbrev pub OwnsOption : View → Option Value → Type 0
OwnsOption a None = Unit {0}
OwnsOption a (Some v) = Owns a v

abbrev pub OwnsField : View → NamedValue → Type 0
OwnsField a f = Owns a f.value

abbrev pub OwnsFields : View → List NamedValue → Type 0
OwnsFields a fs = Each (OwnsField a) fs

abbrev pub OwnsArguments : View → CallArgs → Type 0
OwnsArguments a args = OwnsAll a args.positional × OwnsFields a args.named

-- a variable: its name is a text, and its box a box
abbrev pub OwnsVariable : View → NamedBox → Type 0
OwnsVariable a b = OwnsHeldRef a sort.Text b.name × OwnsObjectRef a sort.Box b.at

abbrev pub OwnsEnv : View → List NamedBox → Type 0
OwnsEnv a bs = Each (OwnsVariable a) bs

-- the pair of a dict, whose first part is a key
abbrev pub OwnsPair : View → Value × Value → Type 0
OwnsPair a p = Owns a p.0 × Owns a p.1 × IsKey (value_of a p.0)

abbrev pub OwnsFunction : View → Function → Type 0
OwnsFunction a f = OwnsEnv a f.boxes × OwnsAll a f.defaults

-- ---- what was built

-- the values of the arguments of notes
abbrev pub field_values : List NamedValue → List Value
field_values [] = []
field_values (f ∷ fs) = f.value ∷ field_values fs

abbrev pub note_values : List BuiltNote → List Value
note_values [] = []
note_values (n ∷ ns) = n.args.positional ++ (field_values n.args.named ++ note_values ns)

abbrev pub all_values : List (List Value) → List Value
all_values [] = []
all_values (vs ∷ more) = vs ++ all_values more

abbrev pub body_values : BuiltValue-F (List Value) (List Value) → List Value
body_values (BuiltValue-F.One t) = []
body_values (BuiltValue-F.Map is) = all_values is
body_values (BuiltValue-F.List is) = all_values is

abbrev pub item_values : BuiltItem-F (List Value) (List Value) → List Value
item_values i = note_values i.notes ++ i.value

-- all values that stand in an item
abbrev pub values_of_item : BuiltItem → List Value
values_of_item = fold-BuiltItem (List Value) (List Value) body_values item_values

abbrev pub OwnsItem : View → BuiltItem → Type 0
OwnsItem a i = OwnsAll a (values_of_item i)

abbrev pub OwnsBuilt : View → List BuiltItem → Type 0
OwnsBuilt a is = Each (OwnsItem a) is

-- ---- what stands in an arena

abbrev pub OwnsThing : View → Thing → Type 0
OwnsThing a (thing.Range start stop step) = Unit {0}
OwnsThing a (thing.Struct fs) = OwnsFields a fs
OwnsThing a (thing.Module x fs) = OwnsFields a fs
OwnsThing a (thing.Native by x on) = OwnsOption a on
OwnsThing a (thing.Replacement v) = Owns a v
OwnsThing a (thing.Fragment k is) = OwnsBuilt a is

abbrev pub OwnsHeld : View → Held → Type 0
OwnsHeld a (held.Text w) = Unit {0}
OwnsHeld a (held.Tuple vs) = OwnsAll a vs.items
OwnsHeld a (held.Other n) = OwnsThing a n.thing

abbrev pub OwnsLent : View → Lent → Type 0
OwnsLent a (lent.List vs) = OwnsAll a vs.value.items
OwnsLent a (lent.Dict m) = Each (OwnsPair a) m.value.entries

abbrev pub OwnsContents : View → Contents → Type 0
OwnsContents a (contents.List vs) = OwnsAll a vs.items
OwnsContents a (contents.Dict m) = Each (OwnsPair a) m.entries
OwnsContents a (contents.Lent l more) = OwnsLent a l
OwnsContents a (contents.Box v) = OwnsOption a v
OwnsContents a (contents.Func f) = OwnsFunction a f

abbrev pub OwnsObject : View → Object → Type 0
OwnsObject a o = OwnsContents a o.contents

-- ---- growing

-- What is owned stays owned, of its kind and the same value.
pub record Grows (a b : View) : Type 0 where
  pub held : (i : ℕ) (x : plain.Value) → slice_get a.held i ≡ Some x → slice_get b.held i ≡ Some x
  pub objects : (i : ℕ) (k : Sort) → object_at a i ≡ Some k → object_at b i ≡ Some k

-- ---- keys

-- two of these values that are equal as keys are one value
abbrev pub OneKey : (a : View) → Value → Type 0
OneKey a k = (v : Value) → Owns a v → IsTrue (same_key (value_of a v) (value_of a k)) → v ≡ k

-- ---- what holds of each arena

-- a thing's number is its place
abbrev pub NumberedAt : ℕ → Held → Type 0
NumberedAt n (held.Text w) = Unit {0}
NumberedAt n (held.Tuple vs) = Unit {0}
NumberedAt n (held.Other o) = o.number ≡ n

-- a held thing is made of those before it
abbrev pub InOrder : Store → List plain.Value → List Held → Type 0
InOrder st before [] = Unit {0}
InOrder st before (h ∷ hs) = OwnsHeld (record { held = before; store = st }) h × NumberedAt (length before) h × InOrder st (before ++ held_value before h ∷ []) hs

-- texts of the same bytes, or tuples of the same values
abbrev pub SameHeld : Held → Held → Type 0
SameHeld (held.Text v) (held.Text w) = v.text ≡ w.text
SameHeld (held.Tuple vs) (held.Tuple ws) = vs.items ≡ ws.items
SameHeld (held.Other m) (held.Other n) = m.number ≡ n.number
SameHeld _ _ = ⊥

-- a key stands once
abbrev pub KeysOnce : List plain.Value → Type 0
KeysOnce held = (i j : ℕ) (x : plain.Value) → IsKey x → slice_get held i ≡ Some x → slice_get held j ≡ Some x → i ≡ j

pub record Sound (a : Slots) : Type 0 where
  pub held : InOrder (store_in (held_of a.held) a.objects) [] a.held
  pub once : KeysOnce (held_of a.held)
  pub objects : Each (OwnsObject (view_of a.held a.objects)) a.objects
