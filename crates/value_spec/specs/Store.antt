-- Acts on the store and on one object of it: each changes it and gives something, or refuses and changes nothing. A change
-- of an object is refused first where it is frozen, then where a loop walks it, and then by what it holds.
use Rattle.std.specs.Prelude.{ℕ, ◌+◌, ◌-◌, ◌==◌, nat_le, true, false, List, [], ◌∷◌, ◌++◌, length, take, drop, map, insert, remove, Option, Some, None, if◌then◌else◌, slice_get, slice_set}
use Rattle.value_spec.specs.Values.{Value, Function, Contents, of_list, of_dict, of_box, of_function, Object, Store}
use Rattle.value_spec.specs.Keys.{place_of_key}

pub data Refusal : Type 0 where
  frozen : Refusal
  iterating : Refusal
  index_range : Refusal
  key_missing : Refusal

-- what an act on an S answers
pub data Answer (S A : Type 0) : Type 0 where
  did : A → S → Answer S A
  refused : Refusal → Answer S A

abbrev pub Act : Type 0 → Type 0 → Type 0
Act S A = S → Answer S A

-- ---- what an object holds

abbrev pub option_members : Option Value → List Value
option_members None = []
option_members (Some v) = v ∷ []

-- the members of a list; a box has one where it has a value, and else none
abbrev pub list_of_contents : Contents → List Value
list_of_contents (of_list vs) = vs
list_of_contents (of_dict ps) = []
list_of_contents (of_box v) = option_members v
list_of_contents (of_function f) = []

abbrev pub pairs_of_contents : Contents → List (Value × Value)
pairs_of_contents (of_list vs) = []
pairs_of_contents (of_dict ps) = ps
pairs_of_contents (of_box v) = []
pairs_of_contents (of_function f) = []

abbrev pub first_of : List Value → Option Value
first_of [] = None
first_of (v ∷ vs) = Some v

-- a list or a box with other members
abbrev pub with_list : List Value → Contents → Contents
with_list vs (of_list old) = of_list vs
with_list vs (of_dict ps) = of_dict ps
with_list vs (of_box old) = of_box (first_of vs)
with_list vs (of_function f) = of_function f

-- a list or a dict with nothing in it
abbrev pub emptied : Contents → Contents
emptied (of_list vs) = of_list []
emptied (of_dict ps) = of_dict []
emptied (of_box v) = of_box v
emptied (of_function f) = of_function f

-- how many members or pairs there are
abbrev pub count_of : Contents → ℕ
count_of (of_list vs) = length vs
count_of (of_dict ps) = length ps
count_of (of_box v) = length (option_members v)
count_of (of_function f) = 0

-- ---- looking at the store

abbrev pub object_at : ℕ → Store → Option Object
object_at r store = slice_get store r

abbrev pub list_in : Option Object → List Value
list_in None = []
list_in (Some o) = list_of_contents o.contents

abbrev pub pairs_in : Option Object → List (Value × Value)
pairs_in None = []
pairs_in (Some o) = pairs_of_contents o.contents

abbrev pub box_in : Option Object → Option Value
box_in None = None
box_in (Some o) = elim o.contents [ of_list vs ↦ None | of_dict ps ↦ None | of_box v ↦ v | of_function f ↦ None ]

abbrev pub function_in : Option Object → Option Function
function_in None = None
function_in (Some o) = elim o.contents [ of_list vs ↦ None | of_dict ps ↦ None | of_box v ↦ None | of_function f ↦ Some f ]

-- the members of a list or box, the pairs of a dict, the value of a box, a function
abbrev pub list_at : ℕ → Store → List Value
list_at r store = list_in (object_at r store)

abbrev pub pairs_at : ℕ → Store → List (Value × Value)
pairs_at r store = pairs_in (object_at r store)

abbrev pub box_at : ℕ → Store → Option Value
box_at r store = box_in (object_at r store)

abbrev pub function_at : ℕ → Store → Option Function
function_at r store = function_in (object_at r store)

abbrev pub count_in_object : Option Object → ℕ
count_in_object None = 0
count_in_object (Some o) = count_of o.contents

-- how many members or pairs an object has
abbrev pub count_at : ℕ → Store → ℕ
count_at r store = count_in_object (object_at r store)

abbrev pub found : {S A : Type 0} → Refusal → Option A → Act S A
found why None s = refused why
found why (Some a) s = did a s

abbrev pub list_get : ℕ → ℕ → Act Store Value
list_get r i = λ store. found index_range (slice_get (list_at r store) i) store

-- a pair by its place
abbrev pub dict_at : ℕ → ℕ → Act Store (Value × Value)
dict_at r i = λ store. found index_range (slice_get (pairs_at r store) i) store

abbrev pub value_of_pair : Option (Value × Value) → Option Value
value_of_pair None = None
value_of_pair (Some p) = Some p.1

abbrev pub value_at_place : List (Value × Value) → Option ℕ → Option Value
value_at_place ps None = None
value_at_place ps (Some i) = value_of_pair (slice_get ps i)

-- the value of a key
abbrev pub value_of_key : Value → List (Value × Value) → Option Value
value_of_key k ps = value_at_place ps (place_of_key k ps)

abbrev pub dict_get : ℕ → Value → Act Store Value
dict_get r k = λ store. found key_missing (value_of_key k (pairs_at r store)) store

-- ---- making

abbrev pub object : Contents → Object
object c = record { contents = c; frozen = false; loops = 0 }

-- a new object stands behind those that there are
abbrev pub with_object : Contents → Store → Store
with_object c store = store ++ object c ∷ []

-- ---- changes of one object

abbrev pub with_contents : Contents → Object → Object
with_contents c o = record o { contents = c }

-- an act on what an object holds, where it may be changed now
abbrev pub unlocked : {S A : Type 0} → Object → Answer S A → Answer S A
unlocked o answer = if o.frozen then refused frozen else if o.loops == 0 then answer else refused iterating

abbrev pub put_list : Object → List Value → Answer Object (Unit {0})
put_list o vs = did tt (with_contents (with_list vs o.contents) o)

abbrev pub set_by : Object → List Value → ℕ → Value → Option Value → Answer Object (Unit {0})
set_by o vs i v None = refused index_range
set_by o vs i v (Some old) = put_list o (slice_set vs i v)

-- a value in the place of a member
abbrev pub set_member : ℕ → Value → Act Object (Unit {0})
set_member i v o = unlocked o (set_by o (list_of_contents o.contents) i v (slice_get (list_of_contents o.contents) i))

-- a value behind the members; a box without a value gets it
abbrev pub push_member : Value → Act Object (Unit {0})
push_member v o = unlocked o (put_list o (list_of_contents o.contents ++ v ∷ []))

-- values behind the members
abbrev pub extend_members : List Value → Act Object (Unit {0})
extend_members vs o = unlocked o (put_list o (list_of_contents o.contents ++ vs))

-- a value in front of the member at a place, or behind all
abbrev pub insert_member : ℕ → Value → Act Object (Unit {0})
insert_member i v o = unlocked o (if nat_le i (length (list_of_contents o.contents)) then put_list o (insert (list_of_contents o.contents) i v) else refused index_range)

abbrev pub remove_by : Object → List Value → ℕ → Option Value → Answer Object Value
remove_by o vs i None = refused index_range
remove_by o vs i (Some v) = did v (with_contents (with_list (remove vs i) o.contents) o)

-- the member at a place goes, and is given
abbrev pub remove_member : ℕ → Act Object Value
remove_member i o = unlocked o (remove_by o (list_of_contents o.contents) i (slice_get (list_of_contents o.contents) i))

-- nothing is left in it
abbrev pub empty_out : Act Object (Unit {0})
empty_out o = unlocked o (did tt (with_contents (emptied o.contents) o))

abbrev pub with_value : Value → List (Value × Value) → ℕ → Option (Value × Value) → List (Value × Value)
with_value v ps i None = ps
with_value v ps i (Some p) = slice_set ps i (p.0, v)

abbrev pub with_pair : Value → Value → List (Value × Value) → Option ℕ → List (Value × Value)
with_pair k v ps None = ps ++ (k, v) ∷ []
with_pair k v ps (Some i) = with_value v ps i (slice_get ps i)

-- the key's value is changed where the key stands, or a pair comes to the end
abbrev pub put_pair : Value → Value → List (Value × Value) → List (Value × Value)
put_pair k v ps = with_pair k v ps (place_of_key k ps)

-- later pairs change the values of keys that there are, and come to the end else
abbrev pub put_pairs : List (Value × Value) → List (Value × Value) → List (Value × Value)
put_pairs ps [] = ps
put_pairs ps (m ∷ ms) = put_pairs (put_pair m.0 m.1 ps) ms

abbrev pub with_pairs : List (Value × Value) → Contents → Contents
with_pairs ps (of_list vs) = of_list vs
with_pairs ps (of_dict old) = of_dict ps
with_pairs ps (of_box v) = of_box v
with_pairs ps (of_function f) = of_function f

abbrev pub put_key : Value → Value → Act Object (Unit {0})
put_key k v o = unlocked o (did tt (with_contents (with_pairs (put_pair k v (pairs_of_contents o.contents)) o.contents) o))

abbrev pub cut_by : Object → List (Value × Value) → Option ℕ → Option Value → Answer Object Value
cut_by o ps (Some i) (Some v) = did v (with_contents (with_pairs (remove ps i) o.contents) o)
cut_by o ps _ _ = refused key_missing

-- the key's pair goes, and its value is given; the others stay in their order
abbrev pub cut_key : Value → Act Object Value
cut_key k o = unlocked o (cut_by o (pairs_of_contents o.contents) (place_of_key k (pairs_of_contents o.contents)) (value_of_key k (pairs_of_contents o.contents)))

-- ---- one object of the store

abbrev pub put_back : {A : Type 0} → ℕ → Store → Answer Object A → Answer Store A
put_back r store (did a o) = did a (slice_set store r o)
put_back r store (refused why) = refused why

abbrev pub on_found : {A : Type 0} → ℕ → Store → Act Object A → Option Object → Answer Store A
on_found r store act None = refused key_missing
on_found r store act (Some o) = put_back r store (act o)

-- an act on the object at a position, while all others stay
abbrev pub at_object : {A : Type 0} → ℕ → Act Object A → Act Store A
at_object r act = λ store. on_found r store act (object_at r store)

abbrev pub list_set : ℕ → ℕ → Value → Act Store (Unit {0})
list_set r i v = at_object r (set_member i v)

abbrev pub list_push : ℕ → Value → Act Store (Unit {0})
list_push r v = at_object r (push_member v)

abbrev pub list_extend : ℕ → List Value → Act Store (Unit {0})
list_extend r vs = at_object r (extend_members vs)

abbrev pub list_insert : ℕ → ℕ → Value → Act Store (Unit {0})
list_insert r i v = at_object r (insert_member i v)

abbrev pub list_remove : ℕ → ℕ → Act Store Value
list_remove r i = at_object r (remove_member i)

abbrev pub clear : ℕ → Act Store (Unit {0})
clear r = at_object r empty_out

abbrev pub dict_put : ℕ → Value → Value → Act Store (Unit {0})
dict_put r k v = at_object r (put_key k v)

abbrev pub dict_remove : ℕ → Value → Act Store Value
dict_remove r k = at_object r (cut_key k)

abbrev pub may_change_object : Store → Option Object → Answer Store (Unit {0})
may_change_object store None = refused key_missing
may_change_object store (Some o) = unlocked o (did tt store)

-- nothing is done but that what refuses a change refuses
abbrev pub may_change : ℕ → Act Store (Unit {0})
may_change r = λ store. may_change_object store (object_at r store)

-- ---- changes that nothing refuses

abbrev pub changed : (Object → Object) → Store → ℕ → Option Object → Store
changed f store r None = store
changed f store r (Some o) = slice_set store r (f o)

-- the store with one object changed
abbrev pub change : (Object → Object) → ℕ → Store → Store
change f r store = changed f store r (object_at r store)

abbrev pub as_frozen : Object → Object
as_frozen o = record o { frozen = true }

-- every object behind the first so many is frozen
abbrev pub freeze_since : ℕ → Store → Store
freeze_since n store = take n store ++ map as_frozen (drop n store)

abbrev pub walked : (ℕ → ℕ) → Object → Object
walked f o = record o { loops = f o.loops }

-- the count of loops that walk an object changes; a value without an object has none
abbrev pub change_loops : (ℕ → ℕ) → Option ℕ → Store → Store
change_loops f None store = store
change_loops f (Some r) store = change (walked f) r store

abbrev pub begin_loop : Option ℕ → Store → Store
begin_loop walk store = change_loops (λ n. n + 1) walk store

abbrev pub end_loop : Option ℕ → Store → Store
end_loop walk store = change_loops (λ n. n - 1) walk store
