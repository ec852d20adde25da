-- The sizes of values that have a rank, and of keys, with the refusals of their kinds; and the order of two bools, integers,
-- texts, tuples or lists. First come the kinds of both and of all that stands in them, with the steps of their sizes, and
-- then the comparison.
use Rattle.std.specs.Prelude.{ℕ, zero, suc, nat_lt, ◌==◌, ℤ, int_lt, Bool, true, false, ◌&&◌, List, [], ◌∷◌, length, if◌then◌else◌}
use Rattle.ytt_base.specs.declared.fault.FaultKind.TheVariants as kind
use Rattle.ytt_base.specs.declared.fault.Place.{Place}
use Rattle.ytt_base.specs.Trees.{max_depth}
use Rattle.value_spec.specs.Keys.{text_cost}
use Rattle.value_spec.specs.Outcomes.{Computation, give, fail, need, paid, take_steps, reads, ◌>>=◌}
use Rattle.value_spec.specs.Store.{list_at}
use Rattle.value_spec.specs.Values.{Value, none_value, bool_value, int_value, text_value, tuple_value, list_value, values_in, Store}

-- None, bool, int, text, tuple, list; all else has no rank, which is 6
abbrev pub rank : Value → ℕ
rank none_value = 0
rank (bool_value b) = 1
rank (int_value z) = 2
rank (text_value t) = 3
rank (tuple_value vs) = 4
rank (list_value r) = 5
rank _ = 6

-- values of one kind, which has an order
abbrev pub are_comparable : (left right : Value) → Bool
are_comparable a b = rank a == rank b && nat_lt 0 (rank a) && nat_lt (rank a) 6

-- ---- kinds and sizes

-- 1 for each member, and what it takes itself
abbrev pub each_sized : {H : Type 0} → (sized : Value → Computation H (Unit {0})) → Place → List Value → Computation H (Unit {0})
each_sized sized p [] = give tt
each_sized sized p (v ∷ vs) = paid p (sized v) >>= λ u. each_sized sized p vs

-- the members of a list, where lists are among the ranks that may be
abbrev pub listed : {H : Type 0} → (ranks : ℕ) → (within : List Value → Computation H (Unit {0})) → Place → ℕ → Computation H (Unit {0})
listed ranks within p r = if nat_lt 5 ranks then (reads (list_at r) >>= within) else fail kind.ValueKind p

-- a value whose members are taken so; one past the ranks that may be is ValueKind
abbrev pub measured_by : {H : Type 0} → (ranks : ℕ) → (within : List Value → Computation H (Unit {0})) → Place → Value → Computation H (Unit {0})
measured_by ranks within p (text_value t) = take_steps (text_cost (length t)) p
measured_by ranks within p (tuple_value vs) = within (values_in vs)
measured_by ranks within p (list_value r) = listed ranks within p r
measured_by ranks within p v = need kind.ValueKind p (nat_lt (rank v) ranks)

abbrev pub measured_within : {H : Type 0} → (ranks levels : ℕ) → Place → List Value → Computation H (Unit {0})
measured_within ranks zero p vs = fail kind.TooDeep p
measured_within ranks (suc n) p vs = each_sized (measured_by ranks (measured_within ranks n p) p) p vs

-- the steps of a value's size, and the refusals of what stands in it, in one walk
abbrev pub measured : {H : Type 0} → (ranks : ℕ) → Place → Value → Computation H (Unit {0})
measured ranks p v = measured_by ranks (measured_within ranks max_depth p) p v

-- what has an order: all that has a rank
abbrev pub sized : {H : Type 0} → Place → Value → Computation H (Unit {0})
sized p v = measured 6 p v

-- the key of a dict: None, a bool, an integer, a text, or a tuple of such; it takes its size
abbrev pub key_sized : {H : Type 0} → Place → Value → Computation H (Unit {0})
key_sized p k = measured 5 p k

-- ---- comparison

pub data Comparison : Type 0 where
  below : Comparison
  same : Comparison
  above : Comparison

abbrev pub is_below : Comparison → Bool
is_below below = true
is_below same = false
is_below above = false

abbrev pub is_above : Comparison → Bool
is_above below = false
is_above same = false
is_above above = true

abbrev pub by_number : (left right : ℕ) → Comparison
by_number a b = if nat_lt a b then below else if a == b then same else above

abbrev pub by_integer : (left right : ℤ) → Comparison
by_integer a b = if int_lt a b then below else if int_lt b a then above else same

-- False is below True
abbrev pub by_bool : (left right : Bool) → Comparison
by_bool false false = same
by_bool false true = below
by_bool true false = above
by_bool true true = same

-- the first that tells them apart
abbrev pub or_next : Comparison → Comparison → Comparison
or_next below next = below
or_next same next = next
or_next above next = above

-- the first members that differ decide; the end of one is below what the other goes on with
abbrev pub by_members : {A : Type 0} → (A → A → Comparison) → (left right : List A) → Comparison
by_members compare [] [] = same
by_members compare [] (b ∷ bs) = below
by_members compare (a ∷ more) [] = above
by_members compare (a ∷ more) (b ∷ bs) = or_next (compare a b) (by_members compare more bs)

-- two values with ranks, whose members are compared so; values of unlike kinds by their ranks
abbrev pub order_by : (within : (left right : List Value) → Comparison) → Store → (left right : Value) → Comparison
order_by within store (bool_value a) (bool_value b) = by_bool a b
order_by within store (int_value a) (int_value b) = by_integer a b
order_by within store (text_value a) (text_value b) = by_members by_number a b
order_by within store (tuple_value vs) (tuple_value ws) = within (values_in vs) (values_in ws)
order_by within store (list_value a) (list_value b) = within (list_at a store) (list_at b store)
order_by within store a b = by_number (rank a) (rank b)

-- how deep they are is tested before
abbrev pub order_within : (levels : ℕ) → Store → (left right : List Value) → Comparison
order_within zero store vs ws = same
order_within (suc n) store vs ws = by_members (order_by (order_within n store) store) vs ws

abbrev pub order : Store → (left right : Value) → Comparison
order store a b = order_by (order_within max_depth store) store a b

-- what `<` and kin ask of two values
abbrev pub comparison : {H : Type 0} → Place → (left right : Value) → Computation H Comparison
comparison p a b = do
  u ← need kind.ValueKind p (are_comparable a b)
  v ← sized p a
  w ← sized p b
  reads (λ store. order store a b)
