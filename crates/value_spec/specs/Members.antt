-- What is read of a value: its truth, its members, and what an operator needs it to be.
use Rattle.std.specs.Prelude.{ℕ, ℤ, ◌==◌, Bool, true, false, not, List, [], ◌∷◌, length, map, Option, Some, None}
use Rattle.value_spec.specs.Values.{Value, none_value, bool_value, int_value, text_value, tuple_value, range_value, list_value, dict_value, values_in, Store}
use Rattle.value_spec.specs.Numbers.{is_zero, range_count, progression}
use Rattle.value_spec.specs.Store.{list_at, pairs_at}

-- ---- what an operator needs

abbrev pub as_int : Value → Option ℤ
as_int (int_value z) = Some z
as_int _ = None

abbrev pub as_text : Value → Option (List ℕ)
as_text (text_value t) = Some t
as_text _ = None

abbrev pub as_tuple : Value → Option (List Value)
as_tuple (tuple_value vs) = Some (values_in vs)
as_tuple _ = None

abbrev pub as_list : Value → Option ℕ
as_list (list_value r) = Some r
as_list _ = None

abbrev pub as_dict : Value → Option ℕ
as_dict (dict_value r) = Some r
as_dict _ = None

-- ---- members

abbrev pub keys_in : List (Value × Value) → List Value
keys_in [] = []
keys_in (p ∷ ps) = p.0 ∷ keys_in ps

-- the numbers of a range
abbrev pub numbers_of : (start stop step : ℤ) → List Value
numbers_of start stop step = map int_value (progression (range_count start stop step) start step)

-- the members of a tuple or list, the keys of a dict, the numbers of a range; nothing else has any
abbrev pub members_in : Store → Value → Option (List Value)
members_in store (tuple_value vs) = Some (values_in vs)
members_in store (list_value r) = Some (list_at r store)
members_in store (dict_value r) = Some (keys_in (pairs_at r store))
members_in store (range_value start stop step) = Some (numbers_of start stop step)
members_in store _ = None

-- the object that a walk over a value goes through
abbrev pub walked_in : Value → Option ℕ
walked_in (list_value r) = Some r
walked_in (dict_value r) = Some r
walked_in _ = None

-- how many members a value has; 0 where it has none to have
abbrev pub count_in : Store → Value → ℕ
count_in store (tuple_value vs) = length (values_in vs)
count_in store (list_value r) = length (list_at r store)
count_in store (dict_value r) = length (pairs_at r store)
count_in store (range_value start stop step) = range_count start stop step
count_in store _ = 0

-- ---- truth

abbrev pub is_empty : {A : Type 0} → List A → Bool
is_empty [] = true
is_empty (a ∷ more) = false

-- None, False, 0 and what has no byte or member are false
abbrev pub truth_in : Store → Value → Bool
truth_in store none_value = false
truth_in store (bool_value b) = b
truth_in store (int_value z) = not (is_zero z)
truth_in store (text_value t) = not (is_empty t)
truth_in store (tuple_value vs) = not (is_empty (values_in vs))
truth_in store (list_value r) = not (is_empty (list_at r store))
truth_in store (dict_value r) = not (is_empty (pairs_at r store))
truth_in store (range_value start stop step) = not (range_count start stop step == 0)
truth_in store _ = true
