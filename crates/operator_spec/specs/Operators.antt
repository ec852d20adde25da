-- The table of operators: what each gives for its operands, which further steps it takes, and each fault, which stands
-- at the operator. A refusal of the operands' kinds comes before the steps, and the steps before the effect.
use Rattle.std.specs.Prelude.{ℕ, zero, suc, ◌+◌, ◌*◌, ℤ, neg_ℤ, ◌+ℤ◌, ◌-ℤ◌, ◌*ℤ◌, Bool, true, false, not, ◌&&◌, ◌||◌, ◌==◌, List, [], ◌∷◌, ◌++◌, length, if◌then◌else◌, Option, Some, None, is_some}
use Rattle.std.specs.Int.{w128, int_bit_and, int_bit_or, int_bit_xor}
use Rattle.ytt_base.specs.declared.fault.FaultKind.TheVariants as kind
use Rattle.ytt_base.specs.declared.fault.Place.{Place}
use Rattle.code_spec.specs.Code.{UnaryOperator, negation, positive, inversion, logical_not, BinaryOperator, addition, subtraction, multiplication, floor_division, remainder, bit_and, bit_or, bit_xor, shift_left, shift_right, equal, unequal, less, greater, at_most, at_least, contained, not_contained}
use Rattle.ytt_base.specs.Trees.{same_integer}
use Rattle.value_spec.specs.Values.{Value, bool_value, int_value, text_value, tuple_value, list_value, dict_value, range_value, values_in, values_from, Store}
use Rattle.value_spec.specs.Outcomes.{Computation, give, fail, or_fail, not_built, paid_by, reads, new_list, new_dict, acting, ◌>>=◌}
use Rattle.value_spec.specs.Numbers.{fits, is_zero, is_negative, at_least_zero, floor_quotient, floor_remainder, complement, shifted_left, shifted_right, range_count, progression}
use Rattle.value_spec.specs.Keys.{text_cost}
use Rattle.value_spec.specs.Members.{as_int, as_text, as_tuple, as_list, as_dict, members_in, count_in, truth_in, is_empty}
use Rattle.value_spec.specs.Store.{list_at, pairs_at, value_of_key, put_pairs, may_change, list_extend}
use Rattle.operator_spec.specs.Equality.{equality, among}
use Rattle.operator_spec.specs.Order.{Comparison, is_below, is_above, comparison, key_sized}

-- what two operands give where each can be read so, and what comes otherwise
abbrev pub if_both : {A B C : Type 0} → Option A → Option B → (A → B → C) → C → C
if_both (Some a) (Some b) f otherwise = f a b
if_both None b f otherwise = otherwise
if_both (Some a) None f otherwise = otherwise

abbrev pub if_one : {A C : Type 0} → Option A → (A → C) → C → C
if_one (Some a) f otherwise = f a
if_one None f otherwise = otherwise

-- an integer, or IntOverflow where it is outside 128 bits
abbrev pub int_of : {H : Type 0} → Place → ℤ → Computation H Value
int_of p z = if fits z then give (int_value z) else fail kind.IntOverflow p

abbrev pub copies : {A : Type 0} → ℕ → List A → List A
copies zero vs = []
copies (suc n) vs = vs ++ copies n vs

-- the list so many times; an empty one stays empty, however often it is repeated
abbrev pub repeated : {A : Type 0} → ℕ → List A → List A
repeated n [] = []
repeated n (v ∷ vs) = copies n (v ∷ vs)

abbrev pub tuple_of : List Value → Value
tuple_of vs = tuple_value (values_from vs)

-- ---- operators before an operand

-- the bytes of a text by 16, or the members
abbrev pub cost_in : Store → Value → ℕ
cost_in store v = if_one (as_text v) (λ t. text_cost (length t)) (count_in store v)

abbrev pub not_row : {H : Type 0} → Place → Value → Computation H Value
not_row p v = reads (λ store. cost_in store v) >>= λ n. paid_by n p (reads (λ store. truth_in store v) >>= λ holds. give (bool_value (not holds)))

abbrev pub unary_row : {H : Type 0} → Place → UnaryOperator → Value → Computation H Value
unary_row p negation v = if_one (as_int v) (λ z. int_of p (neg_ℤ z)) (fail kind.ValueKind p)
unary_row p positive v = if_one (as_int v) (λ z. give (int_value z)) (fail kind.ValueKind p)
unary_row p inversion v = if_one (as_int v) (λ z. give (int_value (complement z))) (fail kind.ValueKind p)
unary_row p logical_not v = not_row p v

-- ---- sums, differences, products

abbrev pub join_texts : {H : Type 0} → Place → List ℕ → List ℕ → Computation H Value
join_texts p a b = paid_by (text_cost (2 * (length a + length b))) p (give (text_value (a ++ b)))

abbrev pub join_tuples : {H : Type 0} → Place → List Value → List Value → Computation H Value
join_tuples p vs ws = paid_by (2 * (length vs + length ws)) p (give (tuple_of (vs ++ ws)))

-- two lists, with what they have now
abbrev pub join_members : {H : Type 0} → Place → List Value → List Value → Computation H Value
join_members p vs ws = paid_by (2 * (length vs + length ws)) p (new_list (vs ++ ws))

abbrev pub join_lists : {H : Type 0} → Place → (left right : ℕ) → Computation H Value
join_lists p a b = reads (list_at a) >>= λ vs. reads (list_at b) >>= λ ws. join_members p vs ws

abbrev pub sum_row : {H : Type 0} → Place → Value → Value → Computation H Value
sum_row p a b =
    if_both (as_int a) (as_int b) (λ x y. int_of p (x +ℤ y))
    (if_both (as_text a) (as_text b) (join_texts p)
    (if_both (as_tuple a) (as_tuple b) (join_tuples p) (if_both (as_list a) (as_list b) (join_lists p) (fail kind.ValueKind p))))

abbrev pub difference_row : {H : Type 0} → Place → Value → Value → Computation H Value
difference_row p a b = if_both (as_int a) (as_int b) (λ x y. int_of p (x -ℤ y)) (fail kind.ValueKind p)

abbrev pub repeat_text : {H : Type 0} → Place → List ℕ → ℤ → Computation H Value
repeat_text p t z = paid_by (text_cost (length t * (1 + at_least_zero z))) p (give (text_value (repeated (at_least_zero z) t)))

abbrev pub repeat_tuple : {H : Type 0} → Place → List Value → ℤ → Computation H Value
repeat_tuple p vs z = paid_by (length vs * (1 + at_least_zero z)) p (give (tuple_of (repeated (at_least_zero z) vs)))

abbrev pub repeat_members : {H : Type 0} → Place → List Value → ℤ → Computation H Value
repeat_members p vs z = paid_by (length vs * (1 + at_least_zero z)) p (new_list (repeated (at_least_zero z) vs))

abbrev pub repeat_list : {H : Type 0} → Place → ℕ → ℤ → Computation H Value
repeat_list p r z = reads (list_at r) >>= λ vs. repeat_members p vs z

-- a text, a tuple or a list so many times
abbrev pub repeat_row : {H : Type 0} → Place → (repeats : Value) → ℤ → Computation H Value
repeat_row p v z =
    if_one (as_text v) (λ t. repeat_text p t z)
    (if_one (as_tuple v) (λ vs. repeat_tuple p vs z) (if_one (as_list v) (λ r. repeat_list p r z) (fail kind.ValueKind p)))

abbrev pub product_row : {H : Type 0} → Place → Value → Value → Computation H Value
product_row p a b =
    if_both (as_int a) (as_int b) (λ x y. int_of p (x *ℤ y))
    (if_one (as_int a) (repeat_row p b) (if_one (as_int b) (repeat_row p a) (fail kind.ValueKind p)))

-- ---- quotients and remainders

-- by 0 nothing is divided
abbrev pub divided : {H : Type 0} → (ℤ → ℤ → ℤ) → Place → ℤ → ℤ → Computation H Value
divided f p x y = if is_zero y then fail kind.DivideZero p else int_of p (f x y)

abbrev pub quotient_row : {H : Type 0} → Place → Value → Value → Computation H Value
quotient_row p a b = if_both (as_int a) (as_int b) (divided floor_quotient p) (fail kind.ValueKind p)

-- with a text at the left it formats, which stands in a table above this one
abbrev pub remainder_row : {H : Type 0} → Place → Value → Value → Computation H Value
remainder_row p a b = if_one (as_text a) (λ t. not_built p) (if_both (as_int a) (as_int b) (divided floor_remainder p) (fail kind.ValueKind p))

-- ---- bits

abbrev pub bits_row : {H : Type 0} → (ℤ → ℤ → ℤ) → Place → Value → Value → Computation H Value
bits_row f p a b = if_both (as_int a) (as_int b) (λ x y. give (int_value (f x y))) (fail kind.ValueKind p)

abbrev pub one_more_unless : Option Value → ℕ → ℕ
one_more_unless None n = suc n
one_more_unless (Some v) n = n

-- how many keys of the right the left doesn't have
abbrev pub new_keys : (left right : List (Value × Value)) → ℕ
new_keys ps [] = 0
new_keys ps (m ∷ ms) = one_more_unless (value_of_key m.0 ps) (new_keys ps ms)

-- The pairs of two dicts in a new one, the left's and then the right's: the right's values win, and the left's places stay. The
-- members of all three are paid for.
abbrev pub join_pairs : {H : Type 0} → Place → List (Value × Value) → List (Value × Value) → Computation H Value
join_pairs p ps qs = paid_by (length ps + length qs + (length ps + new_keys ps qs)) p (new_dict (put_pairs (put_pairs [] ps) qs))

abbrev pub join_dicts : {H : Type 0} → Place → (left right : ℕ) → Computation H Value
join_dicts p a b = reads (pairs_at a) >>= λ ps. reads (pairs_at b) >>= λ qs. join_pairs p ps qs

abbrev pub union_row : {H : Type 0} → Place → Value → Value → Computation H Value
union_row p a b = if_both (as_dict a) (as_dict b) (join_dicts p) (bits_row (int_bit_or w128) p a b)

-- so many places, from 0 on
abbrev pub shifted : {H : Type 0} → (ℤ → ℕ → ℤ) → Place → ℤ → ℤ → Computation H Value
shifted f p x y = if is_negative y then fail kind.ValueKind p else int_of p (f x (at_least_zero y))

abbrev pub shift_row : {H : Type 0} → (ℤ → ℕ → ℤ) → Place → Value → Value → Computation H Value
shift_row f p a b = if_both (as_int a) (as_int b) (shifted f p) (fail kind.ValueKind p)

-- ---- `in`

abbrev pub begins_with : (part text : List ℕ) → Bool
begins_with [] t = true
begins_with (x ∷ xs) [] = false
begins_with (x ∷ xs) (b ∷ t) = x == b && begins_with xs t

-- the bytes stand somewhere in the text
abbrev pub is_part : (part text : List ℕ) → Bool
is_part x [] = is_empty x
is_part x (b ∷ t) = begins_with x (b ∷ t) || is_part x t

abbrev pub part_of_text : {H : Type 0} → Place → (part text : List ℕ) → Computation H Bool
part_of_text p x t = paid_by (text_cost (length x + length t)) p (give (is_part x t))

-- whether a key stands in a dict, which takes the key's size
abbrev pub key_of_dict : {H : Type 0} → Place → (key : Value) → ℕ → Computation H Bool
key_of_dict p k r = key_sized p k >>= λ u. reads (λ store. is_some (value_of_key k (pairs_at r store)))

-- an integer is one of these
abbrev pub is_one_of : ℤ → List ℤ → Bool
is_one_of z [] = false
is_one_of z (x ∷ xs) = same_integer z x || is_one_of z xs

abbrev pub number_of_range : {H : Type 0} → Place → (start stop step : ℤ) → ℤ → Computation H Bool
number_of_range p start stop step z = paid_by (range_count start stop step) p (give (is_one_of z (progression (range_count start stop step) start step)))

-- part of a text, a key of a dict, an integer of a range, or an equal member of a tuple or list
abbrev pub contained_in : {H : Type 0} → Place → (value whole : Value) → Computation H Bool
contained_in p v (text_value t) = if_one (as_text v) (λ x. part_of_text p x t) (fail kind.ValueKind p)
contained_in p v (tuple_value vs) = among p v (values_in vs)
contained_in p v (list_value r) = reads (list_at r) >>= among p v
contained_in p v (dict_value r) = key_of_dict p v r
contained_in p v (range_value start stop step) = if_one (as_int v) (number_of_range p start stop step) (fail kind.ValueKind p)
contained_in p v whole = fail kind.ValueKind p

-- ---- all of them

abbrev pub answered : {H : Type 0} → Computation H Bool → Computation H Value
answered m = m >>= λ b. give (bool_value b)

abbrev pub denied : {H : Type 0} → Computation H Bool → Computation H Value
denied m = m >>= λ b. give (bool_value (not b))

abbrev pub compared : {H : Type 0} → (Comparison → Bool) → Computation H Comparison → Computation H Value
compared test m = m >>= λ c. give (bool_value (test c))

abbrev pub binary_row : {H : Type 0} → Place → BinaryOperator → Value → Value → Computation H Value
binary_row p addition a b = sum_row p a b
binary_row p subtraction a b = difference_row p a b
binary_row p multiplication a b = product_row p a b
binary_row p floor_division a b = quotient_row p a b
binary_row p remainder a b = remainder_row p a b
binary_row p bit_and a b = bits_row (int_bit_and w128) p a b
binary_row p bit_or a b = union_row p a b
binary_row p bit_xor a b = bits_row (int_bit_xor w128) p a b
binary_row p shift_left a b = shift_row shifted_left p a b
binary_row p shift_right a b = shift_row shifted_right p a b
binary_row p equal a b = answered (equality p a b)
binary_row p unequal a b = denied (equality p a b)
binary_row p less a b = compared is_below (comparison p a b)
binary_row p greater a b = compared is_above (comparison p a b)
binary_row p at_most a b = compared (λ c. not (is_above c)) (comparison p a b)
binary_row p at_least a b = compared (λ c. not (is_below c)) (comparison p a b)
binary_row p contained a b = answered (contained_in p a b)
binary_row p not_contained a b = denied (contained_in p a b)

-- ---- `+=` and kin

-- the members that the list has now, and those that come behind them
abbrev pub extend_by : {H : Type 0} → Place → ℕ → (members more : List Value) → Computation H Value
extend_by p r vs ws = paid_by (length vs + length ws) p (acting p (list_extend r ws) >>= λ u. give (list_value r))

-- A list gets the members of a value behind its own. It is refused first where the list can't be changed, then where the
-- value has no members.
abbrev pub extend_row : {H : Type 0} → Place → ℕ → Value → Computation H Value
extend_row p r v = do
  u ← acting p (may_change r)
  ws ← reads (λ store. members_in store v) >>= or_fail kind.ValueKind p
  vs ← reads (list_at r)
  extend_by p r vs ws

-- what an assignment with an operator gives: `+=` changes a list in place, and all else is as without the assignment
abbrev pub augment_row : {H : Type 0} → Place → BinaryOperator → Value → Value → Computation H Value
augment_row p addition a b = if_one (as_list a) (λ r. extend_row p r b) (sum_row p a b)
augment_row p o a b = binary_row p o a b
