-- Each row of the operators gives what the program holds where its operands are so.
use Rattle.std.proofs.Common.{◌≡◌, ℤ, pos, negsuc, ℕ, zero, suc, ◌+◌, ◌*◌, nat_lt, ◌==◌, Bool, true, false, not, List, [], ◌∷◌, ◌++◌, length, Option, Some, None, FitsSigned, IsUtf8, refl, ltb-true}
use Rattle.std.specs.Int.{w128, int_bit_and, int_bit_or, int_bit_xor}
use Rattle.std.specs.Prelude.{neg_ℤ, ◌+ℤ◌, ◌-ℤ◌, ◌*ℤ◌}
use Rattle.std.proofs.Math.Facts.{Fits-and, Fits-of_z, Fits-or, Fits-xor, sfits_to_z}
use Rattle.std.proofs.lemmas.Str.{IsUtf8-nil, IsUtf8-append}
use Rattle.ytt_base.specs.declared.fault.Place.{Place}
use Rattle.ytt_base.specs.Trees.{Scalar, string, Tree, scalar, list, map, Trees, tree, Pairs, pair, max_depth}
use Rattle.ytt_base.specs.declared.fault.FaultKind.{FaultKind}
use Rattle.ytt_base.specs.declared.fault.FaultKind.TheVariants as kind
use Rattle.code_spec.specs.Code.{UnaryOperator, negation, positive, inversion, logical_not, BinaryOperator, addition, subtraction, multiplication, floor_division, remainder, bit_and, bit_or, bit_xor, shift_left, shift_right, equal, unequal, less, greater, at_most, at_least, contained, not_contained}
use Rattle.operator_spec.specs.Equality.{equal_texts, equal_pairs, equal_found, all_found, named_values, equal_scalars, and_then, equal_trees, equal_elements, equal_entries, Inside, equal_by, inside_at, equality, among}
use Rattle.operator_spec.specs.Operators.{if_one, if_both, int_of, copies, repeated, tuple_of, cost_in, not_row, join_texts, join_tuples, join_lists, repeat_text, repeat_tuple, repeat_list, repeat_row, new_keys, join_dicts, union_row, number_of_range, extend_row, augment_row, unary_row, sum_row, difference_row, product_row, divided, bits_row, shifted, shift_row, is_part, part_of_text, contained_in, answered, denied, compared, binary_row}
use Rattle.operator_spec.specs.Order.{Comparison, is_below, is_above, rank, are_comparable, each_sized, measured_by, measured_within, measured, order, comparison}
use Rattle.star_spec.specs.Held.{HeldValue, HeldList}
use Rattle.value_spec.specs.Built.{body_tree, fragment_body}
use Rattle.value_spec.specs.Keys.{text_cost}
use Rattle.value_spec.specs.Members.{as_int, as_text, as_tuple, as_list, as_dict, numbers_of, truth_in}
use Rattle.value_spec.specs.Numbers.{range_count, at_least_zero, fits, complement, floor_quotient, floor_remainder, is_negative, is_zero, shifted_left, shifted_right}
use Rattle.value_spec.specs.Outcomes.{Computation, give, fail, not_built}
use Rattle.value_spec.specs.Store.{value_of_key, put_pairs}
use Rattle.value_spec.specs.Values.{Value, none_value, bool_value, int_value, text_value, tuple_value, range_value, struct_value, fragment_value, list_value, dict_value, function_value, module_value, native_value, values_in}
use Rattle.star_spec.proofs.ActsKeep.{list_extend_keeps}
use Rattle.star_spec.proofs.Keeping.{Keeps, Anything, keeps_then, keeps_give, keeps_fail, keeps_need, keeps_paid, keeps_steps, keeps_if, keeps_below, keeps_reads, may_change_keeps}
use Rattle.star_spec.proofs.MembersHeld.{in_values, from_values, more_held, members_keep, list_keeps, of_pairs, pairs_keep, put_pairs_held, new_list_keeps, new_dict_keeps}

-- ---- what is read of operands

pub keeps_one : {H A B : Type 0} (P : B → Type 0) (o : Option A) (f : A → Computation H B) (otherwise : Computation H B) → ((a : A) → o ≡ Some a → Keeps P (f a)) → Keeps P otherwise → Keeps P (if_one o f otherwise)
keeps_one P (Some a) f otherwise h k = h a refl
keeps_one P None f otherwise h k = k

keeps_both : {H A B C : Type 0} (P : C → Type 0) (o : Option A) (q : Option B) (f : A → B → Computation H C) (otherwise : Computation H C) → ((a : A) (b : B) → o ≡ Some a → q ≡ Some b → Keeps P (f a b)) → Keeps P otherwise → Keeps P (if_both o q f otherwise)
keeps_both P (Some a) (Some b) f otherwise h k = h a b refl refl
keeps_both P None q f otherwise h k = k
keeps_both P (Some a) None f otherwise h k = k

pub int_held : (v : Value) (z : ℤ) → as_int v ≡ Some z → HeldValue v → FitsSigned w128 z
int_held (int_value a) z e h = let same : a ≡ z = cc in rw (← same) h
int_held _ z e h = cc

text_held : (v : Value) (t : List ℕ) → as_text v ≡ Some t → HeldValue v → IsUtf8 t
text_held (text_value a) t e h = let same : a ≡ t = cc in rw (← same) h
text_held _ t e h = cc

tuple_held : (v : Value) (vs : List Value) → as_tuple v ≡ Some vs → HeldValue v → HeldList vs
tuple_held (tuple_value ws) vs e h = let same : values_in ws ≡ vs = cc in rw (← same) (in_values ws h)
tuple_held _ vs e h = cc

-- ---- integers and texts

pub fits_signed : (z : ℤ) → fits z ≡ true → FitsSigned w128 z
fits_signed (pos n) h = record { sfits = ltb-true _ _ h }
fits_signed (negsuc n) h = record { sfits = ltb-true _ _ h }

refused : {H : Type 0} (k : FaultKind) (p : Place) → Keeps {H = H} HeldValue (fail k p)
refused k p = keeps_fail k p []

pub int_of_held : {H : Type 0} (p : Place) (z : ℤ) → Keeps {H = H} HeldValue (int_of p z)
int_of_held p z = keeps_if (fits z) (λ h. keeps_give (int_value z) (fits_signed z h)) (λ h. refused kind.IntOverflow p)

complement_fits : (z : ℤ) → FitsSigned w128 z → FitsSigned w128 (complement z)
complement_fits (pos n) h = record { sfits = h.sfits }
complement_fits (negsuc n) h = record { sfits = h.sfits }

and_fits : (x y : ℤ) → FitsSigned w128 x → FitsSigned w128 y → FitsSigned w128 (int_bit_and w128 x y)
and_fits x y f g = sfits_to_z (Fits-and _ (Fits-of_z f))

or_fits : (x y : ℤ) → FitsSigned w128 x → FitsSigned w128 y → FitsSigned w128 (int_bit_or w128 x y)
or_fits x y f g = sfits_to_z (Fits-or (Fits-of_z f) (Fits-of_z g))

xor_fits : (x y : ℤ) → FitsSigned w128 x → FitsSigned w128 y → FitsSigned w128 (int_bit_xor w128 x y)
xor_fits x y f g = sfits_to_z (Fits-xor (Fits-of_z f) (Fits-of_z g))

copies_utf8 : (n : ℕ) (t : List ℕ) → IsUtf8 t → IsUtf8 (copies n t)
copies_utf8 zero t h = IsUtf8-nil
copies_utf8 (suc n) t h = IsUtf8-append t (copies n t) h (copies_utf8 n t h)

repeated_utf8 : (n : ℕ) (t : List ℕ) → IsUtf8 t → IsUtf8 (repeated n t)
repeated_utf8 n [] h = h
repeated_utf8 n (b ∷ t) h = copies_utf8 n (b ∷ t) h

joined_held : {H : Type 0} (p : Place) (a b : List ℕ) → IsUtf8 a → IsUtf8 b → Keeps {H = H} HeldValue (join_texts p a b)
joined_held p a b h k = keeps_paid (text_cost (2 * (length a + length b))) p (keeps_give (text_value (a ++ b)) (IsUtf8-append a b h k))

repeated_held : {H : Type 0} (p : Place) (t : List ℕ) (z : ℤ) → IsUtf8 t → Keeps {H = H} HeldValue (repeat_text p t z)
repeated_held p t z h = keeps_paid (text_cost (length t * (1 + at_least_zero z))) p (keeps_give (text_value (repeated (at_least_zero z) t)) (repeated_utf8 (at_least_zero z) t h))

-- ---- tuples and lists

copies_members : (n : ℕ) (vs : List Value) → HeldList vs → HeldList (copies n vs)
copies_members zero vs h = tt
copies_members (suc n) vs h = more_held vs (copies n vs) h (copies_members n vs h)

repeated_members : (n : ℕ) (vs : List Value) → HeldList vs → HeldList (repeated n vs)
repeated_members n [] h = h
repeated_members n (v ∷ vs) h = copies_members n (v ∷ vs) h

tuples_held : {H : Type 0} (p : Place) (vs ws : List Value) → HeldList vs → HeldList ws → Keeps {H = H} HeldValue (join_tuples p vs ws)
tuples_held p vs ws h k = keeps_paid (2 * (length vs + length ws)) p (keeps_give (tuple_of (vs ++ ws)) (from_values (vs ++ ws) (more_held vs ws h k)))

tuple_repeated_held : {H : Type 0} (p : Place) (vs : List Value) (z : ℤ) → HeldList vs → Keeps {H = H} HeldValue (repeat_tuple p vs z)
tuple_repeated_held p vs z h =
    keeps_paid (length vs * (1 + at_least_zero z)) p (keeps_give (tuple_of (repeated (at_least_zero z) vs)) (from_values (repeated (at_least_zero z) vs) (repeated_members (at_least_zero z) vs h)))

lists_held : {H : Type 0} (p : Place) (a b : ℕ) → Keeps {H = H} HeldValue (join_lists p a b)
lists_held p a b =
    keeps_then (list_keeps a) (λ vs h. keeps_then (list_keeps b) (λ ws k.
    keeps_paid (2 * (length vs + length ws)) p (new_list_keeps (vs ++ ws) (more_held vs ws h k))))

list_repeated_held : {H : Type 0} (p : Place) (r : ℕ) (z : ℤ) → Keeps {H = H} HeldValue (repeat_list p r z)
list_repeated_held p r z = keeps_then (list_keeps r) (λ vs h. keeps_paid (length vs * (1 + at_least_zero z)) p (new_list_keeps (repeated (at_least_zero z) vs) (repeated_members (at_least_zero z) vs h)))

dicts_held : {H : Type 0} (p : Place) (a b : ℕ) → Keeps {H = H} HeldValue (join_dicts p a b)
dicts_held p a b =
    keeps_then (pairs_keep a) (λ ps h. keeps_then (pairs_keep b) (λ qs k.
    keeps_paid (length ps + length qs + (length ps + new_keys ps qs)) p (new_dict_keeps (put_pairs (put_pairs [] ps) qs) (put_pairs_held (put_pairs [] ps) qs (put_pairs_held [] ps tt (of_pairs ps h)) (of_pairs qs k)))))

-- ---- rows

not_held : {H : Type 0} (p : Place) (v : Value) → Keeps {H = H} HeldValue (not_row p v)
not_held p v =
    keeps_then {P = Anything} (keeps_reads (λ store. cost_in store v) (λ store h. tt))
    (λ n u. keeps_paid n p (keeps_then {P = Anything} (keeps_reads (λ store. truth_in store v) (λ store h. tt)) (λ holds g. keeps_give (bool_value (not holds)) tt)))

pub unary_held : {H : Type 0} (p : Place) (o : UnaryOperator) (v : Value) → HeldValue v → Keeps {H = H} HeldValue (unary_row p o v)
unary_held p negation v h = keeps_one HeldValue (as_int v) (λ z. int_of p (neg_ℤ z)) (fail kind.ValueKind p) (λ z e. int_of_held p (neg_ℤ z)) (refused kind.ValueKind p)
unary_held p positive v h = keeps_one HeldValue (as_int v) (λ z. give (int_value z)) (fail kind.ValueKind p) (λ z e. keeps_give (int_value z) (int_held v z e h)) (refused kind.ValueKind p)
unary_held p inversion v h =
    keeps_one HeldValue (as_int v) (λ z. give (int_value (complement z))) (fail kind.ValueKind p)
    (λ z e. keeps_give (int_value (complement z)) (complement_fits z (int_held v z e h))) (refused kind.ValueKind p)
unary_held p logical_not v h = not_held p v

sum_held : {H : Type 0} (p : Place) (a b : Value) → HeldValue a → HeldValue b → Keeps {H = H} HeldValue (sum_row p a b)
sum_held p a b h k =
    keeps_both HeldValue (as_int a) (as_int b) (λ x y. int_of p (x +ℤ y)) _ (λ x y e f. int_of_held p (x +ℤ y))
    (keeps_both HeldValue (as_text a) (as_text b) (join_texts p) _ (λ x y e f. joined_held p x y (text_held a x e h) (text_held b y f k))
    (keeps_both HeldValue (as_tuple a) (as_tuple b) (join_tuples p) _ (λ x y e f. tuples_held p x y (tuple_held a x e h) (tuple_held b y f k))
    (keeps_both HeldValue (as_list a) (as_list b) (join_lists p) (fail kind.ValueKind p) (λ x y e f. lists_held p x y) (refused kind.ValueKind p))))

difference_held : {H : Type 0} (p : Place) (a b : Value) → Keeps {H = H} HeldValue (difference_row p a b)
difference_held p a b = keeps_both HeldValue (as_int a) (as_int b) (λ x y. int_of p (x -ℤ y)) (fail kind.ValueKind p) (λ x y e f. int_of_held p (x -ℤ y)) (refused kind.ValueKind p)

repeat_held : {H : Type 0} (p : Place) (v : Value) (z : ℤ) → HeldValue v → Keeps {H = H} HeldValue (repeat_row p v z)
repeat_held p v z h =
    keeps_one HeldValue (as_text v) (λ t. repeat_text p t z) _ (λ t e. repeated_held p t z (text_held v t e h))
    (keeps_one HeldValue (as_tuple v) (λ vs. repeat_tuple p vs z) _ (λ vs e. tuple_repeated_held p vs z (tuple_held v vs e h))
    (keeps_one HeldValue (as_list v) (λ r. repeat_list p r z) (fail kind.ValueKind p) (λ r e. list_repeated_held p r z) (refused kind.ValueKind p)))

product_held : {H : Type 0} (p : Place) (a b : Value) → HeldValue a → HeldValue b → Keeps {H = H} HeldValue (product_row p a b)
product_held p a b h k =
    keeps_both HeldValue (as_int a) (as_int b) (λ x y. int_of p (x *ℤ y)) _ (λ x y e f. int_of_held p (x *ℤ y))
    (keeps_one HeldValue (as_int a) (repeat_row p b) _ (λ z e. repeat_held p b z k)
    (keeps_one HeldValue (as_int b) (repeat_row p a) (fail kind.ValueKind p) (λ z e. repeat_held p a z h) (refused kind.ValueKind p)))

divided_held : {H : Type 0} (f : ℤ → ℤ → ℤ) (p : Place) (a b : Value) → Keeps {H = H} HeldValue (if_both (as_int a) (as_int b) (divided f p) (fail kind.ValueKind p))
divided_held f p a b =
    keeps_both HeldValue (as_int a) (as_int b) (divided f p) (fail kind.ValueKind p)
    (λ x y e g. keeps_if (is_zero y) (λ h. refused kind.DivideZero p) (λ h. int_of_held p (f x y))) (refused kind.ValueKind p)

bits_held : {H : Type 0} (f : ℤ → ℤ → ℤ) (p : Place) (a b : Value) → HeldValue a → HeldValue b → ((x y : ℤ) → FitsSigned w128 x → FitsSigned w128 y → FitsSigned w128 (f x y)) → Keeps {H = H} HeldValue (bits_row f p a b)
bits_held f p a b h k fits =
    keeps_both HeldValue (as_int a) (as_int b) (λ x y. give (int_value (f x y))) (fail kind.ValueKind p)
    (λ x y e g. keeps_give (int_value (f x y)) (fits x y (int_held a x e h) (int_held b y g k))) (refused kind.ValueKind p)

union_held : {H : Type 0} (p : Place) (a b : Value) → HeldValue a → HeldValue b → Keeps {H = H} HeldValue (union_row p a b)
union_held p a b h k = keeps_both HeldValue (as_dict a) (as_dict b) (join_dicts p) _ (λ x y e f. dicts_held p x y) (bits_held (int_bit_or w128) p a b h k or_fits)

shift_held : {H : Type 0} (f : ℤ → ℕ → ℤ) (p : Place) (a b : Value) → Keeps {H = H} HeldValue (shift_row f p a b)
shift_held f p a b =
    keeps_both HeldValue (as_int a) (as_int b) (shifted f p) (fail kind.ValueKind p)
    (λ x y e g. keeps_if (is_negative y) (λ h. refused kind.ValueKind p) (λ h. int_of_held p (f x (at_least_zero y)))) (refused kind.ValueKind p)

-- ---- equality, order, `in`

equal_texts_keep : {H : Type 0} (p : Place) (a b : List ℕ) → Keeps {H = H} Anything (equal_texts p a b)
equal_texts_keep p a b = keeps_paid _ p (keeps_give _ tt)

pairwise_keep : {H : Type 0} (eq : Value → Value → Computation H Bool) (p : Place) (vs ws : List Value) → ((v w : Value) → Keeps Anything (eq v w)) → Keeps Anything (equal_pairs eq p vs ws)
pairwise_keep eq p (v ∷ vs) (w ∷ ws) h =
    keeps_then {P = Anything} (keeps_paid 1 p (h v w)) (λ same u. keeps_if same (λ e. pairwise_keep eq p vs ws h) (λ e. keeps_give false tt))
pairwise_keep eq p [] ws h = keeps_give true tt
pairwise_keep eq p (v ∷ vs) [] h = keeps_give true tt

found_keeps : {H : Type 0} (eq : Value → Value → Computation H Bool) (m : Value × Value) (o : Option Value) → ((v w : Value) → Keeps Anything (eq v w)) → Keeps Anything (equal_found eq m o)
found_keeps eq m None h = keeps_give false tt
found_keeps eq m (Some w) h = keeps_then {P = Anything} (h m.0 m.0) (λ same u. h m.1 w)

all_found_keep : {H : Type 0} (eq : Value → Value → Computation H Bool) (p : Place) (ps qs : List (Value × Value)) → ((v w : Value) → Keeps Anything (eq v w)) → Keeps Anything (all_found eq p ps qs)
all_found_keep eq p [] qs h = keeps_give true tt
all_found_keep eq p (m ∷ ms) qs h =
    keeps_then {P = Anything} (keeps_paid 1 p (found_keeps eq m (value_of_key m.0 qs) h)) (λ same u. keeps_if same (λ e. all_found_keep eq p ms qs h) (λ e. keeps_give false tt))

scalars_keep : {H : Type 0} (p : Place) (x y : Scalar) → Keeps {H = H} Anything (equal_scalars p x y)
scalars_keep p (string a) (string b) = equal_texts_keep p a b
scalars_keep p x y = keeps_give _ tt

both_keep : {H : Type 0} {m n : Computation H Bool} → Keeps Anything m → Keeps Anything n → Keeps {H = H} Anything (and_then m n)
both_keep h k = keeps_then {P = Anything} h (λ same u. keeps_if same (λ e. k) (λ e. keeps_give false tt))

mutual
  trees_keep : {H : Type 0} (p : Place) (n : ℕ) (t u : Tree) → Keeps {H = H} Anything (equal_trees p n t u)
  trees_keep p n (scalar x) (scalar y) = scalars_keep p x y
  trees_keep p n (list ts) (list us) = keeps_below p n _ (λ m e. keeps_if _ (λ f. elements_keep p m ts us) (λ f. keeps_give false tt))
  trees_keep p n (map ps) (map qs) = keeps_below p n _ (λ m e. keeps_if _ (λ f. entries_keep p m ps qs) (λ f. keeps_give false tt))
  trees_keep p n t u = keeps_give false tt

  elements_keep : {H : Type 0} (p : Place) (n : ℕ) (ts us : Trees) → Keeps {H = H} Anything (equal_elements p n ts us)
  elements_keep p n (tree t ts) (tree u us) = both_keep (keeps_paid 1 p (trees_keep p n t u)) (elements_keep p n ts us)
  elements_keep p n ts us = keeps_give true tt

  entries_keep : {H : Type 0} (p : Place) (n : ℕ) (ps qs : Pairs) → Keeps {H = H} Anything (equal_entries p n ps qs)
  entries_keep p n (pair x t ps) (pair y u qs) = both_keep (keeps_paid 1 p (both_keep (scalars_keep p x y) (trees_keep p n t u))) (entries_keep p n ps qs)
  entries_keep p n ps qs = keeps_give true tt

record InsideKeeps {H : Type 0} (inside : Inside H) : Type 0 where
  members : (vs ws : List Value) → Keeps Anything (inside.members vs ws)
  pairs : (ps qs : List (Value × Value)) → Keeps Anything (inside.pairs ps qs)
  trees : (t u : Tree) → Keeps Anything (inside.trees t u)

equal_keeps : {H : Type 0} (inside : Inside H) (p : Place) (a b : Value) → InsideKeeps inside → Keeps Anything (equal_by inside p a b)
equal_keeps inside p none_value none_value h = keeps_give true tt
equal_keeps inside p (bool_value a) (bool_value b) h = keeps_give _ tt
equal_keeps inside p (int_value a) (int_value b) h = keeps_give _ tt
equal_keeps inside p (text_value a) (text_value b) h = equal_texts_keep p a b
equal_keeps inside p (tuple_value vs) (tuple_value ws) h = h.members (values_in vs) (values_in ws)
equal_keeps inside p (list_value a) (list_value b) h = keeps_then (list_keeps a) (λ vs u. keeps_then (list_keeps b) (λ ws w. h.members vs ws))
equal_keeps inside p (dict_value a) (dict_value b) h = keeps_then (pairs_keep a) (λ ps u. keeps_then (pairs_keep b) (λ qs w. h.pairs ps qs))
equal_keeps inside p (range_value a b c) (range_value d e f) h = h.members (numbers_of a b c) (numbers_of d e f)
equal_keeps inside p (struct_value fs) (struct_value gs) h = h.pairs (named_values fs) (named_values gs)
equal_keeps inside p (fragment_value k cs) (fragment_value j ds) h = h.trees (body_tree (fragment_body k cs)) (body_tree (fragment_body j ds))
equal_keeps inside p (function_value a) (function_value b) h = keeps_give _ tt
equal_keeps inside p (module_value x fs) (module_value y gs) h = keeps_give _ tt
equal_keeps inside p (native_value m) (native_value n) h = keeps_give _ tt
equal_keeps inside p a b h = keeps_give false tt

inside_keeps : {H : Type 0} (levels : ℕ) (p : Place) → InsideKeeps {H = H} (inside_at levels p)
inside_keeps zero p = record { members = λ vs ws. keeps_fail kind.TooDeep p []; pairs = λ ps qs. keeps_fail kind.TooDeep p []; trees = trees_keep p 0 }
inside_keeps (suc n) p =
    let each : (v w : Value) → Keeps Anything (equal_by (inside_at n p) p v w) = λ v w. equal_keeps (inside_at n p) p v w (inside_keeps n p) in
    record {
      members = λ vs ws. keeps_if (length vs == length ws) (λ e. pairwise_keep _ p vs ws each) (λ e. keeps_give false tt);
      pairs = λ ps qs. keeps_if (length ps == length qs) (λ e. all_found_keep _ p ps qs each) (λ e. keeps_give false tt);
      trees = trees_keep p (suc n);
    }

pub equality_keeps : {H : Type 0} (p : Place) (a b : Value) → Keeps {H = H} Anything (equality p a b)
equality_keeps p a b = equal_keeps (inside_at max_depth p) p a b (inside_keeps max_depth p)

among_keeps : {H : Type 0} (p : Place) (v : Value) (vs : List Value) → Keeps {H = H} Anything (among p v vs)
among_keeps p v [] = keeps_give false tt
among_keeps p v (w ∷ ws) = keeps_then {P = Anything} (keeps_paid 1 p (equality_keeps p w v)) (λ same u. keeps_if same (λ e. keeps_give true tt) (λ e. among_keeps p v ws))

each_keeps : {H : Type 0} (sized : Value → Computation H (Unit {0})) (p : Place) (vs : List Value) → ((v : Value) → Keeps Anything (sized v)) → Keeps Anything (each_sized sized p vs)
each_keeps sized p [] h = keeps_give tt tt
each_keeps sized p (v ∷ vs) h = keeps_then {P = Anything} (keeps_paid 1 p (h v)) (λ u w. each_keeps sized p vs h)

size_keeps : {H : Type 0} (ranks : ℕ) (within : List Value → Computation H (Unit {0})) (p : Place) (v : Value) → ((vs : List Value) → Keeps Anything (within vs)) → Keeps Anything (measured_by ranks within p v)
size_keeps ranks within p (text_value t) h = keeps_steps (text_cost (length t)) p
size_keeps ranks within p (tuple_value vs) h = h (values_in vs)
size_keeps ranks within p (list_value r) h = keeps_if (nat_lt 5 ranks) (λ e. keeps_then (list_keeps r) (λ vs u. h vs)) (λ e. keeps_fail kind.ValueKind p [])
size_keeps ranks within p v h = keeps_need kind.ValueKind p (nat_lt (rank v) ranks)

sizes_keep : {H : Type 0} (ranks levels : ℕ) (p : Place) (vs : List Value) → Keeps {H = H} Anything (measured_within ranks levels p vs)
sizes_keep ranks zero p vs = keeps_fail kind.TooDeep p []
sizes_keep ranks (suc n) p vs = each_keeps (measured_by ranks (measured_within ranks n p) p) p vs (λ v. size_keeps ranks (measured_within ranks n p) p v (sizes_keep ranks n p))

pub measured_keeps : {H : Type 0} (ranks : ℕ) (p : Place) (v : Value) → Keeps {H = H} Anything (measured ranks p v)
measured_keeps ranks p v = size_keeps ranks (measured_within ranks max_depth p) p v (sizes_keep ranks max_depth p)

comparison_keeps : {H : Type 0} (p : Place) (a b : Value) → Keeps {H = H} Anything (comparison p a b)
comparison_keeps p a b =
    keeps_then {P = Anything} (keeps_need kind.ValueKind p (are_comparable a b)) (λ u w.
    keeps_then {P = Anything} (measured_keeps 6 p a) (λ u w.
    keeps_then {P = Anything} (measured_keeps 6 p b) (λ u w. keeps_reads (λ store. order store a b) (λ store g. tt))))

contained_keeps : {H : Type 0} (p : Place) (v whole : Value) → Keeps {H = H} Anything (contained_in p v whole)
contained_keeps p v (text_value t) =
    keeps_one Anything (as_text v) (λ x. part_of_text p x t) (fail kind.ValueKind p) (λ x e. keeps_paid (text_cost (length x + length t)) p (keeps_give (is_part x t) tt)) (keeps_fail kind.ValueKind p [])
contained_keeps p v (tuple_value vs) = among_keeps p v (values_in vs)
contained_keeps p v (list_value r) = keeps_then (list_keeps r) (λ vs h. among_keeps p v vs)
contained_keeps p v (dict_value r) = keeps_then {P = Anything} (measured_keeps 5 p v) (λ u h. keeps_reads _ (λ store g. tt))
contained_keeps p v (range_value a b c) =
    keeps_one Anything (as_int v) (number_of_range p a b c) (fail kind.ValueKind p) (λ z e. keeps_paid (range_count a b c) p (keeps_give _ tt)) (keeps_fail kind.ValueKind p [])
contained_keeps p v whole = keeps_fail kind.ValueKind p []

answered_held : {H : Type 0} (m : Computation H Bool) → Keeps Anything m → Keeps HeldValue (answered m)
answered_held m h = keeps_then {P = Anything} h (λ b u. keeps_give (bool_value b) tt)

denied_held : {H : Type 0} (m : Computation H Bool) → Keeps Anything m → Keeps HeldValue (denied m)
denied_held m h = keeps_then {P = Anything} h (λ b u. keeps_give (bool_value (not b)) tt)

compared_held : {H : Type 0} (test : Comparison → Bool) (m : Computation H Comparison) → Keeps Anything m → Keeps HeldValue (compared test m)
compared_held test m h = keeps_then {P = Anything} h (λ c u. keeps_give (bool_value (test c)) tt)

-- ---- all of them

pub binary_held : {H : Type 0} (p : Place) (o : BinaryOperator) (a b : Value) → HeldValue a → HeldValue b → Keeps {H = H} HeldValue (binary_row p o a b)
binary_held p addition a b h k = sum_held p a b h k
binary_held p subtraction a b h k = difference_held p a b
binary_held p multiplication a b h k = product_held p a b h k
binary_held p floor_division a b h k = divided_held floor_quotient p a b
binary_held p remainder a b h k =
    keeps_one HeldValue (as_text a) (λ t. not_built p) (if_both (as_int a) (as_int b) (divided floor_remainder p) (fail kind.ValueKind p)) (λ t e. refused kind.NotBuilt p) (divided_held floor_remainder p a b)
binary_held p bit_and a b h k = bits_held (int_bit_and w128) p a b h k and_fits
binary_held p bit_or a b h k = union_held p a b h k
binary_held p bit_xor a b h k = bits_held (int_bit_xor w128) p a b h k xor_fits
binary_held p shift_left a b h k = shift_held shifted_left p a b
binary_held p shift_right a b h k = shift_held shifted_right p a b
binary_held p equal a b h k = answered_held (equality p a b) (equality_keeps p a b)
binary_held p unequal a b h k = denied_held (equality p a b) (equality_keeps p a b)
binary_held p less a b h k = compared_held is_below (comparison p a b) (comparison_keeps p a b)
binary_held p greater a b h k = compared_held is_above (comparison p a b) (comparison_keeps p a b)
binary_held p at_most a b h k = compared_held (λ c. not (is_above c)) (comparison p a b) (comparison_keeps p a b)
binary_held p at_least a b h k = compared_held (λ c. not (is_below c)) (comparison p a b) (comparison_keeps p a b)
binary_held p contained a b h k = answered_held (contained_in p a b) (contained_keeps p a b)
binary_held p not_contained a b h k = denied_held (contained_in p a b) (contained_keeps p a b)

-- ---- `+=` and kin

pub extended_held : {H : Type 0} (p : Place) (r : ℕ) (v : Value) → HeldValue v → Keeps {H = H} HeldValue (extend_row p r v)
extended_held p r v h =
    keeps_then (may_change_keeps p r) (λ u t.
    keeps_then (members_keep p v h) (λ ws k.
    keeps_then (list_keeps r) (λ vs g. keeps_paid (length vs + length ws) p (keeps_then (list_extend_keeps p r ws k) (λ u t. keeps_give (list_value r) tt)))))

pub augmented_held : {H : Type 0} (p : Place) (o : BinaryOperator) (a b : Value) → HeldValue a → HeldValue b → Keeps {H = H} HeldValue (augment_row p o a b)
augmented_held p addition a b h k = keeps_one HeldValue (as_list a) (λ r. extend_row p r b) (sum_row p a b) (λ r e. extended_held p r b k) (sum_held p a b h k)
augmented_held p o a b h k = binary_held p o a b h k
