-- What the language's own functions and methods, and operators give is what the program holds.
use Rattle.std.proofs.Common.{◌≡◌, ◌+◌, ◌*◌, ℕ, zero, suc, pos, Bool, true, false, if◌then◌else◌, is_some, List, [], ◌∷◌, length, Option, Some, None, IsUtf8, codes, refl, sym, subst, FitsSigned, reverse, ℤ, map, drop, arith}
use Rattle.std.proofs.lemmas.Int.{ints}
use Rattle.std.proofs.lemmas.List.{reverse-append}
use Rattle.std.specs.Int.{w128}
use Rattle.std.specs.Prelude.{neg_ℤ, ◌+ℤ◌}
use Rattle.ytt_base.specs.declared.fault.FaultKind.TheVariants as kind
use Rattle.ytt_base.specs.declared.fault.Place.{Place}
use Rattle.builtin_spec.specs.Attributes.{attribute_of}
use Rattle.builtin_spec.specs.Binding.{Own, is_given, own_in}
use Rattle.builtin_spec.specs.Builtins.{builtins, failure_row, length_row, row_of, text_given, truth_row, type_name, members_or_none, members_paid, list_row, tuple_row, some_true, all_true, reversed_row, test_row, numbered, last_fits, enumerate_row, sum_of, least_of, firsts, zipped, all_have_members, zip_row, integer_read, read_row, base_of, integer_row, absolute_row, range_by, range_from, integer_in_front, all_integers, range_arguments, range_row, name_then, has_attribute_row, attribute_or, get_attribute_row, names_of, field_names, field_names_row, of_one}
use Rattle.builtin_spec.specs.Calls.{own_method, own_row}
use Rattle.builtin_spec.specs.Dicts.{dict_methods}
use Rattle.builtin_spec.specs.Lists.{bound_in, list_methods}
use Rattle.builtin_spec.specs.Operators.{assignment_row, filled_or, operator_row}
use Rattle.builtin_spec.specs.Sorting.{in_order}
use Rattle.code_spec.specs.Code.{Name, BinaryOperator, remainder}
use Rattle.index_spec.specs.Slices.{is_bound}
use Rattle.operator_spec.specs.Operators.{augment_row, binary_row, tuple_of}
use Rattle.star_spec.specs.Held.{HeldValue, HeldFields, HeldList, HeldArguments, HeldNumbers, HeldStore}
use Rattle.text_spec.specs.Signatures.{value_at}
use Rattle.value_spec.specs.Members.{as_text, count_in, members_in, truth_in, as_int}
use Rattle.value_spec.specs.Numbers.{fits, is_negative, is_zero}
use Rattle.value_spec.specs.Outcomes.{◌>>=◌, Computation, reads, need}
use Rattle.value_spec.specs.Values.{Value, none_value, bool_value, int_value, text_value, tuple_value, range_value, struct_value, fragment_value, list_value, dict_value, function_value, module_value, native_value, builtin, method, values_in, Fields, no_fields, a_field, Arguments, arguments, Store}
use Rattle.star_spec.proofs.AttributesKeep.{attribute_held}
use Rattle.star_spec.proofs.BindingsKeep.{◌also◌, AllKeep, none_keep, OwnKeeps, nth_held, seeing_keeps, taking_keeps}
use Rattle.star_spec.proofs.DictsKeep.{dict_methods_keep, dict_row_keeps}
use Rattle.star_spec.proofs.FillingKeeps.{paid_keeps, percent_keeps}
use Rattle.star_spec.proofs.Keeping.{IfFound, found_one, Keeps, Anything, keeps_then, keeps_give, keeps_fail, keeps_need, keeps_if, keeps_or_fail, keeps_reads, keeps_paid, needed}
use Rattle.star_spec.proofs.ListsKeep.{list_methods_keep}
use Rattle.star_spec.proofs.MembersHeld.{from_values, in_values, last_members, members_held, new_list_keeps, more_held}
use Rattle.star_spec.proofs.RangesHeld.{between_fits, range_held}
use Rattle.star_spec.proofs.RowsHeld.{augmented_held, binary_held, int_of_held, fits_signed}
use Rattle.star_spec.proofs.OrderHeld.{in_order_held}
use Rattle.star_spec.proofs.TextMethodsKeep.{method_keeps}
use Rattle.star_spec.proofs.TextsKeep.{low_utf8, repr_keeps, str_keeps}

-- ---- functions of one value

pub has_members_keeps : {H : Type 0} (p : Place) (v : Value) → Keeps {H = H} Anything (reads (λ store. is_some (members_in store v)) >>= need kind.ValueKind p)
has_members_keeps p v = keeps_then {P = Anything} (keeps_reads (λ store. is_some (members_in store v)) (λ store h. tt)) (λ b u. keeps_need kind.ValueKind p b)

-- what is done with the number of members
counted_keeps : {H A : Type 0} {P : A → Type 0} {f : ℕ → Computation H A} (p : Place) (v : Value) → ((n : ℕ) → Keeps P (f n)) → Keeps P (reads (λ store. count_in store v) >>= f)
counted_keeps p v h = keeps_then {P = Anything} (keeps_reads (λ store. count_in store v) (λ store h. tt)) (λ n g. h n)

length_keeps : {H : Type 0} (p : Place) (v : Value) → Keeps {H = H} HeldValue (length_row p v)
length_keeps p (text_value t) = int_of_held p (pos (length t))
length_keeps p v = keeps_then (has_members_keeps p v) (λ u w. counted_keeps p v (λ n. int_of_held p (pos n)))

type_utf8 : (v : Value) → IsUtf8 (type_name v)
type_utf8 none_value = low_utf8 (codes "NoneType") refl
type_utf8 (bool_value b) = low_utf8 (codes "bool") refl
type_utf8 (int_value z) = low_utf8 (codes "int") refl
type_utf8 (text_value t) = low_utf8 (codes "string") refl
type_utf8 (tuple_value vs) = low_utf8 (codes "tuple") refl
type_utf8 (range_value a b d) = low_utf8 (codes "range") refl
type_utf8 (struct_value fs) = low_utf8 (codes "struct") refl
type_utf8 (fragment_value k cs) = low_utf8 (codes "yamlfragment") refl
type_utf8 (list_value r) = low_utf8 (codes "list") refl
type_utf8 (dict_value r) = low_utf8 (codes "dict") refl
type_utf8 (function_value r) = low_utf8 (codes "function") refl
type_utf8 (module_value x fs) = low_utf8 (codes "module") refl
type_utf8 (native_value f) = low_utf8 (codes "builtin_function_or_method") refl

given_keeps : {H : Type 0} {m : Computation H (List ℕ)} → Keeps IsUtf8 m → Keeps HeldValue (text_given m)
given_keeps h = keeps_then h (λ t u. keeps_give (text_value t) u)

truth_keeps : {H : Type 0} (v : Value) → Keeps {H = H} HeldValue (truth_row v)
truth_keeps v = keeps_reads (λ store. bool_value (truth_in store v)) (λ store h. tt)

failure_keeps : {H : Type 0} (p : Place) (v : Value) → HeldValue v → Keeps {H = H} HeldValue (failure_row p v)
failure_keeps p v h = keeps_then (str_keeps p v h) (λ t u. keeps_fail kind.Failed p t)

-- ---- members

members_or_held : (o : Option (List Value)) → IfFound HeldList o → HeldList (members_or_none o)
members_or_held None h = tt
members_or_held (Some vs) h = h

members_paid_keeps : {H : Type 0} (n : ℕ) (p : Place) (v : Value) → HeldValue v → Keeps {H = H} HeldList (members_paid n p v)
members_paid_keeps n p v h =
    keeps_then (has_members_keeps p v) (λ u w. counted_keeps p v (λ k.
    keeps_paid (n * k) p (keeps_reads (λ store. members_or_none (members_in store v)) (λ store g. members_or_held (members_in store v) (members_held store v g h)))))

reversed_held : (vs : List Value) → HeldList vs → HeldList (reverse vs)
reversed_held [] h = tt
reversed_held (v ∷ vs) h = subst HeldList (sym (reverse-append (v ∷ []) vs)) (more_held (reverse vs) (v ∷ []) (reversed_held vs h.1) (h.0, tt))

list_row_keeps : {H : Type 0} (p : Place) (v : Value) → HeldValue v → Keeps {H = H} HeldValue (list_row p v)
list_row_keeps p v h = keeps_then (members_paid_keeps 2 p v h) new_list_keeps

tuple_keeps : {H : Type 0} (p : Place) (v : Value) → HeldValue v → Keeps {H = H} HeldValue (tuple_row p v)
tuple_keeps p v h = keeps_then (members_paid_keeps 2 p v h) (λ vs k. keeps_give (tuple_of vs) (from_values vs k))

reversed_keeps : {H : Type 0} (p : Place) (v : Value) → HeldValue v → Keeps {H = H} HeldValue (reversed_row p v)
reversed_keeps p v h = keeps_then (members_paid_keeps 2 p v h) (λ vs k. new_list_keeps (reverse vs) (reversed_held vs k))

test_keeps : {H : Type 0} (test : Store → List Value → Bool) (p : Place) (v : Value) → HeldValue v → Keeps {H = H} HeldValue (test_row test p v)
test_keeps test p v h = keeps_then (members_paid_keeps 1 p v h) (λ vs k. keeps_reads (λ store. bool_value (test store vs)) (λ store g. tt))

-- where the first number and the last have 128 bits, each has
numbered_held : (z : ℤ) (vs : List Value) → FitsSigned w128 z → last_fits z vs ≡ true → HeldList vs → HeldList (numbered z vs)
numbered_held z [] f e h = tt
numbered_held z (v ∷ []) f e h = ((f, (h.0, tt)), tt)
numbered_held z (v ∷ w ∷ vs) f e h =
    let same : z +ℤ pos (suc (length vs)) ≡ (z +ℤ pos 1) +ℤ pos (length vs) = omega (arith, ints) in
    let next : FitsSigned w128 (z +ℤ pos 1) = between_fits z (z +ℤ pos 1) (z +ℤ pos (suc (length vs))) (omega (arith, ints)) (omega (arith, ints)) f (fits_signed _ e) in
    ((f, (h.0, tt)), numbered_held (z +ℤ pos 1) (w ∷ vs) next (subst (λ y. fits y ≡ true) same e) h.1)

start_held : (v : Value) → HeldValue v → FitsSigned w128 (bound_in (pos 0) v)
start_held (int_value z) h = h
start_held _ h = fits_signed (pos 0) refl

enumerate_keeps : {H : Type 0} (p : Place) (v start : Value) → HeldValue v → HeldValue start → Keeps {H = H} HeldValue (enumerate_row p v start)
enumerate_keeps p v start h k =
    keeps_then (keeps_need kind.ValueKind p (is_bound start)) (λ u t.
    keeps_then (members_paid_keeps 2 p v h) (λ vs g.
    keeps_then (needed kind.IntOverflow p (last_fits (bound_in (pos 0) start) vs)) (λ u e.
    new_list_keeps (numbered (bound_in (pos 0) start) vs) (numbered_held (bound_in (pos 0) start) vs (start_held start k) e g))))

-- ---- several values

-- the values of several lists are held
abbrev AllHeld : List (List Value) → Type 0
AllHeld [] = Unit {0}
AllHeld (vs ∷ vss) = HeldList vs × AllHeld vss

-- what is taken of each, and the tuples of it
firsts_held : (vss : List (List Value)) → AllHeld vss → HeldList (firsts vss)
firsts_held [] h = tt
firsts_held ([] ∷ vss) h = firsts_held vss h.1
firsts_held ((v ∷ vs) ∷ vss) h = (h.0.0, firsts_held vss h.1)

behind_held : (vss : List (List Value)) → AllHeld vss → AllHeld (map (drop 1) vss)
behind_held [] h = tt
behind_held (vs ∷ vss) h = (last_members 1 vs h.0, behind_held vss h.1)

zipped_held : (n : ℕ) (vss : List (List Value)) → AllHeld vss → HeldList (zipped n vss)
zipped_held zero vss h = tt
zipped_held (suc n) vss h = (from_values (firsts vss) (firsts_held vss h), zipped_held n (map (drop 1) vss) (behind_held vss h))

all_members_held : (store : Store) (vs : List Value) → HeldStore store → HeldList vs → AllHeld (map (λ v. members_or_none (members_in store v)) vs)
all_members_held store [] g h = tt
all_members_held store (v ∷ vs) g h = (members_or_held (members_in store v) (members_held store v g h.0), all_members_held store vs g h.1)

zip_keeps : {H : Type 0} → OwnKeeps (zip_row {H = H})
zip_keeps {H = H} = record { by = by } where
  by : (p : Place) (args : Arguments) → HeldArguments args → Keeps {H = H} HeldValue (zip_row p args)
  by p (arguments vs (a_field x v fs)) h = keeps_fail kind.ArgBind p []
  by p (arguments vs no_fields) h =
      keeps_then (keeps_then {P = Anything} (keeps_reads (λ store. all_have_members store (values_in vs)) (λ store g. tt)) (λ b t. keeps_need kind.ValueKind p b)) (λ u t.
      keeps_then {P = Anything} (keeps_reads (λ store. map (count_in store) (values_in vs)) (λ store g. tt)) (λ ns t.
      keeps_then (keeps_paid (sum_of ns + least_of ns) p
      (keeps_reads (λ store. zipped (least_of ns) (map (λ v. members_or_none (members_in store v)) (values_in vs))) (λ store g. zipped_held (least_of ns) _ (all_members_held store (values_in vs) g (in_values vs h.0))))) new_list_keeps))

-- ---- numbers

read_keeps : {H : Type 0} (p : Place) (base : ℕ) (t : List ℕ) → Keeps {H = H} HeldValue (read_row p base t)
read_keeps p base t = paid_keeps p (text_value t ∷ []) 0 0 (keeps_then {P = Anything} (keeps_or_fail kind.ValueKind p (integer_read base t) (λ z e. tt)) (λ z u. int_of_held p z))

integer_keeps : {H : Type 0} (p : Place) (v : Value) (given : Bool) (b : Value) → HeldValue v → Keeps {H = H} HeldValue (integer_row p v given b)
integer_keeps p (text_value t) true b h = keeps_then {P = Anything} (keeps_or_fail kind.ValueKind p (base_of b) (λ n e. tt)) (λ n u. read_keeps p n t)
integer_keeps p (text_value t) false b h = read_keeps p 10 t
integer_keeps p (int_value z) false b h = keeps_give (int_value z) h
integer_keeps p (bool_value true) false b h = keeps_give (int_value (pos 1)) (fits_signed (pos 1) refl)
integer_keeps p (bool_value false) false b h = keeps_give (int_value (pos 0)) (fits_signed (pos 0) refl)
integer_keeps p v given b h = keeps_fail kind.ValueKind p []

absolute_keeps : {H : Type 0} (p : Place) (v : Value) → Keeps {H = H} HeldValue (absolute_row p v)
absolute_keeps p v = keeps_then {P = Anything} (keeps_or_fail kind.ValueKind p (as_int v) (λ z e. tt)) (λ z t. int_of_held p (if is_negative z then neg_ℤ z else z))

integer_there : (v : Value) → HeldValue v → IfFound (FitsSigned w128) (as_int v)
integer_there (int_value z) h = h
integer_there _ h = tt

integers_there : (vs : List Value) → HeldList vs → IfFound HeldNumbers (all_integers vs)
integers_there [] h = tt
integers_there (v ∷ vs) h = front (as_int v) (all_integers vs) (integer_there v h.0) (integers_there vs h.1) where
  front : (a : Option ℤ) (b : Option (List ℤ)) → IfFound (FitsSigned w128) a → IfFound HeldNumbers b → IfFound HeldNumbers (integer_in_front a b)
  front None b h k = tt
  front (Some z) None h k = tt
  front (Some z) (Some zs) h k = (h, k)

range_by_keeps : {H : Type 0} (p : Place) (a b d : ℤ) → FitsSigned w128 a → FitsSigned w128 b → Keeps {H = H} HeldValue (range_by p a b d)
range_by_keeps p a b d f g = keeps_if (is_zero d) (λ e. keeps_fail kind.ValueKind p []) (λ e. keeps_give (range_value a b d) (range_held a b d f g))

range_from_keeps : {H : Type 0} (p : Place) (zs : List ℤ) → HeldNumbers zs → Keeps {H = H} HeldValue (range_from p zs)
range_from_keeps p [] h = keeps_fail kind.ArgBind p []
range_from_keeps p (b ∷ []) h = range_by_keeps p (pos 0) b (pos 1) (fits_signed (pos 0) refl) h.0
range_from_keeps p (a ∷ b ∷ []) h = range_by_keeps p a b (pos 1) h.0 h.1.0
range_from_keeps p (a ∷ b ∷ d ∷ []) h = range_by_keeps p a b d h.0 h.1.0
range_from_keeps p (a ∷ b ∷ d ∷ e ∷ more) h = keeps_fail kind.ArgBind p []

range_keeps : {H : Type 0} → OwnKeeps (range_row {H = H})
range_keeps {H = H} = record { by = by } where
  by : (p : Place) (args : Arguments) → HeldArguments args → Keeps {H = H} HeldValue (range_row p args)
  by p (arguments vs fs) h =
      keeps_then (keeps_need kind.ArgBind p (range_arguments (values_in vs) fs)) (λ u t.
      keeps_then (keeps_or_fail kind.ValueKind p (all_integers (values_in vs)) (λ zs e. found_one HeldNumbers _ zs (integers_there (values_in vs) (in_values vs h.0)) e)) (range_from_keeps p))

-- ---- attributes

name_keeps : {H : Type 0} {f : Name → Computation H Value} (p : Place) (v : Value) → ((x : Name) → Keeps HeldValue (f x)) → Keeps HeldValue (name_then p v f)
name_keeps p v h = keeps_then {P = Anything} (keeps_or_fail kind.ValueKind p (as_text v) (λ x e. tt)) (λ x t. h x)

has_attribute_keeps : {H : Type 0} (p : Place) (v x : Value) → Keeps {H = H} HeldValue (has_attribute_row p v x)
has_attribute_keeps p v x = name_keeps p x (λ t. keeps_give (bool_value (is_some (attribute_of v t))) tt)

get_attribute_keeps : {H : Type 0} (p : Place) (v x : Value) (given : Bool) (d : Value) → HeldValue v → HeldValue d → Keeps {H = H} HeldValue (get_attribute_row p v x given d)
get_attribute_keeps {H = H} p v x given d h k = name_keeps p x (λ t. by t given (attribute_of v t) (attribute_held v t h)) where
  by : (t : Name) (given : Bool) (o : Option Value) → IfFound HeldValue o → Keeps {H = H} HeldValue (attribute_or p t given d o)
  by t given (Some w) g = keeps_give w g
  by t true None g = keeps_give d k
  by t false None g = keeps_fail kind.KeyMissing p t

names_held : (fs : Fields) → HeldFields fs → HeldList (names_of fs)
names_held no_fields h = tt
names_held (a_field x v fs) h = (h.0, names_held fs h.2)

field_names_held : (v : Value) → HeldValue v → HeldList (field_names v)
field_names_held (struct_value fs) h = names_held fs h.0
field_names_held (module_value m fs) h = names_held fs h.1
field_names_held _ h = tt

field_names_keep : {H : Type 0} (p : Place) (v : Value) → HeldValue v → Keeps {H = H} HeldValue (field_names_row p v)
field_names_keep p v h =
    keeps_paid (length (field_names v)) p
    (keeps_then (keeps_reads (λ store. in_order false store (field_names v) (field_names v)) (λ store g. in_order_held false store (field_names v) (field_names v) (field_names_held v h))) new_list_keeps)

-- ---- the table

one_keeps : {H : Type 0} (f : Place → Value → Computation H Value) → ((p : Place) (v : Value) → HeldValue v → Keeps HeldValue (f p v)) → OwnKeeps (of_one f)
one_keeps f k = taking_keeps (codes "x" ∷ []) [] (λ p vs h. k p (value_at 0 vs) (nth_held 0 vs h))

builtins_keep : {H : Type 0} → AllKeep (builtins {H = H})
builtins_keep =
    one_keeps _ (λ p v h. length_keeps p v) also
    one_keeps _ (λ p v h. given_keeps (str_keeps p v h)) also
    one_keeps _ (λ p v h. given_keeps (repr_keeps p v h)) also
    one_keeps _ (λ p v h. keeps_give (text_value (type_name v)) (type_utf8 v)) also
    taking_keeps [] (codes "x" ∷ []) (λ p vs h. truth_keeps (value_at 0 vs)) also
    one_keeps _ failure_keeps also
    seeing_keeps (λ args. taking_keeps [] (codes "x" ∷ []) (λ p vs h. keeps_if (is_given 0 (codes "x") args) (λ e. list_row_keeps p (value_at 0 vs) (nth_held 0 vs h)) (λ e. new_list_keeps [] tt))) also
    seeing_keeps (λ args. taking_keeps [] (codes "x" ∷ []) (λ p vs h. keeps_if (is_given 0 (codes "x") args) (λ e. tuple_keeps p (value_at 0 vs) (nth_held 0 vs h)) (λ e. keeps_give (tuple_of []) tt))) also
    one_keeps _ reversed_keeps also
    one_keeps _ (test_keeps some_true) also
    one_keeps _ (test_keeps all_true) also
    one_keeps _ (λ p v h. absolute_keeps p v) also
    range_keeps also
    taking_keeps (codes "x" ∷ []) (codes "start" ∷ []) (λ p vs h. enumerate_keeps p (value_at 0 vs) (value_at 1 vs) (nth_held 0 vs h) (nth_held 1 vs h)) also
    zip_keeps also
    seeing_keeps (λ args. taking_keeps (codes "x" ∷ []) (codes "base" ∷ []) (λ p vs h. integer_keeps p (value_at 0 vs) (is_given 1 (codes "base") args) (value_at 1 vs) (nth_held 0 vs h))) also
    taking_keeps (codes "x" ∷ codes "name" ∷ []) [] (λ p vs h. has_attribute_keeps p (value_at 0 vs) (value_at 1 vs)) also
    seeing_keeps (λ args. taking_keeps (codes "x" ∷ codes "name" ∷ []) (codes "default" ∷ []) (λ p vs h. get_attribute_keeps p (value_at 0 vs) (value_at 1 vs) (is_given 2 (codes "default") args) (value_at 2 vs) (nth_held 0 vs h) (nth_held 2 vs h))) also
    dict_row_keeps also
    one_keeps _ field_names_keep also
    none_keep

-- ---- calls

row_keeps : {H : Type 0} (p : Place) (o : Option (Own H)) (vs : Arguments) → IfFound OwnKeeps o → HeldArguments vs → Keeps HeldValue (row_of p o vs)
row_keeps p None vs g h = keeps_fail kind.ValueKind p []
row_keeps p (Some f) vs g h = g.by p vs h

-- what the table has under a name
named_keeps : {H : Type 0} (p : Place) (x : Name) (fs : List (Name × Own H)) (vs : Arguments) → AllKeep fs → HeldArguments vs → Keeps HeldValue (row_of p (own_in x fs) vs)
named_keeps p x fs vs g h = row_keeps p (own_in x fs) vs (g.found x) h

of_value_keeps : {H : Type 0} (p : Place) (x : Name) (v : Value) (vs : Arguments) → HeldValue v → HeldArguments vs → Keeps {H = H} HeldValue (own_method p x v vs)
of_value_keeps p x (text_value t) vs h k = method_keeps p x t vs h k
of_value_keeps p x (list_value r) vs h k = named_keeps p x (list_methods r) vs (list_methods_keep r) k
of_value_keeps p x (dict_value r) vs h k = named_keeps p x (dict_methods r) vs (dict_methods_keep r) k
of_value_keeps p x v vs h k = keeps_fail kind.ValueKind p []

pub own_keeps : {H : Type 0} (p : Place) (f : Value) (vs : Arguments) → HeldValue f → HeldArguments vs → Keeps {H = H} HeldValue (own_row p f vs)
own_keeps p (native_value (builtin x)) vs h k = named_keeps p x builtins vs builtins_keep k
own_keeps p (native_value (method x v)) vs h k = of_value_keeps p x v vs h.1 k
own_keeps p f vs h k = keeps_fail kind.ValueKind p []

-- ---- operators

filled_held : {H : Type 0} (p : Place) (o : BinaryOperator) (a b : Value) (otherwise : Computation H Value) → HeldValue a → HeldValue b → Keeps HeldValue otherwise → Keeps HeldValue (filled_or p o a b otherwise)
filled_held p remainder (text_value t) b otherwise h k g = percent_keeps p t b h k
filled_held p o a b otherwise h k g = g

pub operator_held : {H : Type 0} (p : Place) (o : BinaryOperator) (a b : Value) → HeldValue a → HeldValue b → Keeps {H = H} HeldValue (operator_row p o a b)
operator_held p o a b h k = filled_held p o a b (binary_row p o a b) h k (binary_held p o a b h k)

pub assignment_held : {H : Type 0} (p : Place) (o : BinaryOperator) (a b : Value) → HeldValue a → HeldValue b → Keeps {H = H} HeldValue (assignment_row p o a b)
assignment_held p o a b h k = filled_held p o a b (augment_row p o a b) h k (augmented_held p o a b h k)
