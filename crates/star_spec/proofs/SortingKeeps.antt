-- What `sorted`, `min` and `max` give and ask for is what the program holds.
use Rattle.std.proofs.Common.{nat_le, Bool, true, false, ◌&&◌, if◌then◌else◌, List, [], ◌∷◌, length, Option, Some, None, bytes_eq, codes}
use Rattle.ytt_base.specs.declared.fault.FaultKind.TheVariants as kind
use Rattle.ytt_base.specs.declared.fault.Place.{Place}
use Rattle.builtin_spec.specs.Calls.{asked_row, keyed_or, own_row}
use Rattle.builtin_spec.specs.Sorting.{Keyed, Wanted, without_keys, asks_keys, in_order, are_of_one_kind, all_sized, steps_for, chosen, wanted_row, room_for, members_taken, is_key_function, keyed_by, is_flag, is_true, sorted_row, key_alone, candidates, first_row, keyed_builtin}
use Rattle.code_spec.specs.Code.{Name}
use Rattle.star_spec.specs.Held.{HeldValue, HeldFields, HeldList, HeldArguments}
use Rattle.text_spec.specs.Signatures.{value_at}
use Rattle.value_spec.specs.Binding.{none_for_each, parameters_named}
use Rattle.value_spec.specs.Members.{is_empty}
use Rattle.value_spec.specs.Numbers.{range_count}
use Rattle.value_spec.specs.Outcomes.{Computation, give, ◌>>=◌}
use Rattle.value_spec.specs.Store.{first_of}
use Rattle.value_spec.specs.Values.{Value, none_value, range_value, native_value, builtin, values_in, Fields, no_fields, a_field, Arguments, arguments}
use Rattle.star_spec.proofs.BindingsKeep.{bound_keeps, nones_held, nth_held}
use Rattle.star_spec.proofs.BuiltinsKeep.{has_members_keeps, own_keeps}
use Rattle.star_spec.proofs.Keeping.{IfFound, found_if, found_one, Keeps, Anything, keeps_then, keeps_give, keeps_fail, keeps_need, keeps_or_fail, keeps_reads, keeps_paid}
use Rattle.star_spec.proofs.MembersHeld.{in_values, members_keep, new_list_keeps}
use Rattle.star_spec.proofs.OrderHeld.{in_order_held}
use Rattle.star_spec.proofs.RowsHeld.{measured_keeps}

abbrev pub HeldKeyed : Keyed → Type 0
HeldKeyed (without_keys v) = HeldValue v
HeldKeyed (asks_keys w f vs) = HeldValue f × HeldList vs

-- ---- what is wanted of members

all_sized_keep : {H : Type 0} (p : Place) (vs : List Value) → Keeps {H = H} Anything (all_sized p vs)
all_sized_keep p [] = keeps_give tt tt
all_sized_keep p (v ∷ vs) = keeps_then (measured_keeps 6 p v) (λ u t. all_sized_keep p vs)

first_held : (vs : List Value) → HeldList vs → IfFound HeldValue (first_of vs)
first_held [] h = tt
first_held (v ∷ vs) h = h.0

chosen_keeps : {H : Type 0} (p : Place) (b : Bool) (vs : List Value) → HeldList vs → Keeps {H = H} HeldValue (chosen p b vs)
chosen_keeps p true vs h = keeps_or_fail kind.ValueKind p (first_of vs) (λ v e. found_one HeldValue (first_of vs) v (first_held vs h) e)
chosen_keeps p false vs h = new_list_keeps vs h

pub wanted_keeps : {H : Type 0} (p : Place) (w : Wanted) (vs ks : List Value) → HeldList vs → Keeps {H = H} HeldValue (wanted_row p w vs ks)
wanted_keeps p w vs ks h =
    keeps_then (keeps_need kind.ValueKind p (are_of_one_kind ks)) (λ u t. keeps_then (all_sized_keep p ks) (λ u t.
    keeps_then (keeps_paid (steps_for w (length vs)) p (keeps_reads (λ store. in_order w.descending store vs ks) (λ store g. in_order_held w.descending store vs ks h))) (chosen_keeps p w.first_alone)))

-- ---- members and keys

room_keeps : {H : Type 0} (p : Place) (v : Value) → Keeps {H = H} Anything (room_for p v)
room_keeps p (range_value start stop step) = record { by = λ s g. (keeps_need kind.Steps p (nat_le (range_count start stop step) s.steps)).by s g }
room_keeps p v = keeps_give tt tt

pub members_taken_keep : {H : Type 0} (p : Place) (v : Value) → HeldValue v → Keeps {H = H} HeldList (members_taken p v)
members_taken_keep p v h = keeps_then (has_members_keeps p v) (λ u t. keeps_then (room_keeps p v) (λ u t. members_keep p v h))

keyed_keeps : {H : Type 0} (p : Place) (w : Wanted) (k : Value) (vs : List Value) → HeldValue k → HeldList vs → Keeps {H = H} HeldKeyed (keyed_by p w k vs)
keyed_keeps p w none_value vs h g = keeps_then (wanted_keeps p w vs vs g) (λ v i. keeps_give (without_keys v) i)
keyed_keeps p w k vs h g = keeps_give (asks_keys w k vs) (h, g)

sorted_keeps : {H : Type 0} (p : Place) (args : Arguments) → HeldArguments args → Keeps {H = H} HeldKeyed (sorted_row p args)
sorted_keeps p args h =
    keeps_then (bound_keeps p (parameters_named (codes "x" ∷ []) (codes "key" ∷ codes "reverse" ∷ [])) (none_for_each (codes "key" ∷ codes "reverse" ∷ [])) args (nones_held (codes "key" ∷ codes "reverse" ∷ [])) h) (λ os i.
    keeps_then (keeps_need kind.ValueKind p (is_key_function (value_at 1 os) && is_flag (value_at 2 os))) (λ u t.
    keeps_then (members_taken_keep p (value_at 0 os) (nth_held 0 os i)) (λ vs g. keyed_keeps p (record { first_alone = false; descending = is_true (value_at 2 os) }) (value_at 1 os) vs (nth_held 1 os i) g)))

key_held : (fs : Fields) → HeldFields fs → IfFound HeldValue (key_alone fs)
key_held no_fields h = tt
key_held (a_field x v no_fields) h = found_if HeldValue (bytes_eq x (codes "key")) (Some v) None h.1 tt
key_held (a_field x v (a_field y w fs)) h = tt

candidates_keep : {H : Type 0} (p : Place) (vs : List Value) → HeldList vs → Keeps {H = H} HeldList (candidates p vs)
candidates_keep p [] h = keeps_fail kind.ArgBind p []
candidates_keep p (v ∷ []) h = members_taken_keep p v h.0
candidates_keep p (v ∷ w ∷ vs) h = keeps_give (v ∷ w ∷ vs) h

first_keeps : {H : Type 0} (d : Bool) (p : Place) (args : Arguments) → HeldArguments args → Keeps {H = H} HeldKeyed (first_row d p args)
first_keeps d p (arguments vs fs) h =
    keeps_then (keeps_or_fail kind.ArgBind p (if is_empty (values_in vs) then None else key_alone fs) (λ k e. found_one HeldValue _ k (found_if HeldValue (is_empty (values_in vs)) None (key_alone fs) tt (key_held fs h.1)) e)) (λ k i.
    keeps_then (keeps_need kind.ValueKind p (is_key_function k)) (λ u t.
    keeps_then (candidates_keep p (values_in vs) (in_values vs h.0)) (λ ws g. keyed_keeps p (record { first_alone = true; descending = d }) k ws i g)))

-- ---- calls

record RowKeeps {H : Type 0} (row : Place → Arguments → Computation H Keyed) : Type 0 where
  pub by : (p : Place) (args : Arguments) → HeldArguments args → Keeps HeldKeyed (row p args)

table_keeps : (H : Type 0) (x : Name) → IfFound RowKeeps (keyed_builtin {H = H} x)
table_keeps H x =
    found_if RowKeeps (bytes_eq x (codes "sorted")) (Some sorted_row) _ (record { by = sorted_keeps })
    (found_if RowKeeps (bytes_eq x (codes "min")) (Some (first_row false)) _ (record { by = first_keeps false })
    (found_if RowKeeps (bytes_eq x (codes "max")) (Some (first_row true)) None (record { by = first_keeps true }) tt))

plain_keeps : {H : Type 0} (p : Place) (f : Value) (args : Arguments) → HeldValue f → HeldArguments args → Keeps {H = H} HeldKeyed (own_row p f args >>= λ v. give (without_keys v))
plain_keeps p f args h k = keeps_then (own_keeps p f args h k) (λ v g. keeps_give (without_keys v) g)

keyed_or_keeps : {H : Type 0} (p : Place) (f : Value) (args : Arguments) (o : Option (Place → Arguments → Computation H Keyed)) → HeldValue f → HeldArguments args → IfFound RowKeeps o → Keeps HeldKeyed (keyed_or p f args o)
keyed_or_keeps p f args None h k g = plain_keeps p f args h k
keyed_or_keeps p f args (Some row) h k g = g.by p args k

pub asked_keeps : {H : Type 0} (p : Place) (f : Value) (args : Arguments) → HeldValue f → HeldArguments args → Keeps {H = H} HeldKeyed (asked_row p f args)
asked_keeps {H = H} p (native_value (builtin x)) args h k = keyed_or_keeps p (native_value (builtin x)) args (keyed_builtin x) h k (table_keeps H x)
asked_keeps p f args h k = plain_keeps p f args h k
