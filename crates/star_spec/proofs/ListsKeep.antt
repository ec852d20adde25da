-- What the methods of lists give is what the program holds, and so is what they leave.
use Rattle.std.proofs.Common.{ℤ, pos, negsuc, ℕ, suc, Bool, true, false, ◌&&◌, List, [], ◌∷◌, length, slice_get, Option, Some, None, codes}
use Rattle.ytt_base.specs.declared.fault.FaultKind.TheVariants as kind
use Rattle.ytt_base.specs.declared.fault.Place.{Place}
use Rattle.builtin_spec.specs.Binding.{is_given}
use Rattle.builtin_spec.specs.Lists.{done_by, changing, integer_then, bound_in, members_between, equal_from, clear_row, extending_row, index_of_row, insert_row, taken_from, pop_row, remove_row, list_methods}
use Rattle.index_spec.specs.Index.{place_among}
use Rattle.index_spec.specs.Slices.{is_bound}
use Rattle.operator_spec.specs.Equality.{equality}
use Rattle.star_spec.specs.Held.{HeldValue}
use Rattle.text_spec.specs.Methods.{place_of}
use Rattle.text_spec.specs.Signatures.{value_at}
use Rattle.value_spec.specs.Members.{as_int}
use Rattle.value_spec.specs.Outcomes.{Computation, or_fail, paid, ◌>>=◌}
use Rattle.value_spec.specs.Values.{Value, none_value, list_value}
use Rattle.star_spec.proofs.ActsKeep.{clear_keeps, list_insert_keeps, list_push_keeps, list_remove_keeps}
use Rattle.star_spec.proofs.BindingsKeep.{◌also◌, AllKeep, none_keep, nth_held, seeing_keeps, taking_keeps}
use Rattle.star_spec.proofs.FillingKeeps.{paid_keeps}
use Rattle.star_spec.proofs.Keeping.{Keeps, Anything, keeps_then, keeps_give, keeps_fail, keeps_or_fail, keeps_need, keeps_paid, keeps_if, may_change_keeps}
use Rattle.star_spec.proofs.MembersHeld.{list_keeps}
use Rattle.star_spec.proofs.RowsHeld.{equality_keeps, extended_held, int_of_held}

-- ---- forms of rows

done_keeps : {H : Type 0} {m : Computation H (Unit {0})} → Keeps Anything m → Keeps HeldValue (done_by m)
done_keeps h = keeps_then h (λ u t. keeps_give none_value tt)

pub changing_keeps : {H A : Type 0} {P : A → Type 0} {m : Computation H A} (p : Place) (r : ℕ) → Keeps P m → Keeps P (changing p r m)
changing_keeps p r h = keeps_then (may_change_keeps p r) (λ u t. h)

integer_keeps : {H A : Type 0} {P : A → Type 0} {f : ℤ → Computation H A} (p : Place) (v : Value) → ((z : ℤ) → Keeps P (f z)) → Keeps P (integer_then p v f)
integer_keeps p v h = keeps_then {P = Anything} (keeps_or_fail kind.ValueKind p (as_int v) (λ z e. tt)) (λ z t. h z)

-- whatever is paid for each equality
equal_keeps : {H : Type 0} (test : Computation H Bool → Computation H Bool) (p : Place) (x : Value) (vs : List Value) (i : ℕ) → ((m : Computation H Bool) → Keeps Anything m → Keeps Anything (test m)) → Keeps Anything (equal_from test p x vs i)
equal_keeps test p x [] i h = keeps_give None tt
equal_keeps test p x (v ∷ vs) i h = keeps_then {P = Anything} (h (equality p v x) (equality_keeps p v x)) (λ same t. keeps_if same (λ e. keeps_give (Some i) tt) (λ e. equal_keeps test p x vs (suc i) h))

place_keeps : {H : Type 0} (p : Place) {m : Computation H (Option ℕ)} → Keeps Anything m → Keeps Anything (m >>= or_fail kind.KeyMissing p)
place_keeps p h = keeps_then {P = Anything} h (λ o t. keeps_or_fail kind.KeyMissing p o (λ i e. tt))

-- ---- rows

pub clear_row_keeps : {H : Type 0} (p : Place) (r : ℕ) (v : Value) → Keeps {H = H} HeldValue (clear_row p r v)
clear_row_keeps p r v = changing_keeps p r (paid_keeps p (v ∷ []) 0 0 (done_keeps (clear_keeps p r)))

extending_keeps : {H : Type 0} (p : Place) (r : ℕ) (x : Value) → HeldValue x → Keeps {H = H} HeldValue (extending_row p r x)
extending_keeps p r x h = keeps_then (extended_held p r x h) (λ v t. keeps_give none_value tt)

index_of_keeps : {H : Type 0} (p : Place) (r : ℕ) (x a b : Value) → Keeps {H = H} HeldValue (index_of_row p r x a b)
index_of_keeps p r x a b =
    keeps_then (keeps_need kind.ValueKind p (is_bound a && is_bound b)) (λ u t.
    keeps_then (list_keeps r) (λ vs k.
    keeps_then (place_keeps p (equal_keeps (paid p) p x (members_between vs a b) (place_of (length vs) (bound_in (pos 0) a)) (λ m h. keeps_paid 1 p h))) (λ i t. int_of_held p (pos i))))

insert_keeps : {H : Type 0} (p : Place) (r : ℕ) (i x : Value) → HeldValue x → Keeps {H = H} HeldValue (insert_row p r i x)
insert_keeps p r i x h =
    changing_keeps p r (integer_keeps p i (λ z.
    paid_keeps p (list_value r ∷ x ∷ []) 0 0 (keeps_then (list_keeps r) (λ vs k. done_keeps (list_insert_keeps p r (place_of (length vs) z) x h)))))

taken_keeps : {H : Type 0} (p : Place) (r : ℕ) (costs : Bool) (o : Option ℕ) → Keeps {H = H} HeldValue (taken_from p r costs o)
taken_keeps p r costs None = keeps_fail kind.IndexRange p []
taken_keeps p r false (Some i) = list_remove_keeps p r i
taken_keeps p r true (Some i) =
    keeps_then {P = Anything} (keeps_then (list_keeps r) (λ vs k. keeps_or_fail kind.IndexRange p (slice_get vs i) (λ v e. tt))) (λ v t. paid_keeps p (list_value r ∷ v ∷ []) 0 0 (list_remove_keeps p r i))

pop_keeps : {H : Type 0} (p : Place) (r : ℕ) (given : Bool) (i : Value) → Keeps {H = H} HeldValue (pop_row p r given i)
pop_keeps p r false i = changing_keeps p r (keeps_then (list_keeps r) (λ vs k. taken_keeps p r false (place_among (length vs) (negsuc 0))))
pop_keeps p r true i = changing_keeps p r (integer_keeps p i (λ z. keeps_then (list_keeps r) (λ vs k. taken_keeps p r true (place_among (length vs) z))))

remove_keeps : {H : Type 0} (p : Place) (r : ℕ) (x : Value) → Keeps {H = H} HeldValue (remove_row p r x)
remove_keeps p r x =
    changing_keeps p r (paid_keeps p (list_value r ∷ x ∷ []) 0 0 (keeps_then (list_keeps r) (λ vs k.
    keeps_then (place_keeps p (equal_keeps (λ m. m) p x vs 0 (λ m h. h))) (λ i t. keeps_then (list_remove_keeps p r i) (λ v g. keeps_give none_value tt)))))

-- ---- the table

pub list_methods_keep : {H : Type 0} (r : ℕ) → AllKeep (list_methods {H = H} r)
list_methods_keep r =
    taking_keeps (codes "x" ∷ []) [] (λ p vs h. done_keeps (list_push_keeps p r (value_at 0 vs) (nth_held 0 vs h))) also
    taking_keeps [] [] (λ p vs h. clear_row_keeps p r (list_value r)) also
    taking_keeps (codes "x" ∷ []) [] (λ p vs h. extending_keeps p r (value_at 0 vs) (nth_held 0 vs h)) also
    taking_keeps (codes "x" ∷ []) (codes "from" ∷ codes "to" ∷ []) (λ p vs h. index_of_keeps p r (value_at 0 vs) (value_at 1 vs) (value_at 2 vs)) also
    taking_keeps (codes "i" ∷ codes "x" ∷ []) [] (λ p vs h. insert_keeps p r (value_at 0 vs) (value_at 1 vs) (nth_held 1 vs h)) also
    seeing_keeps (λ args. taking_keeps [] (codes "i" ∷ []) (λ p vs h. pop_keeps p r (is_given 0 (codes "i") args) (value_at 0 vs))) also
    taking_keeps (codes "x" ∷ []) [] (λ p vs h. remove_keeps p r (value_at 0 vs)) also
    none_keep
