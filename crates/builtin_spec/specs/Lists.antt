-- The methods of lists. One that changes its list is refused first where the list can't be changed, then by kinds and places; then come
-- its steps, and then what it does.
use Rattle.std.specs.Prelude.{ℕ, suc, ℤ, pos, negsuc, Bool, true, false, ◌&&◌, List, [], ◌∷◌, length, take, drop, Option, Some, None, codes, slice_get, if◌then◌else◌}
use Rattle.ytt_base.specs.declared.fault.FaultKind.TheVariants as kind
use Rattle.ytt_base.specs.declared.fault.Place.{Place}
use Rattle.code_spec.specs.Code.{Name}
use Rattle.index_spec.specs.Index.{place_among}
use Rattle.index_spec.specs.Slices.{is_bound}
use Rattle.operator_spec.specs.Equality.{equality}
use Rattle.operator_spec.specs.Operators.{extend_row, int_of}
use Rattle.text_spec.specs.Answers.{paid_operation}
use Rattle.text_spec.specs.Methods.{place_of}
use Rattle.text_spec.specs.Signatures.{value_at}
use Rattle.value_spec.specs.Members.{as_int}
use Rattle.value_spec.specs.Outcomes.{Computation, acting, fail, give, need, or_fail, paid, reads, ◌>>=◌}
use Rattle.value_spec.specs.Store.{clear, list_at, list_insert, list_push, list_remove, may_change}
use Rattle.value_spec.specs.Values.{Value, none_value, int_value, list_value}
use Rattle.builtin_spec.specs.Binding.{Own, is_given, taking}

-- what is done, and None
abbrev pub done_by : {H : Type 0} → Computation H (Unit {0}) → Computation H Value
done_by m = m >>= λ u. give none_value

-- where a list can be changed
abbrev pub changing : {H A : Type 0} → Place → ℕ → Computation H A → Computation H A
changing p r m = acting p (may_change r) >>= λ u. m

-- an integer, or ValueKind
abbrev pub integer_then : {H A : Type 0} → Place → Value → (ℤ → Computation H A) → Computation H A
integer_then p v f = or_fail kind.ValueKind p (as_int v) >>= f

-- ---- places

-- The place of the first member that equals a value, counted on from this one; the cost of each equality is told by `test`.
abbrev pub equal_from : {H : Type 0} → (test : Computation H Bool → Computation H Bool) → Place → Value → (members : List Value) → ℕ → Computation H (Option ℕ)
equal_from test p x [] i = give None
equal_from test p x (v ∷ vs) i = test (equality p v x) >>= λ same. if same then give (Some i) else equal_from test p x vs (suc i)

-- 0, or the number of the members, where no bound is given
abbrev pub bound_in : (absent : ℤ) → Value → ℤ
bound_in z (int_value y) = y
bound_in z _ = z

-- the members from one place to another
abbrev pub members_between : List Value → (from to : Value) → List Value
members_between vs a b =
    drop (place_of (length vs) (bound_in (pos 0) a)) (take (place_of (length vs) (bound_in (pos (length vs)) b)) vs)

-- ---- rows

abbrev pub append_row : {H : Type 0} → Place → ℕ → Value → Computation H Value
append_row p r x = done_by (acting p (list_push r x))

abbrev pub clear_row : {H : Type 0} → Place → ℕ → (itself : Value) → Computation H Value
clear_row p r v = changing p r (paid_operation p (v ∷ []) 0 0 (done_by (acting p (clear r))))

abbrev pub extending_row : {H : Type 0} → Place → ℕ → Value → Computation H Value
extending_row p r x = extend_row p r x >>= λ v. give none_value

-- the place of the first equal member between two places: 1 and an equality each
abbrev pub index_of_row : {H : Type 0} → Place → ℕ → (sought from to : Value) → Computation H Value
index_of_row p r x a b = do
  u ← need kind.ValueKind p (is_bound a && is_bound b)
  vs ← reads (list_at r)
  i ← equal_from (paid p) p x (members_between vs a b) (place_of (length vs) (bound_in (pos 0) a)) >>= or_fail kind.KeyMissing p
  int_of p (pos i)

-- in front of the member at a place, or behind all
abbrev pub insert_row : {H : Type 0} → Place → ℕ → (at member : Value) → Computation H Value
insert_row p r i x = changing p r (integer_then p i (λ z.
    paid_operation p (list_value r ∷ x ∷ []) 0 0 (reads (list_at r) >>= λ vs. done_by (acting p (list_insert r (place_of (length vs) z) x)))))

-- the member at a place goes, and is given; only a place that is given costs
abbrev pub taken_from : {H : Type 0} → Place → ℕ → (costs : Bool) → Option ℕ → Computation H Value
taken_from p r costs None = fail kind.IndexRange p
taken_from p r false (Some i) = acting p (list_remove r i)
taken_from p r true (Some i) = do
  v ← reads (list_at r) >>= λ vs. or_fail kind.IndexRange p (slice_get vs i)
  paid_operation p (list_value r ∷ v ∷ []) 0 0 (acting p (list_remove r i))

abbrev pub pop_row : {H : Type 0} → Place → ℕ → (given : Bool) → (at : Value) → Computation H Value
pop_row p r false i = changing p r (reads (list_at r) >>= λ vs. taken_from p r false (place_among (length vs) (negsuc 0)))
pop_row p r true i = changing p r (integer_then p i (λ z. reads (list_at r) >>= λ vs. taken_from p r true (place_among (length vs) z)))

-- the first equal member goes
abbrev pub remove_row : {H : Type 0} → Place → ℕ → Value → Computation H Value
remove_row p r x = changing p r (paid_operation p (list_value r ∷ x ∷ []) 0 0 (do
  vs ← reads (list_at r)
  i ← equal_from (λ m. m) p x vs 0 >>= or_fail kind.KeyMissing p
  v ← acting p (list_remove r i)
  give none_value))

-- ---- the table

abbrev pub list_methods : {H : Type 0} → (position : ℕ) → List (Name × Own H)
list_methods r =
    (codes "append", taking (codes "x" ∷ []) [] (λ p vs. append_row p r (value_at 0 vs)))
    ∷ (codes "clear", taking [] [] (λ p vs. clear_row p r (list_value r)))
    ∷ (codes "extend", taking (codes "x" ∷ []) [] (λ p vs. extending_row p r (value_at 0 vs)))
    ∷ (codes "index", taking (codes "x" ∷ []) (codes "from" ∷ codes "to" ∷ []) (λ p vs. index_of_row p r (value_at 0 vs) (value_at 1 vs) (value_at 2 vs)))
    ∷ (codes "insert", taking (codes "i" ∷ codes "x" ∷ []) [] (λ p vs. insert_row p r (value_at 0 vs) (value_at 1 vs)))
    ∷ (codes "pop", λ p args. taking [] (codes "i" ∷ []) (λ p vs. pop_row p r (is_given 0 (codes "i") args) (value_at 0 vs)) p args)
    ∷ (codes "remove", taking (codes "x" ∷ []) [] (λ p vs. remove_row p r (value_at 0 vs)))
    ∷ []
