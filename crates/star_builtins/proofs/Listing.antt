-- Methods of lists: the first member that equals a value, and what their rows come to.
use Rattle.std.proofs.Common.{◌≡◌, ℕ, suc, ◌-◌, nat_le, ◌+◌, ◌<◌, ◌^◌, ◌+ℤ◌, FitsSigned, to_z, of_z, unwrap_or, ◌&&◌, arith, rules, ℤ, pos, slice_get, get_or, length, option_map, take, drop, subst, Bool, true, if◌then◌else◌, List, [], ◌∷◌, Option, Some, None, Result, Err, refl, sym, ap, ◌∙◌}
use Rattle.ytt_base.specs.declared.fault.FaultKind.TheVariants as kind
use Rattle.ytt_base.specs.declared.fault.Place.{Place}
use Rattle.ytt_base.specs.declared.fault.Stop.{Stop}
use Rattle.builtin_spec.specs.Lists.{bound_in, done_by, equal_from, index_of_row, insert_row, integer_then, members_between, pop_row, remove_row, taken_from}
use Rattle.index_spec.specs.Index.{place_among}
use Rattle.index_spec.specs.Slices.{is_bound}
use Rattle.operator_spec.specs.Operators.{int_of}
use Rattle.std.proofs.lemmas.List.{drop-map, length-map, take-map}
use Rattle.std.proofs.lemmas.Bool.{lt-ltb}
use Rattle.std.specs.Int.{w128}
use Rattle.std.proofs.lemmas.Int.{to_z-of_z, to_z_pos}
use Rattle.star_text.proofs.Paying.{after_cost}
use Rattle.std.proofs.lemmas.Option.{slice_get-get_or, slice_get-map}
use Rattle.ytt_base.specs.Outcomes.{fault_at}
use Rattle.ytt_base.specs.declared.fault.Stop.TheVariants as stop
use Rattle.star_values.proofs.Growing.{grows_same}
use Rattle.star_values.specs.declared.value.Value.{Value}
use Rattle.star_values.specs.declared.value.Value.TheVariants as value
use Rattle.operator_spec.specs.Equality.{equality}
use Rattle.star_steps.specs.Meets.{Gives, Meets, as_is, state_in}
use Rattle.star_steps.proofs.Meeting.{gives_stop, meets_same, meets_stop}
use Rattle.star_values.specs.View.{View, value_of, values_of}
use Rattle.text_spec.specs.Answers.{paid_operation}
use Rattle.text_spec.specs.Methods.{place_of}
use Rattle.value_spec.specs.Outcomes.{Computation, Ending, State, acting, done, fail, give, need, or_fail, paid, paid_by, reads, take_if, take_steps, then_do, ◌>>=◌}
use Rattle.value_spec.specs.Store.{did, list_at, list_insert, list_remove, may_change}
use Rattle.value_spec.specs.Values as plain
use Rattle.star_builtins.proofs.Changing.{changes_now}

-- ---- one member after another

module _ (p : Place) (x v : plain.Value) (each : ℕ) (vs : List plain.Value) (i : ℕ) (a : View) (n : ℕ) where
  abbrev further : Bool → Computation (Unit {0}) (Option ℕ)
  further same = if same then give (Some i) else equal_from (paid_by each p) p x vs (suc i)

  abbrev sought : Ending (Unit {0}) (Option ℕ)
  sought = equal_from (paid_by each p) p x (v ∷ vs) i (state_in a n)

  -- its steps are refused
  pub member_unpaid : (view : Option ℕ → Option ℕ) (e : Stop) (k : ℕ) (r : Result (Option ℕ) Stop) → Meets as_is (Err e) (state_in a k) (take_steps each p (state_in a n)) → r ≡ Err e → Meets view r (state_in a k) sought
  member_unpaid view e k r stop is = meets_stop {C = Option ℕ} as_is view e (state_in a k) (paid_by each p (equality p v x) (state_in a n)) further r (meets_stop {C = Bool} as_is as_is e (state_in a k) (take_steps each p (state_in a n)) (λ u. equality p v x) (Err e) stop refl) is

  module _ (m : ℕ) (taken : take_steps each p (state_in a n) ≡ done tt (state_in a m)) where
    compared : sought ≡ then_do (equality p v x (state_in a m)) further
    compared = ap (λ o. then_do (then_do o (λ u. equality p v x)) further) taken

    -- the equality is refused
    pub member_refused : (view : Option ℕ → Option ℕ) (e : Stop) (k : ℕ) (r : Result (Option ℕ) Stop) → Meets as_is (Err e) (state_in a k) (equality p v x (state_in a m)) → r ≡ Err e → Meets view r (state_in a k) sought
    member_refused view e k r stop is = meets_same view r (state_in a k) _ _ compared (meets_stop as_is view e (state_in a k) (equality p v x (state_in a m)) further r stop is)

    -- it is told whether they are equal
    pub member_told : (k : ℕ) (same : Bool) → equality p v x (state_in a m) ≡ done same (state_in a k) → sought ≡ further same (state_in a k)
    member_told k same e = compared ∙ ap (λ o. then_do o further) e

-- ---- without steps

-- there are always no steps to take
free : (n : ℕ) → nat_le 0 n ≡ true
free n = search (rules, arith)

free_steps : (p : Place) (s : State (Unit {0})) → take_steps 0 p s ≡ done tt s
free_steps p s =
    let left : s.steps - 0 ≡ s.steps = omega arith in
    ap (λ b. take_if b 0 p s) (free s.steps) ∙ ap (λ k. done tt (record s { steps = k })) left

-- no steps are as good as none asked for
pub unpaid_for : (p : Place) (x : plain.Value) (vs : List plain.Value) (i : ℕ) (s : State (Unit {0})) → equal_from (paid_by 0 p) p x vs i s ≡ equal_from (λ m. m) p x vs i s
unpaid_for p x [] i s = refl
unpaid_for p x (v ∷ vs) i s =
    ap (λ o. then_do (then_do o (λ u. equality p v x)) (λ same. if same then give (Some i) else equal_from (paid_by 0 p) p x vs (suc i))) (free_steps p s)
    ∙ ap (λ f. then_do (equality p v x s) (λ same. if same then give (Some i) else f)) (λ j s. unpaid_for p x vs (suc i) s j)

-- ---- a member that is sought

module _ (p : Place) (a : View) (row : Ending (Unit {0}) plain.Value) (o : Ending (Unit {0}) (Option ℕ)) (next : ℕ → Computation (Unit {0}) plain.Value) (begins : row ≡ then_do (then_do o (or_fail kind.KeyMissing p)) next) where
  -- the search is refused
  pub search_refused : {A : Type 0} (view : A → Option ℕ) (e : Stop) (k : ℕ) (result : Result Value Stop) → Meets view (Err e) (state_in a k) o → result ≡ Err e → Gives row result a a k
  search_refused view e k result stop is =
      gives_stop {A = ℕ} as_is e a k (then_do o (or_fail kind.KeyMissing p)) next result row begins (meets_stop {C = ℕ} view as_is e (state_in a k) o (or_fail kind.KeyMissing p) (Err e) stop refl) is

  -- nothing is found
  pub search_failed : (k : ℕ) (e : Stop) → o ≡ done None (state_in a k) → e ≡ stop.Fault (fault_at kind.KeyMissing p) → Gives row (Err e) a a k
  search_failed k e none is = subst (λ e. Gives row (Err e) a a k) (sym is) (record {
    meaning = begins ∙ ap (λ o. then_do (then_do o (or_fail kind.KeyMissing p)) next) none;
    owns = tt;
    grows = grows_same a;
  })

  -- a member is found
  pub search_done : (i k : ℕ) → o ≡ done (Some i) (state_in a k) → row ≡ next i (state_in a k)
  search_done i k found = begins ∙ ap (λ o. then_do (then_do o (or_fail kind.KeyMissing p)) next) found

-- ---- rows

-- what follows the cost of an insertion
abbrev pub inserting : Place → ℕ → ℤ → plain.Value → Computation (Unit {0}) plain.Value
inserting p r z x = reads (list_at r) >>= λ vs. done_by (acting p (list_insert r (place_of (length vs) z) x))

-- an insertion of which the cost comes next
pub insert_begins : (p : Place) (r : ℕ) (i x : plain.Value) (z : ℤ) (a : View) (n : ℕ) → may_change r a.store ≡ did tt a.store → i ≡ plain.int_value z → insert_row p r i x (state_in a n) ≡ paid_operation p (plain.list_value r ∷ x ∷ []) 0 0 (inserting p r z x) (state_in a n)
insert_begins p r i x z a n may e =
    changes_now p r (integer_then p i (λ z. paid_operation p (plain.list_value r ∷ x ∷ []) 0 0 (inserting p r z x))) a n may
    ∙ ap (λ v. integer_then p v (λ z. paid_operation p (plain.list_value r ∷ x ∷ []) 0 0 (inserting p r z x)) (state_in a n)) e

-- the member at a place
member_seen : (a : View) (vs : List Value) (ms : List plain.Value) (k : ℕ) → ms ≡ values_of a vs → k < length vs → slice_get ms k ≡ Some (value_of a (get_or vs k value.None))
member_seen a vs ms k e h = ap (λ l. slice_get l k) e ∙ slice_get-map (value_of a) vs k ∙ ap (option_map (value_of a)) (slice_get-get_or vs k value.None h)

-- a member is taken out at a place that is given, and the cost comes next
pub pop_begins : (p : Place) (r : ℕ) (i : plain.Value) (z : ℤ) (k : ℕ) (a : View) (n : ℕ) (vs : List Value) → may_change r a.store ≡ did tt a.store → i ≡ plain.int_value z → FitsSigned w128 z → list_at r a.store ≡ values_of a vs →
    Some k ≡ place_among (length vs) (to_z w128 (of_z w128 z)) → k < length vs → pop_row p r true i (state_in a n) ≡ paid_operation p (plain.list_value r ∷ value_of a (get_or vs k value.None) ∷ []) 0 0 (acting p (list_remove r k)) (state_in a n)
pop_begins p r i z k a n vs may e fits seen there inside =
    changes_now p r (integer_then p i (λ z. reads (list_at r) >>= λ vs. taken_from p r true (place_among (length vs) z))) a n may
    ∙ ap (λ v. integer_then p v (λ z. reads (list_at r) >>= λ vs. taken_from p r true (place_among (length vs) z)) (state_in a n)) e
    ∙ ap (λ m. taken_from p r true (place_among m z) (state_in a n)) (ap length seen ∙ length-map vs (value_of a))
    ∙ ap (λ o. taken_from p r true o (state_in a n)) (ap (place_among (length vs)) (sym (to_z-of_z w128 z fits)) ∙ sym there)
    ∙ ap (λ o. then_do (or_fail kind.IndexRange p o (state_in a n)) (λ v. paid_operation p (plain.list_value r ∷ v ∷ []) 0 0 (acting p (list_remove r k)))) (member_seen a vs (list_at r a.store) k seen inside)

-- what follows the cost of a removal
abbrev pub removing : Place → ℕ → plain.Value → Computation (Unit {0}) plain.Value
removing p r x = do
  vs ← reads (list_at r)
  i ← equal_from (λ m. m) p x vs 0 >>= or_fail kind.KeyMissing p
  v ← acting p (list_remove r i)
  give plain.none_value

-- the member that goes
abbrev pub removed : Place → ℕ → ℕ → Computation (Unit {0}) plain.Value
removed p r i = acting p (list_remove r i) >>= λ v. give plain.none_value

-- a removal whose cost is taken
pub remove_begins : (p : Place) (r : ℕ) (x : plain.Value) (a : View) (n m : ℕ) (vs : List plain.Value) → may_change r a.store ≡ did tt a.store → paid_operation p (plain.list_value r ∷ x ∷ []) 0 0 (give (tt {0})) (state_in a n) ≡ done tt (state_in a m) → list_at r a.store ≡ vs →
    remove_row p r x (state_in a n) ≡ then_do (then_do (equal_from (paid_by 0 p) p x vs 0 (state_in a m)) (or_fail kind.KeyMissing p)) (removed p r)
remove_begins p r x a n m vs may taken e =
    changes_now p r (paid_operation p (plain.list_value r ∷ x ∷ []) 0 0 (removing p r x)) a n may
    ∙ after_cost p (plain.list_value r ∷ x ∷ []) 0 0 (removing p r x) (state_in a n)
    ∙ ap (λ o. then_do o (λ (u : Unit {0}). removing p r x)) taken
    ∙ ap (λ vs. then_do (then_do (equal_from (λ m. m) p x vs 0 (state_in a m)) (or_fail kind.KeyMissing p)) (removed p r)) e
    ∙ ap (λ o. then_do (then_do o (or_fail kind.KeyMissing p)) (removed p r)) (sym (unpaid_for p x vs 0 (state_in a m)))

-- a search between bounds
pub index_begins : (p : Place) (r : ℕ) (x f t : plain.Value) (a : View) (n : ℕ) (vs ms : List Value) (first end : ℕ) → is_bound f ≡ true → is_bound t ≡ true → list_at r a.store ≡ values_of a vs → first ≡ place_of (length vs) (bound_in (pos 0) f) →
    end ≡ place_of (length vs) (bound_in (pos (length vs)) t) → ms ≡ drop first (take end vs) →
    index_of_row p r x f t (state_in a n) ≡ then_do (then_do (equal_from (paid_by 1 p) p x (values_of a ms) first (state_in a n)) (or_fail kind.KeyMissing p)) (λ i. int_of p (pos i))
index_begins p r x f t a n vs ms first end one two e from to are =
    ap (λ b. then_do (need kind.ValueKind p (b && is_bound t) (state_in a n)) (λ u. sought)) one
    ∙ ap (λ b. then_do (need kind.ValueKind p (true && b) (state_in a n)) (λ u. sought)) two
    ∙ ap (λ ws. ending (length ws) ws) e
    ∙ ap (λ k. ending k (values_of a vs)) (length-map vs (value_of a))
    ∙ (λ i. place (drop (sym from i) (take (sym to i) (values_of a vs))) (sym from i))
    ∙ ap (λ ws. place ws first) (ap (drop first) (take-map (value_of a) end vs) ∙ drop-map (value_of a) first (take end vs) ∙ ap (values_of a) (sym are))
  where
    place : List plain.Value → ℕ → Ending (Unit {0}) plain.Value
    place ws k = then_do (then_do (equal_from (paid_by 1 p) p x ws k (state_in a n)) (or_fail kind.KeyMissing p)) (λ i. int_of p (pos i))

    ending : ℕ → List plain.Value → Ending (Unit {0}) plain.Value
    ending k ws = place (drop (place_of k (bound_in (pos 0) f)) (take (place_of k (bound_in (pos k) t)) ws)) (place_of k (bound_in (pos 0) f))

    sought : Computation (Unit {0}) plain.Value
    sought = do
      vs ← reads (list_at r)
      i ← equal_from (paid p) p x (members_between vs f t) (place_of (length vs) (bound_in (pos 0) f)) >>= or_fail kind.KeyMissing p
      int_of p (pos i)

-- a bound as a place
pub bound_place : (n place : ℕ) (z absent : ℤ) (o : Option ℤ) (v : plain.Value) → FitsSigned w128 z → place ≡ place_of n (to_z w128 (of_z w128 z)) → z ≡ unwrap_or o absent → bound_in absent v ≡ unwrap_or o absent → place ≡ place_of n (bound_in absent v)
bound_place n place z absent o v fits e is told = e ∙ ap (place_of n) (to_z-of_z w128 z fits ∙ is ∙ sym told)

-- a place is a number of 128 bits
pub place_fits : (p : Place) (i k : ℕ) (s : State (Unit {0})) → i < 2 ^ 64 → k < 2 ^ 64 → int_of p (pos (i + k)) s ≡ done (plain.int_value (to_z w128 (of_z w128 (to_z w128 i +ℤ to_z w128 k)))) s
place_fits p i k s h l =
    let below : i + k < 2 ^ 127 = omega arith in
    let fits : FitsSigned w128 (pos (i + k)) = search (rules, arith) in
    let told : to_z w128 (of_z w128 (to_z w128 i +ℤ to_z w128 k)) ≡ pos (i + k) =
    (λ j. to_z w128 (of_z w128 (to_z_pos w128 i (omega arith) j +ℤ to_z_pos w128 k (omega arith) j))) ∙ to_z-of_z w128 (pos (i + k)) fits in
    ap (λ b. (if b then give (plain.int_value (pos (i + k))) else fail kind.IntOverflow p) s) (lt-ltb (i + k) (2 ^ 127) below)
    ∙ ap (λ z. done (plain.int_value z) s) (sym told)
