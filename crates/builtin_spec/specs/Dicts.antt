-- The methods of dicts. One that changes its dict is refused first where the dict can't be changed, then by its key; then come its steps,
-- and then what it does.
use Rattle.std.specs.Prelude.{ℕ, nat_le, Bool, true, false, not, ◌&&◌, List, [], ◌∷◌, ◌++◌, length, map as each, Option, Some, None, unwrap_or, codes}
use Rattle.ytt_base.specs.declared.fault.FaultKind.{FaultKind}
use Rattle.ytt_base.specs.declared.fault.FaultKind.TheVariants as kind
use Rattle.ytt_base.specs.declared.fault.Place.{Place}
use Rattle.ytt_base.specs.Trees.{max_depth}
use Rattle.code_spec.specs.Code.{Name}
use Rattle.index_spec.specs.Index.{missing}
use Rattle.operator_spec.specs.Operators.{tuple_of}
use Rattle.operator_spec.specs.Order.{key_sized}
use Rattle.text_spec.specs.Answers.{paid_operation}
use Rattle.text_spec.specs.Signatures.{value_at}
use Rattle.value_spec.specs.Binding.{has_twice, text_pairs}
use Rattle.value_spec.specs.Keys.{key_offence}
use Rattle.value_spec.specs.Members.{members_in}
use Rattle.value_spec.specs.Outcomes.{Computation, acting, fail, give, need, new_dict, new_list, or_fail, reads, ◌>>=◌}
use Rattle.value_spec.specs.Store.{dict_put, dict_remove, pairs_at, put_pairs, value_of_key}
use Rattle.value_spec.specs.Values.{Value, dict_value, values_in, Values, Fields, arguments, Store}
use Rattle.builtin_spec.specs.Binding.{Own, is_given, taking}
use Rattle.builtin_spec.specs.Lists.{changing, clear_row, done_by}

-- the value of a key, if it stands there
abbrev pub value_in : {H : Type 0} → ℕ → Value → Computation H (Option Value)
value_in r k = reads (λ store. value_of_key k (pairs_at r store))

-- ---- rows

-- the value of a key, or another where the key isn't there
abbrev pub get_row : {H : Type 0} → Place → ℕ → (key otherwise : Value) → Computation H Value
get_row p r k d = do
  u ← key_sized p k
  v ← value_in r k
  give (unwrap_or v d)

-- a new list of what each pair is
abbrev pub listing_row : {H : Type 0} → (Value × Value → Value) → Place → ℕ → Computation H Value
listing_row f p r = reads (pairs_at r) >>= λ ps. paid_operation p (dict_value r ∷ []) 0 (length ps) (new_list (each f ps))

abbrev pub pair_value : Value × Value → Value
pair_value q = tuple_of (q.0 ∷ q.1 ∷ [])

-- the pair of a key goes, and its value is given, or another where the key isn't there and one is given
abbrev pub taken_or : {H : Type 0} → Place → ℕ → (key : Value) → (given : Bool) → (otherwise : Value) → Option Value → Computation H Value
taken_or p r k given d (Some v) = acting p (dict_remove r k)
taken_or p r k true d None = give d
taken_or p r k false d None = missing p k

abbrev pub pop_key_row : {H : Type 0} → Place → ℕ → (key : Value) → (given : Bool) → (otherwise : Value) → Computation H Value
pop_key_row p r k given d = changing p r (key_sized p k >>= λ u. value_in r k >>= taken_or p r k given d)

-- the first pair goes, and is given
abbrev pub first_taken : {H : Type 0} → Place → ℕ → List (Value × Value) → Computation H Value
first_taken p r [] = fail kind.KeyMissing p
first_taken p r (q ∷ qs) = key_sized p q.0 >>= λ u. acting p (dict_remove r q.0) >>= λ v. give (pair_value q)

abbrev pub popitem_row : {H : Type 0} → Place → ℕ → Computation H Value
popitem_row p r = changing p r (reads (pairs_at r) >>= first_taken p r)

-- the value of a key, which gets this one where it isn't there
abbrev pub put_or : {H : Type 0} → Place → ℕ → (key otherwise : Value) → Option Value → Computation H Value
put_or p r k d (Some v) = give v
put_or p r k d None = acting p (dict_put r k d) >>= λ u. give d

abbrev pub setdefault_row : {H : Type 0} → Place → ℕ → (key otherwise : Value) → Computation H Value
setdefault_row p r k d = changing p r (key_sized p k >>= λ u. value_in r k >>= put_or p r k d)

-- ---- pairs that are put into a dict

abbrev pub pair_of : Option (List Value) → Option (Value × Value)
pair_of (Some (k ∷ v ∷ [])) = Some (k, v)
pair_of _ = None

abbrev pub pair_in_front : Option (Value × Value) → Option (List (Value × Value)) → Option (List (Value × Value))
pair_in_front (Some q) (Some qs) = Some (q ∷ qs)
pair_in_front _ _ = None

-- the pairs that these are, if each has two members
abbrev pub all_pairs : Store → List Value → Option (List (Value × Value))
all_pairs store [] = Some []
all_pairs store (v ∷ vs) = pair_in_front (pair_of (members_in store v)) (all_pairs store vs)

abbrev pub pairs_if_any : Store → Option (List Value) → Option (List (Value × Value))
pairs_if_any store None = None
pairs_if_any store (Some vs) = all_pairs store vs

-- the pairs of a dict, or those that the members of a value are
abbrev pub pairs_of : Store → Value → Option (List (Value × Value))
pairs_of store (dict_value r) = Some (pairs_at r store)
pairs_of store v = pairs_if_any store (members_in store v)

-- those of a value, or of none
abbrev pub pairs_given : Store → List Value → Option (List (Value × Value))
pairs_given store [] = Some []
pairs_given store (v ∷ vs) = pairs_of store v

-- at most one argument by position, and no name twice
abbrev pub pairs_bound : Values → Fields → Bool
pairs_bound vs fs = nat_le (length (values_in vs)) 1 && not (has_twice fs)

abbrev pub no_offence : {H : Type 0} → Place → Option FaultKind → Computation H (Unit {0})
no_offence p None = give tt
no_offence p (Some why) = fail why p

abbrev pub all_keys : {H : Type 0} → Place → List (Value × Value) → Computation H (Unit {0})
all_keys p [] = give tt
all_keys p (q ∷ qs) = no_offence p (key_offence max_depth q.0) >>= λ u. all_keys p qs

-- those of the value, and then the arguments by name, whose keys are their names; ValueKind where the value is none of pairs, and the refusal of what is no key
abbrev pub pairs_taken : {H : Type 0} → Place → List Value → Fields → Computation H (List (Value × Value))
pairs_taken p vs fs = do
  qs ← reads (λ store. pairs_given store vs) >>= or_fail kind.ValueKind p
  u ← all_keys p (qs ++ text_pairs fs)
  give (qs ++ text_pairs fs)

abbrev pub keys_sized : {H : Type 0} → Place → List (Value × Value) → Computation H (Unit {0})
keys_sized p [] = give tt
keys_sized p (q ∷ qs) = key_sized p q.0 >>= λ u. keys_sized p qs

abbrev pub field_values : Fields → List Value
field_values fs = each (λ q. q.1) (text_pairs fs)

-- each pair in turn
abbrev pub put_each : {H : Type 0} → Place → ℕ → List (Value × Value) → Computation H (Unit {0})
put_each p r [] = give tt
put_each p r (q ∷ qs) = acting p (dict_put r q.0 q.1) >>= λ u. put_each p r qs

-- the steps of the operation, those of each key, and then each pair in turn
abbrev pub all_put : {H : Type 0} → Place → ℕ → (operands : List Value) → List (Value × Value) → Computation H Value
all_put p r vs qs = paid_operation p vs 0 0 (keys_sized p qs >>= λ u. done_by (put_each p r qs))

abbrev pub update_row : {H : Type 0} → ℕ → Own H
update_row r p (arguments vs fs) = do
  u ← need kind.ArgBind p (pairs_bound vs fs)
  changing p r (pairs_taken p (values_in vs) fs >>= all_put p r (dict_value r ∷ values_in vs ++ field_values fs))

-- a new dict of pairs
abbrev pub dict_row : {H : Type 0} → Own H
dict_row p (arguments vs fs) = do
  u ← need kind.ArgBind p (pairs_bound vs fs)
  qs ← pairs_taken p (values_in vs) fs
  paid_operation p (values_in vs ++ field_values fs) 0 (length (put_pairs [] qs)) (keys_sized p qs >>= λ u. new_dict (put_pairs [] qs))

-- ---- the table

abbrev pub dict_methods : {H : Type 0} → (position : ℕ) → List (Name × Own H)
dict_methods r =
    (codes "clear", taking [] [] (λ p vs. clear_row p r (dict_value r)))
    ∷ (codes "get", taking (codes "k" ∷ []) (codes "d" ∷ []) (λ p vs. get_row p r (value_at 0 vs) (value_at 1 vs)))
    ∷ (codes "items", taking [] [] (λ p vs. listing_row pair_value p r))
    ∷ (codes "keys", taking [] [] (λ p vs. listing_row (λ q. q.0) p r))
    ∷ (codes "pop", λ p args. taking (codes "k" ∷ []) (codes "d" ∷ []) (λ p vs. pop_key_row p r (value_at 0 vs) (is_given 1 (codes "d") args) (value_at 1 vs)) p args)
    ∷ (codes "popitem", taking [] [] (λ p vs. popitem_row p r))
    ∷ (codes "setdefault", taking (codes "k" ∷ []) (codes "d" ∷ []) (λ p vs. setdefault_row p r (value_at 0 vs) (value_at 1 vs)))
    ∷ (codes "update", update_row r) ∷ (codes "values", taking [] [] (λ p vs. listing_row (λ q. q.1) p r))
    ∷ []
