-- Pairs that are gathered for a dict: from the members of a value, with keys that are ones, and from arguments by name.
use Rattle.std.proofs.Common.{◌≡◌, ℕ, nat_le, Bool, true, false, List, [], ◌∷◌, ◌++◌, length, Option, Some, None, option_map, Result, Err, ◌+◌, ◌/◌, append_assoc, arith, refl, sym, ap, subst, ◌∙◌}
use Rattle.ytt_base.specs.declared.fault.FaultKind.TheVariants as kind
use Rattle.ytt_base.specs.declared.fault.Place.{Place}
use Rattle.ytt_base.specs.declared.fault.Stop.{Stop}
use Rattle.ytt_base.specs.Trees.{max_depth}
use Rattle.builtin_spec.specs.Dicts.{all_keys, all_pairs, dict_row, field_values, keys_sized, no_offence, pair_in_front, pair_of, pairs_bound, pairs_given, pairs_taken, put_each, update_row}
use Rattle.builtin_spec.specs.Lists.{changing, done_by}
use Rattle.star_steps.specs.Meets.{Gives, Meets, as_is, state_in, stop_of}
use Rattle.star_steps.proofs.Meeting.{meets_same, meets_stop, tuple_members}
use Rattle.star_calls.proofs.Kept.{fields_kept}
use Rattle.star_values.proofs.Growing.{grows_then, owns_all_kept, values_kept}
use Rattle.star_values.specs.Answers.{Answers}
use Rattle.star_values.specs.Objects.{pairs_in}
use Rattle.star_values.specs.Owns.{Each, Grows, OwnsArguments, OwnsPair}
use Rattle.star_values.specs.View.{View, fields_in, value_of, values_of}
use Rattle.star_values.specs.declared.object.ArenaStop.{ArenaStop}
use Rattle.star_values.specs.declared.object.ArenaStop.TheVariants as arena_stop
use Rattle.star_values.specs.declared.value.CallArgs.{CallArgs}
use Rattle.star_values.specs.declared.value.Value as held
use Rattle.text_spec.specs.Answers.{all_bytes, all_members, operation_cost, paid_operation}
use Rattle.value_spec.specs.Binding.{text_pairs}
use Rattle.value_spec.specs.Keys.{key_offence}
use Rattle.value_spec.specs.Members.{members_in}
use Rattle.value_spec.specs.Outcomes.{Computation, Ending, State, after_act, give, need, new_dict, or_fail, paid_by, take_if, then_do, ◌>>=◌}
use Rattle.value_spec.specs.Store.{Answer, put_pairs}
use Rattle.value_spec.specs.Values.{Value, Fields, no_fields, a_field, dict_value, none_value, Store, arguments, values_from, values_in}
use Rattle.star_builtins.specs.Pairing.{AreNamed, Pairs, dict_from, pairs_then, update_from}
use Rattle.star_builtins.specs.View.{Here}

-- ---- the members of a value

-- other than two members are no pair
pub not_two : (ws : List Value) → (length ws ≡ 2 → ⊥) → pair_of (Some ws) ≡ None
not_two [] h = refl
not_two (v ∷ []) h = refl
not_two (v ∷ w ∷ []) h = absurd (h refl)
not_two (v ∷ w ∷ x ∷ ws) h = refl

in_front : (q : Value × Value) (qs : Pairs) (o : Option Pairs) → pairs_then qs (pair_in_front (Some q) o) ≡ pairs_then (qs ++ q ∷ []) o
in_front q qs None = refl
in_front q qs (Some rs) = ap Some (sym (append_assoc qs (q ∷ []) rs))

-- one more pair
pub pair_next : (store : Store) (v : Value) (vs : List Value) (q : Value × Value) (qs : Pairs) → Some q ≡ pair_of (members_in store v) → pairs_then qs (all_pairs store (v ∷ vs)) ≡ pairs_then (qs ++ q ∷ []) (all_pairs store vs)
pair_next store v vs q qs e = ap (λ o. pairs_then qs (pair_in_front o (all_pairs store vs))) (sym e) ∙ in_front q qs (all_pairs store vs)

-- ---- their keys

pub names_are_keys : (p : Place) (qs : Pairs) (fs : Fields) (s : State Here) → all_keys p (qs ++ text_pairs fs) s ≡ all_keys p qs s
names_are_keys p [] no_fields s = refl
names_are_keys p [] (a_field x v fs) s = names_are_keys p [] fs s
names_are_keys p (q ∷ qs) fs s = λ i. then_do (no_offence p (key_offence max_depth q.0) s) (λ (u : Unit {0}) s. names_are_keys p qs fs s i)

module _ (p : Place) (vs : List Value) (fs : Fields) (a : View) (n : ℕ) where
  abbrev further : Pairs → Computation Here Pairs
  further qs = all_keys p (qs ++ text_pairs fs) >>= λ u. give (qs ++ text_pairs fs)

  -- the value is one of pairs, and then come their keys
  pub pairs_told : (qs : Pairs) → Some qs ≡ pairs_given a.store vs → pairs_taken p vs fs (state_in a n) ≡ then_do (all_keys p qs (state_in a n)) (λ (u : Unit {0}). give (qs ++ text_pairs fs))
  pairs_told qs e = ap (λ o. then_do (or_fail kind.ValueKind p o (state_in a n)) further) (sym e) ∙ ap (λ o. then_do o (λ (u : Unit {0}). give (qs ++ text_pairs fs))) (names_are_keys p qs fs (state_in a n))

-- ---- the steps

paid_if : {A B : Type 0} (b : Bool) (n : ℕ) (p : Place) (m : Computation Here A) (f : A → Computation Here B) (s : State Here) → then_do (take_if b n p s) (λ u. m >>= f) ≡ then_do (then_do (take_if b n p s) (λ u. m)) f
paid_if true n p m f s = refl
paid_if false n p m f s = refl

paid_then : {A B : Type 0} (p : Place) (vs : List Value) (k : ℕ) (m : Computation Here A) (f : A → Computation Here B) (s : State Here) → paid_operation p vs 0 k (m >>= f) s ≡ then_do (paid_operation p vs 0 k m s) f
paid_then p vs k m f s = let n = operation_cost vs 0 k s.store in paid_if (nat_le n s.steps) n p m f s

-- what has neither bytes nor members costs nothing
none_costs : {A : Type 0} (p : Place) (vs : List Value) (k : ℕ) (m : Computation Here A) (s : State Here) → paid_operation p vs 0 k m s ≡ paid_operation p (none_value ∷ vs) 0 k m s
none_costs p vs k m s =
    let bytes : all_bytes vs ≡ 0 + all_bytes vs = omega arith in
    let members : all_members s.store vs ≡ 0 + all_members s.store vs = omega arith in
    λ i. paid_by ((bytes i + 0) / 16 + (members i + k)) p m s

-- ---- rows, in an arena that has grown since

pub arguments_owned : (a b : View) (args : CallArgs) → Grows a b → OwnsArguments a args → OwnsArguments b args
arguments_owned a b args grows owned = (owns_all_kept a b args.positional grows owned.0, (fields_kept a b args.named grows owned.1).0)

-- the pairs of the names are those of the names as they are seen then
pub names_later : (a b : View) (args : CallArgs) (qs : List (held.Value × held.Value)) → Grows a b → OwnsArguments a args → Each (OwnsPair b) qs → pairs_in b.held qs ≡ text_pairs (fields_in a.held args.named) → AreNamed b args.named qs
names_later a b args qs grows owned pairs e = (pairs, e ∙ ap text_pairs (sym (fields_kept a b args.named grows owned.1).1))

module _ (args : CallArgs) (a b : View) (n : ℕ) (grows : Grows a b) (owned : OwnsArguments a args) (store : b.store ≡ a.store) where
  -- what a row gives there it gives
  pub given_later : (d : View) (k : ℕ) (r : Result held.Value Stop) (row : Ending Here Value) (m : List Value → Fields → Computation Here Value) → row ≡ m (values_of a args.positional) (fields_in a.held args.named) (state_in a n) →
      Gives (m (values_of b args.positional) (fields_in b.held args.named) (state_in b n)) r b d k → Gives row r a d k
  given_later d k r row m e g = record {
    meaning =
        meets_same (value_of d) r (state_in d k) _ _
        (e ∙ (λ i. m (sym (values_kept a b args.positional grows owned.0) i) (sym (fields_kept a b args.named grows owned.1).1 i) (record { store = sym store i; steps = n; host = tt }))) g.meaning;
    owns = g.owns;
    grows = grows_then a b d grows g.grows;
  }

-- the steps end before what follows them
pub dict_fits : (p : Place) (vs : List Value) (fs : Fields) (s : State Here) → pairs_bound (values_from vs) fs ≡ true → dict_row p (arguments (values_from vs) fs) s ≡ dict_from p vs fs s
dict_fits p vs fs s e =
    ap (λ b. then_do (need kind.ArgBind p b s) (λ (u : Unit {0}). pairs_taken p (values_in (values_from vs)) fs >>= making (values_in (values_from vs)))) e
    ∙ ap (λ us. then_do (pairs_taken p us fs s) (making us)) (tuple_members (values_from vs) vs refl)
    ∙ (λ i. then_do (pairs_taken p vs fs s) (λ qs s. (none_costs p (vs ++ field_values fs) (length (put_pairs [] qs)) (keys_sized p qs >>= λ u. new_dict (put_pairs [] qs)) s
    ∙ paid_then p (none_value ∷ (vs ++ field_values fs)) (length (put_pairs [] qs)) (keys_sized p qs) (λ (u : Unit {0}). new_dict (put_pairs [] qs)) s) i))
  where
    making : List Value → Pairs → Computation Here Value
    making us qs = paid_operation p (us ++ field_values fs) 0 (length (put_pairs [] qs)) (keys_sized p qs >>= λ u. new_dict (put_pairs [] qs))

pub update_fits : (p : Place) (r : ℕ) (vs : List Value) (fs : Fields) (s : State Here) → pairs_bound (values_from vs) fs ≡ true → update_row r p (arguments (values_from vs) fs) s ≡ update_from r p vs fs s
update_fits p r vs fs s e =
    ap (λ b. then_do (need kind.ArgBind p b s) (λ (u : Unit {0}). changing p r (pairs_taken p (values_in (values_from vs)) fs >>= putting (values_in (values_from vs))))) e
    ∙ ap (λ us. changing p r (pairs_taken p us fs >>= putting us) s) (tuple_members (values_from vs) vs refl)
    ∙ (λ i. changing p r (pairs_taken p vs fs >>= (λ qs s. paid_then p (dict_value r ∷ (vs ++ field_values fs)) 0 (keys_sized p qs) (λ (u : Unit {0}). done_by (put_each p r qs)) s i)) s)
  where
    putting : List Value → Pairs → Computation Here Value
    putting us qs = paid_operation p (dict_value r ∷ us ++ field_values fs) 0 0 (keys_sized p qs >>= λ u. done_by (put_each p r qs))

-- ---- how they end

-- a refusal, after which the arena has grown
pub stopped_grown : {A B : Type 0} (view : A → B) (e : Stop) (a b : View) (n : ℕ) (o : Ending Here B) (k : B → Computation Here Value) (r : Result held.Value Stop) (row : Ending Here Value) →
    row ≡ then_do o k → Meets view (Err e) (state_in b n) o → r ≡ Err e → Grows a b → Gives row r a b n
stopped_grown view e a b n o k r row same stopped is grows = subst (λ r. Gives row r a b n) (sym is) (record {
  meaning = meets_same (value_of b) (Err e) (state_in b n) _ _ same (meets_stop view (value_of b) e (state_in b n) o k (Err e) stopped refl);
  owns = tt;
  grows = grows;
})

-- an act that is refused
pub refused_act : (p : Place) (a b : View) (n : ℕ) (answer : Answer Store (Unit {0})) (stop : ArenaStop) → Answers {A = Unit {0}} {B = Unit {0}} (λ u. u) (Err stop) a.store b.store answer → Meets {A = Unit {0}} as_is (Err (stop_of p stop)) (state_in b n) (after_act p answer (state_in a n))
refused_act p a b n answer arena_stop.Frozen e = λ i. after_act p (e.0 i) (record { store = sym e.1 i; steps = n; host = tt })
refused_act p a b n answer arena_stop.Iterating e = λ i. after_act p (e.0 i) (record { store = sym e.1 i; steps = n; host = tt })
refused_act p a b n answer arena_stop.IndexRange e = λ i. after_act p (e.0 i) (record { store = sym e.1 i; steps = n; host = tt })
refused_act p a b n answer arena_stop.KeyMissing e = λ i. after_act p (e.0 i) (record { store = sym e.1 i; steps = n; host = tt })
refused_act p a b n answer arena_stop.Memory e = tt

-- pairs that were given, as they are seen
pub taken_told : (a : View) (now qs : List (held.Value × held.Value)) (o : Option (List (held.Value × held.Value))) (ws vs : List held.Value) → now ≡ qs → o ≡ Some qs → option_map (pairs_in a.held) o ≡ pairs_given a.store (values_of a ws) → ws ≡ vs → Some (pairs_in a.held now) ≡ pairs_given a.store (values_of a vs)
taken_told a now qs o ws vs same is told those = ap (λ ps. Some (pairs_in a.held ps)) same ∙ ap (option_map (pairs_in a.held)) (sym is) ∙ told ∙ ap (λ ws. pairs_given a.store (values_of a ws)) those
