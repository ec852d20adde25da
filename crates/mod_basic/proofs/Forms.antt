-- What is converted, a form at a time.
use Rattle.std.proofs.Common.{◌≡◌, ℕ, zero, suc, ◌-◌, ◌<◌, List, [], ◌∷◌, length, arith, refl, sym, ap, ◌∙◌}
use Rattle.ytt_base.specs.declared.fault.Place.{Place}
use Rattle.code_spec.specs.Code.{Name}
use Rattle.module_spec.specs.Structs.{decoded_deeper, decoded_or, encoded_deeper, encoded_or, fields_converted, members_converted, name_of_key, pairs_converted}
use Rattle.operator_spec.specs.Operators.{tuple_of}
use Rattle.star_steps.specs.declared.steps.Depth.{Depth}
use Rattle.value_spec.proofs.Computations.{then_assoc}
use Rattle.value_spec.specs.Binding.{text_pairs}
use Rattle.value_spec.specs.Keys.{text_cost}
use Rattle.value_spec.specs.Outcomes.{Computation, Ending, State, asks, bad, done, give, new_dict, new_list, paid, take_steps, then_do, ◌>>=◌}
use Rattle.value_spec.specs.Store.{list_at, pairs_at}
use Rattle.value_spec.specs.Values.{Fields, Value, a_field, dict_value, fields_in, list_value, no_fields, struct_value, text_value, tuple_value, values_in}
use Rattle.mod_basic.specs.Walks.{Here, converted, fields_from, in_turn, member_converted, members_within, pair_converted, pairs_within, within}
use Rattle.mod_basic.specs.declared.walks.Way.{Way}
use Rattle.mod_basic.specs.declared.walks.Way.TheVariants as way

-- ---- one level

pub next_within : {T A : Type 0} (f : (levels : ℕ) → T → Computation Here A) (n : ℕ) (p : Place) (ts : List T) → 0 < n → within f n p ts ≡ in_turn (f (n - 1)) ts
next_within f zero p ts h = absurd (omega (arith, h))
next_within f (suc n) p ts h = let same : n ≡ suc n - 1 = omega arith in ap (λ m. in_turn (f m) ts) same

pub next_level : {T A : Type 0} (f : (levels : ℕ) → Place → T → Computation Here A) (at inside : Depth) (ts : List T) (s : State Here) → 0 < at.levels → inside ≡ record { place = at.place; levels = at.levels - 1 }
    → within (λ n. f n at.place) at.levels at.place ts s ≡ in_turn (f inside.levels inside.place) ts s
next_level f at inside ts s h is = ap (λ m. m s) (next_within (λ n. f n at.place) at.levels at.place ts h) ∙ ap (λ (d : Depth). in_turn (f d.levels d.place) ts s) (sym is)

-- ---- lists of parts

module _ (convert : Value → Computation Here Value) (p : Place) where
  members_each : (vs : List Value) → members_converted convert p vs ≡ in_turn (λ v. paid p (convert v)) vs
  members_each [] = refl
  members_each (v ∷ vs) = λ i. paid p (convert v) >>= λ w. members_each vs i >>= λ ws. give (w ∷ ws)

  abbrev turned : Value × Value → Computation Here (Value × Value)
  turned m = paid p (name_of_key p m.0) >>= λ x. convert m.1 >>= λ v. give (text_value x, v)

  abbrev further : List (Value × Value) → Value × Value → Computation Here (List (Value × Value))
  further ms y = in_turn turned ms >>= λ ys. give (y ∷ ys)

  -- pairs as fields
  in_front : (x : Name) (v : Value) (o : Ending Here (List (Value × Value))) → then_do (then_do o (λ ms. give (fields_from ms))) (λ fs. give (a_field x v fs)) ≡ then_do (then_do o (λ ys. give ((text_value x, v) ∷ ys))) (λ ms. give (fields_from ms))
  in_front x v (done ms s) = refl
  in_front x v (bad f s) = refl
  in_front x v (asks q s k) = λ i. asks q s (λ got t. in_front x v (k got t) i)

  module _ (ms : List (Value × Value)) (rest : (s : State Here) → fields_converted convert p ms s ≡ then_do (in_turn turned ms s) (λ ms. give (fields_from ms))) where
    value_field : (x : Name) (o : Ending Here Value) →
        then_do o (λ v. fields_converted convert p ms >>= λ fs. give (a_field x v fs)) ≡ then_do (then_do (then_do o (λ v. give (text_value x, v))) (further ms)) (λ ms. give (fields_from ms))
    value_field x (done v s) = ap (λ o. then_do o (λ fs. give (a_field x v fs))) (rest s) ∙ in_front x v (in_turn turned ms s)
    value_field x (bad f s) = refl
    value_field x (asks q s k) = λ i. asks q s (λ got t. value_field x (k got t) i)

    name_field : (m : Value × Value) (o : Ending Here Name) →
        then_do o (λ x. convert m.1 >>= λ v. fields_converted convert p ms >>= λ fs. give (a_field x v fs))
        ≡ then_do (then_do (then_do o (λ x. convert m.1 >>= λ v. give (text_value x, v))) (further ms)) (λ ms. give (fields_from ms))
    name_field m (done x s) = value_field x (convert m.1 s)
    name_field m (bad f s) = refl
    name_field m (asks q s k) = λ i. asks q s (λ got t. name_field m (k got t) i)

  fields_each : (ms : List (Value × Value)) (s : State Here) → fields_converted convert p ms s ≡ then_do (in_turn turned ms s) (λ ms. give (fields_from ms))
  fields_each [] s = refl
  fields_each (m ∷ ms) s = name_field ms (fields_each ms) m (paid p (name_of_key p m.0) s)

  -- fields as pairs
  module _ (x : Name) (v : Value) (fs : Fields) (rest : (s : State Here) → pairs_converted convert p (fields_in fs) s ≡ in_turn turned (text_pairs fs) s) where
    abbrev behind : Value → Computation Here (List (Value × Value))
    behind k = convert v >>= λ w. pairs_converted convert p (fields_in fs) >>= λ ms. give ((k, w) ∷ ms)

    value_pair : (o : Ending Here Value) → then_do o (λ w. pairs_converted convert p (fields_in fs) >>= λ ms. give ((text_value x, w) ∷ ms)) ≡ then_do (then_do o (λ w. give (text_value x, w))) (further (text_pairs fs))
    value_pair (done w s) = ap (λ o. then_do o (λ ms. give ((text_value x, w) ∷ ms))) (rest s)
    value_pair (bad f s) = refl
    value_pair (asks q s k) = λ i. asks q s (λ got t. value_pair (k got t) i)

    name_pair : (o : Ending Here (Unit {0})) →
        then_do (then_do o (λ (u : Unit {0}). give (text_value x))) behind ≡ then_do (then_do (then_do o (λ (u : Unit {0}). give x)) (λ y. convert v >>= λ w. give (text_value y, w))) (further (text_pairs fs))
    name_pair (done u s) = value_pair (convert v s)
    name_pair (bad f s) = refl
    name_pair (asks q s k) = λ i. asks q s (λ got t. name_pair (k got t) i)

    step_pair : (o : Ending Here (Unit {0})) → then_do (then_do o (λ (u : Unit {0}). take_steps (text_cost (length x)) p >>= λ (u : Unit {0}). give (text_value x))) behind
        ≡ then_do (then_do (then_do o (λ (u : Unit {0}). take_steps (text_cost (length x)) p >>= λ (u : Unit {0}). give x)) (λ y. convert v >>= λ w. give (text_value y, w))) (further (text_pairs fs))
    step_pair (done u s) = name_pair (take_steps (text_cost (length x)) p s)
    step_pair (bad f s) = refl
    step_pair (asks q s k) = λ i. asks q s (λ got t. step_pair (k got t) i)

  pairs_each : (fs : Fields) (s : State Here) → pairs_converted convert p (fields_in fs) s ≡ in_turn turned (text_pairs fs) s
  pairs_each no_fields s = refl
  pairs_each (a_field x v fs) s = step_pair x v fs (pairs_each fs) (take_steps 1 p s)

-- ---- values

pub list_form : (w : Way) (n : ℕ) (p : Place) (r : ℕ) (s : State Here) → converted w n p (list_value r) s ≡ then_do (members_within w n p (list_at r s.store) s) new_list
unfolding converted member_converted
list_form way.Encode zero p r s = refl
list_form way.Encode (suc n) p r s = λ i. then_do (members_each (λ v. encoded_or (encoded_deeper n p v) p v) p (list_at r s.store) i s) new_list
list_form way.Decode zero p r s = refl
list_form way.Decode (suc n) p r s = λ i. then_do (members_each (λ v. decoded_or (decoded_deeper n p v) p v) p (list_at r s.store) i s) new_list

abbrev pub as_tuple : List Value → Computation Here Value
as_tuple ws = give (tuple_of ws)

pub tuple_form : (w : Way) (n : ℕ) (p : Place) (s : State Here) (v : Value) (ws : List Value) → (vs : _) → v ≡ tuple_value vs → values_in vs ≡ ws → converted w n p v s ≡ then_do (members_within w n p ws s) as_tuple
unfolding converted member_converted
tuple_form way.Encode zero p s v ws vs is e = ap (λ v. converted way.Encode zero p v s) is
tuple_form way.Encode (suc n) p s v ws vs is e =
    ap (λ v. converted way.Encode (suc n) p v s) is
    ∙ (λ i. then_do (members_each (λ v. encoded_or (encoded_deeper n p v) p v) p (e i) i s) as_tuple)
tuple_form way.Decode zero p s v ws vs is e = ap (λ v. converted way.Decode zero p v s) is
tuple_form way.Decode (suc n) p s v ws vs is e =
    ap (λ v. converted way.Decode (suc n) p v s) is
    ∙ (λ i. then_do (members_each (λ v. decoded_or (decoded_deeper n p v) p v) p (e i) i s) as_tuple)

abbrev pub as_struct : List (Value × Value) → Computation Here Value
as_struct ms = give (struct_value (fields_from ms))

pub dict_form : (n : ℕ) (p : Place) (r : ℕ) (s : State Here) → converted way.Encode n p (dict_value r) s ≡ then_do (pairs_within way.Encode n p (pairs_at r s.store) s) as_struct
unfolding converted pair_converted
dict_form zero p r s = refl
dict_form (suc n) p r s =
    let convert : Value → Computation Here Value = λ v. encoded_or (encoded_deeper n p v) p v in
    ap (λ o. then_do o (λ fs. give (struct_value fs))) (fields_each convert p (pairs_at r s.store) s)
    ∙ then_assoc (in_turn (turned convert p) (pairs_at r s.store) s) (λ ms. give (fields_from ms)) (λ fs. give (struct_value fs))

pub struct_form : (n : ℕ) (p : Place) (fs : Fields) (s : State Here) → converted way.Decode n p (struct_value fs) s ≡ then_do (pairs_within way.Decode n p (text_pairs fs) s) new_dict
unfolding converted pair_converted
struct_form zero p fs s = refl
struct_form (suc n) p fs s = ap (λ o. then_do o new_dict) (pairs_each (λ v. decoded_or (decoded_deeper n p v) p v) p fs s)

pub text_form : (w : Way) (n : ℕ) (p : Place) (t : List ℕ) (s : State Here) → converted w n p (text_value t) s ≡ then_do (take_steps (text_cost (length t)) p s) (λ u. give (text_value t))
unfolding converted
text_form way.Encode n p t s = refl
text_form way.Decode n p t s = refl

pub member_form : (w : Way) (n : ℕ) (p : Place) (v : Value) (s : State Here) → member_converted w n p v s ≡ then_do (take_steps 1 p s) (λ u. converted w n p v)
unfolding member_converted
member_form w n p v s = refl

pub pair_form : (w : Way) (n : ℕ) (p : Place) (m : Value × Value) (s : State Here) → pair_converted w n p m s ≡ then_do (paid p (name_of_key p m.0) s) (λ x. converted w n p m.1 >>= λ v. give (text_value x, v))
unfolding pair_converted
pair_form w n p m s = refl

-- ---- what stays

pub dict_stays : (n : ℕ) (p : Place) (r : ℕ) (s : State Here) → converted way.Decode n p (dict_value r) s ≡ done (dict_value r) s
unfolding converted
dict_stays n p r s = refl

pub struct_stays : (n : ℕ) (p : Place) (fs : Fields) (s : State Here) → converted way.Encode n p (struct_value fs) s ≡ done (struct_value fs) s
unfolding converted
struct_stays n p fs s = refl

-- what no way goes through
pub both_stay : (w : Way) (n : ℕ) (p : Place) (v : Value) (s : State Here) → ((m : Computation Here Value) → encoded_or m p v s ≡ done v s) → ((m : Computation Here Value) → decoded_or m p v s ≡ done v s) → converted w n p v s ≡ done v s
unfolding converted
both_stay way.Encode n p v s encode decode = encode (encoded_deeper n p v)
both_stay way.Decode n p v s encode decode = decode (decoded_deeper n p v)
