-- Rows of the definitions, by what stands in their parts.
use Rattle.star_steps.proofs.Names.{◌≡◌, ℕ, suc, ◌+◌, add-one, ℤ, List, length, Option, Some, None, refl, sym, ap, ◌∙◌, Place, State, Computation, done, fail, give, new_list, or_fail, reads, take_steps, then_do, ◌>>=◌, as_int, as_text, list_at, pairs_at, value_of_key, Fields, dict_value, int_value, range_value, text_value, tuple_value, list_value, values_from, then_assoc, named_values, if_one, key_sized, by_place, character_at, cut_text, field_of, found_value, index_row, member_at, number_at, key_offence, max_depth, place_among, value_under, bytes_cut, cut_row, give_tuple, members_slice, places_of, View, value_of, Ref, Value as Held, tuple_members}
use Rattle.ytt_base.specs.declared.fault.FaultKind.TheVariants as kind
use Rattle.value_spec.specs.Values.{Value}
use Rattle.index_spec.specs.Index.{absent_field}
use Rattle.index_spec.specs.Slices.{Cut}
use Rattle.star_values.specs.declared.value.Value.TheVariants as value
use Rattle.star_index.specs.Cuts.{bytes_paid, character, members_paid}

abbrev S : Type 0
S = State (Unit {0})

-- ---- slices

abbrev pub as_text_value : List ℕ → Computation (Unit {0}) Value
as_text_value t = give (text_value t)

members_then : (p : Place) (vs : List Value) (c : Cut) (make : List Value → Computation (Unit {0}) Value) (s : S) → members_slice p vs (places_of (length vs) c) make s ≡ then_do (members_paid p vs c s) make
members_then p vs c make s = sym (then_assoc (take_steps _ p s) _ make)

pub tuple_cut : (p : Place) (v : Value) (vs : List Value) (c : Cut) (s : S) → v ≡ tuple_value (values_from vs) → cut_row p v c s ≡ then_do (members_paid p vs c s) give_tuple
tuple_cut p v vs c s e = ap (λ v. cut_row p v c s) e ∙ ap (λ vs. members_slice p vs (places_of (length vs) c) give_tuple s) (tuple_members (values_from vs) vs refl) ∙ members_then p vs c give_tuple s

pub list_cut : (p : Place) (r : ℕ) (vs : List Value) (c : Cut) (s : S) → list_at r s.store ≡ vs → cut_row p (list_value r) c s ≡ then_do (members_paid p vs c s) new_list
list_cut p r vs c s e = ap (λ vs. members_slice p vs (places_of (length vs) c) new_list s) e ∙ members_then p vs c new_list s

pub text_cut : (p : Place) (v : Value) (t : List ℕ) (c : Cut) (s : S) → v ≡ text_value t → cut_row p v c s ≡ then_do (bytes_paid p t c s) as_text_value
text_cut p v t c s e = ap (λ v. cut_row p v c s) e ∙ sym (then_assoc (take_steps _ p s) (λ u. bytes_cut p t (places_of (length t) c)) as_text_value)

-- ---- indexes

chosen : (i : Option ℤ) (f g : ℤ → Computation (Unit {0}) Value) (m : Computation (Unit {0}) Value) (s : S) → ((z : ℤ) → f z s ≡ g z s) → if_one i f m s ≡ if_one i g m s
chosen None f g m s h = refl
chosen (Some z) f g m s h = h z

pub tuple_row : (p : Place) (v : Value) (vs : List Value) (i : Value) (s : S) → v ≡ tuple_value (values_from vs) → index_row p v i s ≡ by_place p (member_at p vs) i s
tuple_row p v vs i s e = ap (λ v. index_row p v i s) e ∙ ap (λ vs. by_place p (member_at p vs) i s) (tuple_members (values_from vs) vs refl)

pub list_row : (p : Place) (r : ℕ) (vs : List Value) (i : Value) (s : S) → list_at r s.store ≡ vs → index_row p (list_value r) i s ≡ by_place p (member_at p vs) i s
list_row p r vs i s e = chosen (as_int i) _ _ _ s (λ z. ap (λ vs. member_at p vs z s) e)

character_then : (p : Place) (t : List ℕ) (i : Option ℤ) (s : S) → if_one i (character_at p t) (fail kind.ValueKind p) s
    ≡ then_do (if_one i (λ z. or_fail kind.IndexRange p (place_among (length t) z) >>= λ i. cut_text p t i (suc i)) (fail kind.ValueKind p) s) as_text_value
character_then p t None s = refl
character_then p t (Some z) s = sym (then_assoc (or_fail kind.IndexRange p (place_among (length t) z) s) _ as_text_value)

pub text_row : (p : Place) (v : Value) (t : List ℕ) (i : Value) (s : S) → v ≡ text_value t → index_row p v i s ≡ then_do (character p t i s) as_text_value
text_row p v t i s e = ap (λ v. index_row p v i s) e ∙ character_then p t (as_int i) s

pub range_row : (p : Place) (v : Value) (start stop step : ℤ) (i : Value) (s : S) → v ≡ range_value start stop step → index_row p v i s ≡ by_place p (number_at p start stop step) i s
range_row p v start stop step i s e = ap (λ v. index_row p v i s) e

pub character_found : (p : Place) (t : List ℕ) (z : ℤ) (i : ℕ) (s : S) → place_among (length t) z ≡ Some i → character p t (int_value z) s ≡ cut_text p t i (i + 1) s
character_found p t z i s e = ap (λ o. then_do (or_fail kind.IndexRange p o s) (λ i. cut_text p t i (suc i))) e ∙ ap (λ j. cut_text p t i j s) (sym (add-one i))

-- ---- keys

pub field_row : (p : Place) (fs : Fields) (v : Value) (t : List ℕ) (r : Option Value) (s : S) → v ≡ text_value t → value_of_key (text_value t) (named_values fs) ≡ r → field_of p fs v s ≡ found_value p v r s
field_row p fs v t r s e h = ap (λ v. field_of p fs v s) e ∙ ap (λ r. found_value p (text_value t) r s) h ∙ ap (λ v. found_value p v r s) (sym e)

no_text : (a : View) (v : Held) → ((r : Ref) → v ≡ value.Text r → ⊥) → as_text (value_of a v) ≡ None
no_text a (value.Text r) h = absurd (h r refl)
no_text a _ h = refl

pub other_field : (p : Place) (fs : Fields) (a : View) (v : Held) (s : S) → ((r : Ref) → v ≡ value.Text r → ⊥) → field_of p fs (value_of a v) s ≡ absent_field p (value_of a v) (key_offence max_depth (value_of a v)) s
other_field p fs a v s h = ap (λ o. if_one o (λ x. value_under p (value_of a v) (named_values fs)) (absent_field p (value_of a v) (key_offence max_depth (value_of a v))) s) (no_text a v h)

pub key_row : (p : Place) (r : ℕ) (k : Value) (found : Option Value) (s t : S) → key_sized p k s ≡ done tt t → found ≡ value_of_key k (pairs_at r t.store) → index_row p (dict_value r) k s ≡ found_value p k found t
key_row p r k found s t e h = ap (λ o. then_do o (λ u. reads (pairs_at r) >>= value_under p k)) e ∙ ap (λ o. found_value p k o t) (sym h)
