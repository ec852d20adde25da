-- Structs are what the program holds: those of arguments by name and of dicts; and so are the dicts of structs.
use Rattle.std.proofs.Common.{◌≡◌, ℕ, zero, suc, Bool, true, false, not, ◌&&◌, List, [], ◌∷◌, length, IsTrue, IsUtf8, refl, sym, ap, subst, ◌∙◌, bytes_eq}
use Rattle.std.proofs.lemmas.Bool.{and_parts, not-true, or_from, or_parts}
use Rattle.ytt_base.specs.declared.fault.FaultKind.TheVariants as kind
use Rattle.ytt_base.specs.declared.fault.Place.{Place}
use Rattle.ytt_base.specs.Trees.{max_depth}
use Rattle.code_spec.specs.Allowed.{are_distinct, has_name}
use Rattle.code_spec.specs.Code.{Name}
use Rattle.operator_spec.specs.Operators.{tuple_of}
use Rattle.star_spec.proofs.BindingsKeep.{OwnKeeps}
use Rattle.star_spec.proofs.FillingKeeps.{paid_keeps}
use Rattle.star_spec.proofs.Keeping.{Keeps, keeps_fail, keeps_give, keeps_if, keeps_paid, keeps_then, keeps_weaker}
use Rattle.star_spec.proofs.MembersHeld.{from_values, in_values, list_keeps, new_dict_keeps, new_list_keeps, pairs_keep}
use Rattle.star_spec.specs.Held.{HeldArguments, HeldFields, HeldList, HeldPairs, HeldValue, field_names, has_equal_key}
use Rattle.value_spec.specs.Binding.{has_field, has_twice}
use Rattle.value_spec.specs.Keys.{same_key, text_cost}
use Rattle.value_spec.specs.Outcomes.{Computation}
use Rattle.value_spec.specs.Values.{Value, text_value, tuple_value, struct_value, list_value, dict_value, values_in, Fields, no_fields, a_field, fields_in, Arguments, arguments, no_values, a_value}
use Rattle.module_spec.specs.Structs as structs
use Rattle.module_spec.specs.Structs.{decoded_deeper, decoded_inside, decoded_or, encoded_deeper, encoded_inside, encoded_or, field_values, fields_converted, members_converted, name_of_key, pairs_converted, stays}

-- ---- names

both_true : (b c : Bool) → b ≡ false → c ≡ true → (not b && c) ≡ true
both_true true c e f = cc
both_true false c e f = f

no_name : (x : Name) (fs : Fields) → has_field x fs ≡ false → has_name x (field_names fs) ≡ false
no_name x no_fields e = refl
no_name x (a_field y v fs) e = let parts = or_parts (bytes_eq x y) (has_field x fs) e in or_from (bytes_eq x y) (has_name x (field_names fs)) parts.0 (no_name x fs parts.1)

names_once : (fs : Fields) → has_twice fs ≡ false → IsTrue (are_distinct (field_names fs))
names_once no_fields e = refl
names_once (a_field x v fs) e =
    let parts = or_parts (has_field x fs) (has_twice fs) e in both_true (has_name x (field_names fs)) (are_distinct (field_names fs)) (no_name x fs parts.0) (names_once fs parts.1)

-- the keys of pairs are the names of fields
abbrev NamesAre : List (Value × Value) → Fields → Type 0
NamesAre [] no_fields = Unit {0}
NamesAre (m ∷ ms) (a_field x v fs) = (m.0 ≡ text_value x) × NamesAre ms fs
NamesAre _ _ = ⊥

name_apart : (x : Name) (ms : List (Value × Value)) (fs : Fields) → NamesAre ms fs → has_equal_key (text_value x) ms ≡ false → has_name x (field_names fs) ≡ false
name_apart x [] no_fields h e = refl
name_apart x [] (a_field y v fs) h e = absurd h
name_apart x (m ∷ ms) no_fields h e = absurd h
name_apart x (m ∷ ms) (a_field y v fs) h e =
    let parts = or_parts (same_key (text_value x) m.0) (has_equal_key (text_value x) ms) e in
    or_from (bytes_eq x y) (has_name x (field_names fs)) (sym (ap (same_key (text_value x)) h.0) ∙ parts.0) (name_apart x ms fs h.1 parts.1)

key_apart : (x : Name) (ms : List (Value × Value)) (fs : Fields) → NamesAre ms fs → has_name x (field_names fs) ≡ false → has_equal_key (text_value x) ms ≡ false
key_apart x [] no_fields h e = refl
key_apart x [] (a_field y v fs) h e = absurd h
key_apart x (m ∷ ms) no_fields h e = absurd h
key_apart x (m ∷ ms) (a_field y v fs) h e =
    let parts = or_parts (bytes_eq x y) (has_name x (field_names fs)) e in
    or_from (same_key (text_value x) m.0) (has_equal_key (text_value x) ms) (ap (same_key (text_value x)) h.0 ∙ parts.0) (key_apart x ms fs h.1 parts.1)

-- ---- from arguments

made_keeps : {H : Type 0} (p : Place) (args : Arguments) → HeldArguments args → Keeps {H = H} HeldValue (structs.make p args)
made_keeps p (arguments (a_value v vs) fs) h = keeps_fail kind.ArgBind p []
made_keeps p (arguments no_values fs) h =
    keeps_if (has_twice fs) (λ e. keeps_fail kind.ArgBind p []) (λ e. paid_keeps p (field_values fs) 0 0 (keeps_give (struct_value fs) (h.1, names_once fs e)))

pub make_keeps : {H : Type 0} → OwnKeeps {H = H} structs.make
make_keeps = record { by = made_keeps }

-- ---- walks

stays_keeps : {H : Type 0} (p : Place) (v : Value) → HeldValue v → Keeps {H = H} HeldValue (stays p v)
stays_keeps p (text_value t) h = keeps_paid (text_cost (length t)) p (keeps_give (text_value t) h)
stays_keeps p v h = keeps_give v h

-- the key of a pair is this name
abbrev IsNamed : Value → Name → Type 0
IsNamed v x = (v ≡ text_value x) × IsUtf8 x

name_keeps : {H : Type 0} (p : Place) (v : Value) → HeldValue v → Keeps {H = H} (IsNamed v) (name_of_key p v)
name_keeps p (text_value t) h = keeps_paid (text_cost (length t)) p (keeps_give t (refl, h))
name_keeps p _ h = keeps_fail kind.ValueKind p []

-- fields of pairs
abbrev FieldsOf : List (Value × Value) → Fields → Type 0
FieldsOf ms fs = HeldFields fs × IsTrue (are_distinct (field_names fs)) × NamesAre ms fs

module _ {H : Type 0} (convert : Value → Computation H Value) (keeps : (v : Value) → HeldValue v → Keeps HeldValue (convert v)) (p : Place) where
  members_keep : (vs : List Value) → HeldList vs → Keeps HeldList (members_converted convert p vs)
  members_keep [] h = keeps_give [] tt
  members_keep (v ∷ vs) h = keeps_then (keeps_paid 1 p (keeps v h.0)) (λ w g. keeps_then (members_keep vs h.1) (λ ws i. keeps_give (w ∷ ws) (g, i)))

  fields_keep : (ms : List (Value × Value)) → HeldPairs ms → Keeps (FieldsOf ms) (fields_converted convert p ms)
  fields_keep [] h = keeps_give no_fields (tt, refl, tt)
  fields_keep (m ∷ ms) h =
      keeps_then (keeps_paid 1 p (name_keeps p m.0 h.0)) (λ x a. keeps_then (keeps m.1 h.1) (λ v b. keeps_then (fields_keep ms h.3) (λ fs c.
      let apart = name_apart x ms fs c.2 (subst (λ w. has_equal_key w ms ≡ false) a.0 h.2) in
      keeps_give (a_field x v fs) ((a.1, b, c.0), both_true (has_name x (field_names fs)) (are_distinct (field_names fs)) apart c.1, (a.0, c.2)))))

  entries_keep : (fs : Fields) → HeldFields fs → IsTrue (are_distinct (field_names fs)) → Keeps (λ ms. HeldPairs ms × NamesAre ms fs) (pairs_converted convert p (fields_in fs))
  entries_keep no_fields h e = keeps_give [] (tt, tt)
  entries_keep (a_field x v fs) h e =
      let parts = and_parts (not (has_name x (field_names fs))) (are_distinct (field_names fs)) e in
      keeps_then {P = λ w. w ≡ text_value x} (keeps_paid 1 p (keeps_paid (text_cost (length x)) p (keeps_give (text_value x) refl)))
      (λ w a. keeps_then (keeps v h.1) (λ u b. keeps_then (entries_keep fs h.2 parts.1) (λ ms c.
      let apart = key_apart x ms fs c.1 (not-true (has_name x (field_names fs)) parts.0) in
      keeps_give ((w, u) ∷ ms) ((subst HeldValue (sym a) h.0, b, subst (λ z. has_equal_key z ms ≡ false) (sym a) apart, c.0), (a, c.1)))))

  encoded_keeps : (v : Value) → HeldValue v → Keeps HeldValue (encoded_inside convert p v)
  encoded_keeps (list_value r) h = keeps_then (keeps_then (list_keeps r) (λ vs g. members_keep vs g)) new_list_keeps
  encoded_keeps (tuple_value vs) h = keeps_then (members_keep (values_in vs) (in_values vs h)) (λ ws g. keeps_give (tuple_of ws) (from_values ws g))
  encoded_keeps (dict_value r) h =
      keeps_then {P = λ fs. HeldValue (struct_value fs)} (keeps_then (pairs_keep r) (λ ms g. keeps_weaker (λ fs c. (c.0, c.1)) (fields_keep ms g))) (λ fs g. keeps_give (struct_value fs) g)
  encoded_keeps v h = keeps_give v h

  decoded_keeps : (v : Value) → HeldValue v → Keeps HeldValue (decoded_inside convert p v)
  decoded_keeps (list_value r) h = keeps_then (keeps_then (list_keeps r) (λ vs g. members_keep vs g)) new_list_keeps
  decoded_keeps (tuple_value vs) h = keeps_then (members_keep (values_in vs) (in_values vs h)) (λ ws g. keeps_give (tuple_of ws) (from_values ws g))
  decoded_keeps (struct_value fs) h = keeps_then {P = HeldPairs} (keeps_weaker (λ ms c. c.0) (entries_keep fs h.0 h.1)) new_dict_keeps
  decoded_keeps v h = keeps_give v h

-- ---- dicts to structs

encoded_or_keeps : {H : Type 0} (collection : Computation H Value) (p : Place) (v : Value) → Keeps HeldValue collection → HeldValue v → Keeps HeldValue (encoded_or collection p v)
encoded_or_keeps collection p (list_value r) k h = k
encoded_or_keeps collection p (tuple_value vs) k h = k
encoded_or_keeps collection p (dict_value r) k h = k
encoded_or_keeps collection p v k h = stays_keeps p v h

encoded_deeper_keeps : {H : Type 0} (n : ℕ) (p : Place) (v : Value) → HeldValue v → Keeps {H = H} HeldValue (encoded_deeper n p v)
encoded_deeper_keeps zero p v h = keeps_fail kind.TooDeep p []
encoded_deeper_keeps (suc n) p v h =
    encoded_keeps (λ w. encoded_or (encoded_deeper n p w) p w) (λ w k. encoded_or_keeps (encoded_deeper n p w) p w (encoded_deeper_keeps n p w k) k) p v h

pub encode_keeps : {H : Type 0} (p : Place) (v : Value) → HeldValue v → Keeps {H = H} HeldValue (structs.encode p v)
encode_keeps p v h = encoded_or_keeps (encoded_deeper max_depth p v) p v (encoded_deeper_keeps max_depth p v h) h

-- ---- structs to dicts

decoded_or_keeps : {H : Type 0} (collection : Computation H Value) (p : Place) (v : Value) → Keeps HeldValue collection → HeldValue v → Keeps HeldValue (decoded_or collection p v)
decoded_or_keeps collection p (list_value r) k h = k
decoded_or_keeps collection p (tuple_value vs) k h = k
decoded_or_keeps collection p (struct_value fs) k h = k
decoded_or_keeps collection p v k h = stays_keeps p v h

decoded_deeper_keeps : {H : Type 0} (n : ℕ) (p : Place) (v : Value) → HeldValue v → Keeps {H = H} HeldValue (decoded_deeper n p v)
decoded_deeper_keeps zero p v h = keeps_fail kind.TooDeep p []
decoded_deeper_keeps (suc n) p v h =
    decoded_keeps (λ w. decoded_or (decoded_deeper n p w) p w) (λ w k. decoded_or_keeps (decoded_deeper n p w) p w (decoded_deeper_keeps n p w k) k) p v h

pub decode_keeps : {H : Type 0} (p : Place) (v : Value) → HeldValue v → Keeps {H = H} HeldValue (structs.decode p v)
decode_keeps p v h = decoded_or_keeps (decoded_deeper max_depth p v) p v (decoded_deeper_keeps max_depth p v h) h
