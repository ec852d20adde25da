-- What one more argument gives, by its form.
use Rattle.std.proofs.Common.{◌≡◌, ◌++◌, ◌<◌, length, arith, List, [], ◌∷◌, Option, Some, None, refl, sym, ap, ◌∙◌}
use Rattle.ytt_base.specs.Outcomes.{fault_at}
use Rattle.ytt_base.specs.declared.fault.FaultKind.TheVariants as kind
use Rattle.ytt_base.specs.declared.fault.Place.{Place}
use Rattle.code_spec.specs.Code.{Name}
use Rattle.value_spec.specs.Members.{as_text}
use Rattle.value_spec.specs.Outcomes.{State, bad, done, give, or_fail, then_do}
use Rattle.value_spec.specs.Values as plain
use Rattle.value_spec.specs.Values.{Arguments, arguments, Fields, no_fields, a_field, no_values, none_value, bool_value, int_value, text_value, tuple_value, range_value, struct_value, fragment_value, list_value, dict_value, function_value, module_value, native_value}
use Rattle.star_spec.specs.Eval.{as_fields, field_in_front, spread_fields}
use Rattle.star_values.specs.Objects.{pairs_in}
use Rattle.star_values.specs.View.{fields_in, value_in}
use Rattle.star_values.specs.declared.value.NamedValue.{NamedValue}
use Rattle.star_values.specs.declared.value.Value.{Value}
use Rattle.star_calls.specs.Arguments.{and_argument, both, fields_behind, two_stars}
use Rattle.star_calls.specs.View.{fields_of_dict}
use Rattle.star_calls.proofs.Behind.{fields_behind_none, fields_in_a_row, fields_joined}

abbrev Here : Type 0
Here = State (Unit {0})

-- ---- stars

spread : (p : Place) (v : plain.Value) (s : Here) → spread_fields p v s ≡ or_fail kind.ValueKind p (fields_of_dict s.store v) s
spread p none_value s = refl
spread p (bool_value b) s = refl
spread p (int_value z) s = refl
spread p (text_value t) s = refl
spread p (tuple_value vs) s = refl
spread p (range_value a b c) s = refl
spread p (struct_value fs) s = refl
spread p (fragment_value k cs) s = refl
spread p (list_value r) s = refl
spread p (dict_value r) s = refl
spread p (function_value r) s = refl
spread p (module_value x fs) s = refl
spread p (native_value n) s = refl

pub stars_give : (p : Place) (v : plain.Value) (given : Arguments) (fs : Fields) (s : Here) → fields_of_dict s.store v ≡ Some fs → and_argument (two_stars p) v given s ≡ done (both given (arguments no_values fs)) s
stars_give p v given fs s e = ap (λ r. then_do (then_do r (λ fs. give (arguments no_values fs))) (λ mine. give (both given mine))) (spread p v s ∙ ap (λ o. or_fail kind.ValueKind p o s) e)

pub stars_refused : (p : Place) (v : plain.Value) (given : Arguments) (s : Here) → fields_of_dict s.store v ≡ None → and_argument (two_stars p) v given s ≡ bad (fault_at kind.ValueKind p) s
stars_refused p v given s e = ap (λ r. then_do (then_do r (λ fs. give (arguments no_values fs))) (λ mine. give (both given mine))) (spread p v s ∙ ap (λ o. or_fail kind.ValueKind p o s) e)

-- ---- pairs as fields

no_text : (k v : plain.Value) (o : Option Fields) → as_text k ≡ None → field_in_front k v o ≡ None
no_text none_value v o e = refl
no_text (bool_value b) v o e = refl
no_text (int_value z) v o e = refl
no_text (text_value t) v o e = cc
no_text (tuple_value vs) v o e = refl
no_text (range_value a b c) v o e = refl
no_text (struct_value fs) v o e = refl
no_text (fragment_value k cs) v o e = refl
no_text (list_value r) v o e = refl
no_text (dict_value r) v o e = refl
no_text (function_value r) v o e = refl
no_text (module_value x fs) v o e = refl
no_text (native_value n) v o e = refl

a_text : (k : plain.Value) (t : Name) → as_text k ≡ Some t → k ≡ text_value t
a_text none_value t e = cc
a_text (bool_value b) t e = cc
a_text (int_value z) t e = cc
a_text (text_value u) t e = cc
a_text (tuple_value vs) t e = cc
a_text (range_value a b c) t e = cc
a_text (struct_value fs) t e = cc
a_text (fragment_value k cs) t e = cc
a_text (list_value r) t e = cc
a_text (dict_value r) t e = cc
a_text (function_value r) t e = cc
a_text (module_value x fs) t e = cc
a_text (native_value n) t e = cc

-- fields behind others, if there are some
abbrev pub behind_all : Fields → Option Fields → Option Fields
behind_all fs None = None
behind_all fs (Some gs) = Some (fields_behind fs gs)

pub none_in_front : (o : Option Fields) → o ≡ behind_all no_fields o
none_in_front None = refl
none_in_front (Some gs) = refl

one_in_front : (fs : Fields) (x : Name) (v : plain.Value) (o : Option Fields) → behind_all fs (field_in_front (text_value x) v o) ≡ behind_all (fields_behind fs (a_field x v no_fields)) o
one_in_front fs x v None = refl
one_in_front fs x v (Some gs) = ap Some (sym (fields_in_a_row fs (a_field x v no_fields) gs))

pub fields_next : (held : List plain.Value) (fs new : List NamedValue) (x : Name) (key value : Value) (more : List (Value × Value)) → as_text (value_in held key) ≡ Some x → new ≡ fs ++ record { name = x; value = value } ∷ [] →
    behind_all (fields_in held fs) (as_fields (pairs_in held ((key, value) ∷ more))) ≡ behind_all (fields_in held new) (as_fields (pairs_in held more))
fields_next held fs new x key value more e n =
    let o = as_fields (pairs_in held more) in
    let v = value_in held value in
    ap (λ k. behind_all (fields_in held fs) (field_in_front k v o)) (a_text (value_in held key) x e)
    ∙ one_in_front (fields_in held fs) x v o
    ∙ ap (λ gs. behind_all gs o) (sym (ap (fields_in held) n ∙ fields_joined held fs (record { name = x; value = value } ∷ [])))

pub fields_none : (held : List plain.Value) (fs : Fields) (key value : Value) (more : List (Value × Value)) → as_text (value_in held key) ≡ None → behind_all fs (as_fields (pairs_in held ((key, value) ∷ more))) ≡ None
fields_none held fs key value more e = ap (behind_all fs) (no_text (value_in held key) (value_in held value) (as_fields (pairs_in held more)) e)

pub fields_done : (held : List plain.Value) (fs : List NamedValue) (rest : List (Value × Value)) → rest ≡ [] → behind_all (fields_in held fs) (as_fields (pairs_in held rest)) ≡ Some (fields_in held fs)
fields_done held fs rest e = ap (λ ps. behind_all (fields_in held fs) (as_fields (pairs_in held ps))) e ∙ ap Some (fields_behind_none (fields_in held fs))

pub none_more : {A : Type 0} (xs : List A) → (0 < length xs → ⊥) → xs ≡ []
none_more [] h = refl
none_more (x ∷ xs) h = absurd (h (omega arith))
