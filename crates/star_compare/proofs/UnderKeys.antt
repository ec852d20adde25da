-- What stands under a key, among pairs.
use Rattle.star_steps.proofs.Names.{◌≡◌, ℕ, Bool, true, false, if◌then◌else◌, List, ◌∷◌, Option, Some, None, refl, sym, ap, ◌∙◌, bytes_eq, further, place_of_key, value_at_place, value_of_key, text_value, named_values, fields_in, value_in, NamedValue}
use Rattle.value_spec.specs.Values as plain
use Rattle.value_spec.specs.Keys.{same_key}

-- under the first key, or behind it
key_first : (k : plain.Value) (m : plain.Value × plain.Value) (ps : List (plain.Value × plain.Value)) → value_of_key k (m ∷ ps) ≡ (if same_key m.0 k then Some m.1 else value_of_key k ps)
key_first k m ps = by (same_key m.0 k) (place_of_key k ps) where
  by : (b : Bool) (o : Option ℕ) → value_at_place (m ∷ ps) (if b then Some 0 else further o) ≡ (if b then Some m.1 else value_at_place ps o)
  by true o = refl
  by false None = refl
  by false (Some i) = refl

-- the first field has the name, or the name is looked for behind it
pub field_first : (held : List plain.Value) (name x : List ℕ) (f : NamedValue) (fs rest : List NamedValue) (b : Bool) → rest ≡ f ∷ fs → x ≡ f.name → b ≡ bytes_eq x name →
    value_of_key (text_value name) (named_values (fields_in held rest)) ≡ (if b then Some (value_in held f.value) else value_of_key (text_value name) (named_values (fields_in held fs)))
field_first held name x f fs rest b e named told =
    let under = λ (fs : List NamedValue). value_of_key (text_value name) (named_values (fields_in held fs)) in
    ap under e ∙ key_first (text_value name) (text_value f.name, value_in held f.value) (named_values (fields_in held fs))
    ∙ ap (λ b. if b then Some (value_in held f.value) else under fs) (ap (λ x. bytes_eq x name) (sym named) ∙ sym told)
