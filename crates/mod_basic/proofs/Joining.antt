-- Fields behind others, and pairs that are put one after another.
use Rattle.std.proofs.Common.{◌≡◌, List, [], ◌∷◌, ◌++◌, Option, Some, None, is_some, false, rules, refl, ap}
use Rattle.star_values.specs.View.{fields_in, value_in}
use Rattle.star_values.specs.declared.value.NamedValue.{NamedValue}
use Rattle.value_spec.specs.Keys.{place_of_key}
use Rattle.value_spec.specs.Store.{put_pair, with_pair}
use Rattle.value_spec.specs.Values.{Fields, Value, a_field, no_fields}

-- fields, and then others
abbrev pub followed : Fields → Fields → Fields
followed no_fields fs = fs
followed (a_field x v more) fs = a_field x v (followed more fs)

pub followed_by : (held : List Value) (fs gs : List NamedValue) (more : Fields) → followed (fields_in held (fs ++ gs)) more ≡ followed (fields_in held fs) (followed (fields_in held gs) more)
followed_by held [] gs more = refl
followed_by held (f ∷ fs) gs more = ap (a_field f.name (value_in held f.value)) (followed_by held fs gs more)

pub followed_none : (fs : Fields) → followed fs no_fields ≡ fs
followed_none no_fields = refl
followed_none (a_field x v fs) = ap (a_field x v) (followed_none fs)

absent : {A : Type 0} (o : Option A) → false ≡ is_some o → o ≡ None
absent None e = refl
absent (Some x) e = absurd (search (rules, e))

-- a key that doesn't stand there comes behind the others
pub put_behind : (k v : Value) (ps : List (Value × Value)) → false ≡ is_some (place_of_key k ps) → put_pair k v ps ≡ ps ++ (k, v) ∷ []
put_behind k v ps e = ap (with_pair k v ps) (absent (place_of_key k ps) e)
