-- Arguments behind others.
use Rattle.std.proofs.Common.{◌≡◌, ◌++◌, List, [], ◌∷◌, refl, sym, ap, ◌∙◌}
use Rattle.value_spec.specs.Values as plain
use Rattle.value_spec.specs.Values.{Arguments, arguments, Fields, no_fields, a_field, Values, no_values, a_value, values_from}
use Rattle.star_spec.specs.Eval.{and_fields, and_values, with_fields, with_values}
use Rattle.star_values.specs.View.{fields_in, value_in, values_in}
use Rattle.star_values.specs.declared.value.NamedValue.{NamedValue}
use Rattle.star_values.specs.declared.value.Value.{Value}
use Rattle.star_calls.specs.Arguments.{both, fields_behind, none_given, values_behind}

-- ---- values

pub values_joined : (xs ys : List plain.Value) → values_from (xs ++ ys) ≡ values_behind (values_from xs) (values_from ys)
values_joined [] ys = refl
values_joined (x ∷ xs) ys = ap (a_value x) (values_joined xs ys)

pub values_behind_none : (vs : Values) → values_behind vs no_values ≡ vs
values_behind_none no_values = refl
values_behind_none (a_value v vs) = ap (a_value v) (values_behind_none vs)

pub values_in_a_row : (us vs ws : Values) → values_behind (values_behind us vs) ws ≡ values_behind us (values_behind vs ws)
values_in_a_row no_values vs ws = refl
values_in_a_row (a_value u us) vs ws = ap (a_value u) (values_in_a_row us vs ws)

-- the values of places that are joined
pub places_joined : (held : List plain.Value) (vs ws : List Value) → values_from (values_in held (vs ++ ws)) ≡ values_behind (values_from (values_in held vs)) (values_from (values_in held ws))
places_joined held [] ws = refl
places_joined held (v ∷ vs) ws = ap (a_value (value_in held v)) (places_joined held vs ws)

-- ---- fields

pub fields_joined : (held : List plain.Value) (fs gs : List NamedValue) → fields_in held (fs ++ gs) ≡ fields_behind (fields_in held fs) (fields_in held gs)
fields_joined held [] gs = refl
fields_joined held (f ∷ fs) gs = ap (a_field f.name (value_in held f.value)) (fields_joined held fs gs)

pub fields_behind_none : (fs : Fields) → fields_behind fs no_fields ≡ fs
fields_behind_none no_fields = refl
fields_behind_none (a_field x v fs) = ap (a_field x v) (fields_behind_none fs)

pub fields_in_a_row : (es fs gs : Fields) → fields_behind (fields_behind es fs) gs ≡ fields_behind es (fields_behind fs gs)
fields_in_a_row no_fields fs gs = refl
fields_in_a_row (a_field x v es) fs gs = ap (a_field x v) (fields_in_a_row es fs gs)

-- ---- both

pub both_none : (given : Arguments) → both given none_given ≡ given
both_none (arguments vs fs) = λ i. arguments (values_behind_none vs i) (fields_behind_none fs i)

pub none_both : (given : Arguments) → both none_given given ≡ given
none_both (arguments vs fs) = refl

pub both_in_a_row : (a b c : Arguments) → both (both a b) c ≡ both a (both b c)
both_in_a_row (arguments us es) (arguments vs fs) (arguments ws gs) = λ i. arguments (values_in_a_row us vs ws i) (fields_in_a_row es fs gs i)

-- arguments in front of others, as calls have them
values_in_front : (xs : List plain.Value) (ws : Values) → and_values xs ws ≡ values_behind (values_from xs) ws
values_in_front [] ws = refl
values_in_front (x ∷ xs) ws = ap (a_value x) (values_in_front xs ws)

fields_in_front : (fs gs : Fields) → and_fields fs gs ≡ fields_behind fs gs
fields_in_front no_fields gs = refl
fields_in_front (a_field x v fs) gs = ap (a_field x v) (fields_in_front fs gs)

pub with_values_both : (xs : List plain.Value) (given : Arguments) → with_values xs given ≡ both (arguments (values_from xs) no_fields) given
with_values_both xs (arguments ws gs) = ap (λ vs. arguments vs gs) (values_in_front xs ws)

pub with_fields_both : (fs : Fields) (given : Arguments) → with_fields fs given ≡ both (arguments no_values fs) given
with_fields_both fs (arguments ws gs) = ap (arguments ws) (fields_in_front fs gs)

-- ---- arguments of an arena

pub positions_put : (held : List plain.Value) (ps qs all : List Value) (fs : List NamedValue) → all ≡ ps ++ qs → arguments (values_from (values_in held all)) (fields_in held fs) ≡ both (arguments (values_from (values_in held ps)) (fields_in held fs)) (arguments (values_from (values_in held qs)) no_fields)
positions_put held ps qs all fs e = λ i. arguments (by i) (back i) where
  by : values_from (values_in held all) ≡ values_behind (values_from (values_in held ps)) (values_from (values_in held qs))
  by = ap (λ vs. values_from (values_in held vs)) e ∙ places_joined held ps qs

  back : fields_in held fs ≡ fields_behind (fields_in held fs) no_fields
  back = sym (fields_behind_none (fields_in held fs))

pub names_put : (held : List plain.Value) (ps : List Value) (fs gs all : List NamedValue) → all ≡ fs ++ gs → arguments (values_from (values_in held ps)) (fields_in held all) ≡ both (arguments (values_from (values_in held ps)) (fields_in held fs)) (arguments no_values (fields_in held gs))
names_put held ps fs gs all e = λ i. arguments (back i) (by i) where
  by : fields_in held all ≡ fields_behind (fields_in held fs) (fields_in held gs)
  by = ap (fields_in held) e ∙ fields_joined held fs gs

  back : values_from (values_in held ps) ≡ values_behind (values_from (values_in held ps)) no_values
  back = sym (values_behind_none (values_from (values_in held ps)))
