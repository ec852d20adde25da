-- The calls of a module, one behind another.
use Rattle.std.proofs.Common.{◌≡◌, ◌++◌, ◌+◌, ◌<◌, ℕ, Bor, List, [], ◌∷◌, Ok, drop, get_or, length, map as each, refl, sym, ap, subst, ◌∙◌}
use Rattle.std.proofs.lemmas.List.{drop_more}
use Rattle.code_spec.specs.Code.{Name}
use Rattle.module_spec.specs.Modules.{calls_of}
use Rattle.star_values.proofs.Growing.{each_joined, grows_same, grows_then, owns_kept, value_kept}
use Rattle.star_values.specs.Owns.{Grows, OwnsField, OwnsFields}
use Rattle.star_values.specs.View.{View, fields_in, value_in}
use Rattle.star_values.specs.declared.value.NamedValue.{NamedValue}
use Rattle.value_spec.specs.Values as plain
use Rattle.value_spec.specs.Values.{Fields, no_fields, a_field}
use Rattle.load_names.specs.Made.{MakesCall, fields_behind}

pub fields_kept : (a b : View) (fs : List NamedValue) → Grows a b → OwnsFields a fs → OwnsFields b fs × (fields_in b.held fs ≡ fields_in a.held fs)
fields_kept a b [] g o = (tt, refl)
fields_kept a b (f ∷ fs) g o =
    let more = fields_kept a b fs g o.1 in
    ((owns_kept a b f.value g o.0, more.0), λ i. a_field f.name (value_kept a b f.value g o.0 i) (more.1 i))

behind_nothing : (fs : Fields) → fields_behind fs no_fields ≡ fs
behind_nothing no_fields = refl
behind_nothing (a_field x v fs) = ap (a_field x v) (behind_nothing fs)

fields_joined : (held : List plain.Value) (fs : List NamedValue) (g : NamedValue) (more : Fields) → fields_behind (fields_in held (fs ++ g ∷ [])) more ≡ fields_behind (fields_in held fs) (fields_behind (fields_in held (g ∷ [])) more)
fields_joined held [] g more = refl
fields_joined held (f ∷ fs) g more = ap (a_field f.name (value_in held f.value)) (fields_joined held fs g more)

-- the calls that are left begin with the one at the index
pub calls_next : (calls : List (Bor (List ℕ))) (i : ℕ) (d : Bor (List ℕ)) → i < length calls → each (λ c. c.now) (drop i calls) ≡ (get_or calls i d).now ∷ each (λ c. c.now) (drop (i + 1) calls)
calls_next calls i d lt = ap (λ l. each (λ (c : Bor (List ℕ)). c.now) l) (drop_more calls i d lt)

-- the calls that were made, and those that are to come, are all
pub record Made (of : Name) (calls left : List Name) (made : List NamedValue) (a b : View) : Type 0 where
  pub fields : fields_behind (fields_in b.held made) (calls_of of left) ≡ calls_of of calls
  pub owns : OwnsFields b made
  pub store : b.store ≡ a.store
  pub grows : Grows a b

pub none_made : (of : Name) (calls : List Name) (a : View) → Made of calls calls [] a a
none_made of calls a = record { fields = refl; owns = tt; store = refl; grows = grows_same a }

pub one_made : (of : Name) (calls left : List Name) (call : Name) (made new : List NamedValue) (f : NamedValue) (a b c : View) → Made of calls (call ∷ left) made a b → MakesCall of call (Ok f) b c → new ≡ made ++ f ∷ [] → Made of calls left new a c
one_made of calls left call made new f a b c m one e =
    let kept = fields_kept b c made one.grows m.owns in
    record {
      fields = (λ i. fields_behind (fields_in c.held (e i)) (calls_of of left))
          ∙ fields_joined c.held made f (calls_of of left)
          ∙ (λ i. fields_behind (kept.1 i) (a_field (one.name i) (one.value i) (calls_of of left)))
          ∙ m.fields;
      owns = subst (OwnsFields c) (sym e) (each_joined (OwnsField c) made (f ∷ []) kept.0 (one.owns, tt));
      store = one.store ∙ m.store;
      grows = grows_then a b c m.grows one.grows;
    }

pub all_made : (of : Name) (calls left : List Name) (made : List NamedValue) (a b : View) → left ≡ [] → Made of calls left made a b → fields_in b.held made ≡ calls_of of calls
all_made of calls left made a b e m = sym (behind_nothing (fields_in b.held made)) ∙ ap (λ l. fields_behind (fields_in b.held made) (calls_of of l)) (sym e) ∙ m.fields
