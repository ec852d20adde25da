-- What is left stays what it is where the arena grows.
use Rattle.std.proofs.Common.{◌≡◌, List, [], ◌∷◌, reverse, refl, sym, ap, subst, ◌∙◌}
use Rattle.std.proofs.lemmas.List.{reverse-append}
use Rattle.value_spec.specs.Values as plain
use Rattle.value_spec.specs.Keys.{IsKey}
use Rattle.value_spec.specs.Binding.{has_twice}
use Rattle.star_values.specs.Objects.{env_in, pairs_in}
use Rattle.star_values.specs.Owns.{Each, Grows, OwnsEnv, OwnsFields, OwnsPair}
use Rattle.star_values.specs.View.{View, fields_in}
use Rattle.star_values.specs.declared.object.NamedBox.{NamedBox}
use Rattle.star_values.specs.declared.value.NamedValue.{NamedValue}
use Rattle.star_values.specs.declared.value.Value.{Value}
use Rattle.star_values.proofs.Growing.{each_joined, owns_all_kept, owns_kept, value_kept, values_kept, variable_kept}
use Rattle.star_calls.specs.Left.{OwnsRest, rest_of}
use Rattle.star_calls.specs.declared.left.Left.{Left}

pub fields_kept : (a b : View) (fs : List NamedValue) → Grows a b → OwnsFields a fs → OwnsFields b fs × (fields_in b.held fs ≡ fields_in a.held fs)
fields_kept a b [] g o = (tt, refl)
fields_kept a b (f ∷ fs) g o =
    let more = fields_kept a b fs g o.1 in
    ((owns_kept a b f.value g o.0, more.0), λ i. plain.a_field f.name (value_kept a b f.value g o.0 i) (more.1 i))

pub pairs_kept : (a b : View) (ps : List (Value × Value)) → Grows a b → Each (OwnsPair a) ps → Each (OwnsPair b) ps × (pairs_in b.held ps ≡ pairs_in a.held ps)
pairs_kept a b [] g w = (tt, refl)
pairs_kept a b (p ∷ ps) g w =
    let key = value_kept a b p.0 g w.0.0 in
    let value = value_kept a b p.1 g w.0.1 in
    let more = pairs_kept a b ps g w.1 in
    (((owns_kept a b p.0 g w.0.0, owns_kept a b p.1 g w.0.1, subst IsKey (sym key) w.0.2), more.0), λ i. (key i, value i) ∷ more.1 i)

pub rest_kept : (a b : View) (l : Left) → Grows a b → OwnsRest a l → rest_of b l ≡ rest_of a l
rest_kept a b l g o =
    let ps = values_kept a b l.positions.now g o.positions in
    let ds = values_kept a b l.defaults.now g o.defaults in
    let fs = (fields_kept a b l.named g o.named).1 in
    let got = values_kept a b l.got g o.got in
    λ i. record { positions = ps i; defaults = ds i; named = fs i; got = got i }

pub owns_rest_kept : (a b : View) (l : Left) → Grows a b → OwnsRest a l → OwnsRest b l
owns_rest_kept a b l g o =
    let fs = fields_kept a b l.named g o.named in
    record {
      positions = owns_all_kept a b l.positions.now g o.positions;
      defaults = owns_all_kept a b l.defaults.now g o.defaults;
      named = fs.0;
      got = owns_all_kept a b l.got g o.got;
      once = ap has_twice fs.1 ∙ o.once;
    }

-- ---- scopes

pub env_kept : (a b : View) (bs : List NamedBox) → Grows a b → OwnsEnv a bs → OwnsEnv b bs × (env_in b.held bs ≡ env_in a.held bs)
env_kept a b [] g w = (tt, refl)
env_kept a b (x ∷ bs) g w =
    let k = variable_kept a b x g w.0 in
    let more = env_kept a b bs g w.1 in
    ((k.0, more.0), λ i. k.1 i ∷ more.1 i)

pub reversed_each : {A : Type 0} (P : A → Type 0) (xs : List A) → Each P xs → Each P (reverse xs)
reversed_each P [] w = tt
reversed_each P (x ∷ xs) w = subst (Each P) (sym (reverse-append (x ∷ []) xs)) (each_joined P (reverse xs) (x ∷ []) (reversed_each P xs w.1) (w.0, tt))
