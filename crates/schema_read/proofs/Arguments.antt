-- Arguments of notes, as they are held.
use Rattle.std.proofs.Common.{◌≡◌, ◌≤◌, ◌↔◌, Bool, true, false, ◌&&◌, List, [], ◌∷◌, length, Option, None, IsTrue, refl, sym, arith, if◌then◌else◌}
use Rattle.value_spec.specs.Values as plain
use Rattle.value_spec.specs.Values.{arguments, values_from}
use Rattle.star_values.specs.View.{fields_in, values_in}
use Rattle.star_values.specs.declared.value.NamedValue.{NamedValue}
use Rattle.star_values.specs.declared.value.Value.{Value}
use Rattle.schema_spec.specs.Arguments.{are_none, are_unnamed, only_argument}
use Rattle.schema_spec.specs.Reading.{says_any}

is-false : (b : Bool) → (IsTrue b → ⊥) → false ≡ b
is-false true h = absurd (h refl)
is-false false h = refl

module _ (held : List plain.Value) where
  pub are_none-is : (vs : List Value) (b : Bool) → (IsTrue b ↔ (vs ≡ [])) → are_none (values_from (values_in held vs)) ≡ b
  are_none-is [] b h = sym (h.1 refl)
  are_none-is (v ∷ vs) b h = is-false b (λ t. let e = h.0 t in cc)

  pub are_unnamed-is : (fs : List NamedValue) (b : Bool) → (IsTrue b ↔ (fs ≡ [])) → are_unnamed (fields_in held fs) ≡ b
  are_unnamed-is [] b h = sym (h.1 refl)
  are_unnamed-is (f ∷ fs) b h = is-false b (λ t. let e = h.0 t in cc)

  neither : {A : Type 0} (b : Bool) (o : Option A) → None ≡ (if b && false then o else None)
  neither true o = refl
  neither false o = refl

  -- another argument has a name
  pub only-unnamed : (vs : List Value) (fs : List NamedValue) → are_unnamed (fields_in held fs) ≡ false → None ≡ only_argument (arguments (values_from (values_in held vs)) (fields_in held fs))
  only-unnamed [] fs e = refl
  only-unnamed (v ∷ vs) [] e = cc
  only-unnamed (v ∷ vs) (f ∷ fs) e = neither (are_none (values_from (values_in held vs))) _

  -- there are two by position
  pub only-two : (vs : List Value) (fs : List NamedValue) → 2 ≤ length vs → None ≡ only_argument (arguments (values_from (values_in held vs)) (fields_in held fs))
  only-two [] fs h = absurd (omega arith)
  only-two (v ∷ []) fs h = absurd (omega arith)
  only-two (v ∷ w ∷ vs) fs h = refl

  pub any-positional : (vs : List Value) (fs : List NamedValue) → are_none (values_from (values_in held vs)) ≡ false → false ≡ says_any (arguments (values_from (values_in held vs)) (fields_in held fs))
  any-positional [] fs e = cc
  any-positional (v ∷ vs) [] e = refl
  any-positional (v ∷ vs) (f ∷ fs) e = refl

  not-both : (b : Bool) → false ≡ (b && false)
  not-both true = refl
  not-both false = refl

  pub any-two : (vs : List Value) (fs : List NamedValue) → 2 ≤ length fs → false ≡ says_any (arguments (values_from (values_in held vs)) (fields_in held fs))
  any-two vs [] h = absurd (omega arith)
  any-two vs (f ∷ []) h = absurd (omega arith)
  any-two vs (f ∷ g ∷ fs) h = not-both (are_none (values_from (values_in held vs)))
