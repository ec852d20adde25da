-- Arguments by name: which there are, and what is left without one.
use Rattle.std.proofs.Common.{◌≡◌, ℕ, suc, zero, Bool, true, false, ◌||◌, if◌then◌else◌, List, [], ◌∷◌, Some, None, bytes_eq, length, slice_get, arith, rules, refl, sym, ap, ◌∙◌}
use Rattle.std.proofs.lemmas.Bool.{or_parts}
use Rattle.std.specs.List.{remove}
use Rattle.code_spec.specs.Code.{Name}
use Rattle.value_spec.specs.Values as plain
use Rattle.value_spec.specs.Values.{Fields, no_fields, a_field}
use Rattle.value_spec.specs.Binding.{field_of, has_field, has_twice, without_field}
use Rattle.star_values.specs.Owns.{Each}
use Rattle.star_values.specs.View.{fields_in, value_in}
use Rattle.star_values.specs.declared.value.NamedValue.{NamedValue}
use Rattle.star_calls.specs.Named.{OtherNames}

-- ---- the first

pub name_first : (held : List plain.Value) (x y : Name) (f : NamedValue) (fs rest : List NamedValue) (b : Bool) → rest ≡ f ∷ fs → y ≡ f.name → b ≡ bytes_eq x y → has_field x (fields_in held rest) ≡ (b || has_field x (fields_in held fs))
name_first held x y f fs rest b e named told =
    ap (λ r. has_field x (fields_in held r)) e ∙ ap (λ b. b || has_field x (fields_in held fs)) (ap (bytes_eq x) (sym named) ∙ sym told)

pub twice_first : (held : List plain.Value) (y : Name) (f : NamedValue) (fs rest : List NamedValue) (b : Bool) → rest ≡ f ∷ fs → y ≡ f.name → b ≡ has_field y (fields_in held fs) → has_twice (fields_in held rest) ≡ (b || has_twice (fields_in held fs))
twice_first held y f fs rest b e named told =
    ap (λ r. has_twice (fields_in held r)) e ∙ ap (λ b. b || has_twice (fields_in held fs)) (ap (λ y. has_field y (fields_in held fs)) (sym named) ∙ sym told)

-- ---- one that is taken out

pub none_named : (held : List plain.Value) (x : Name) (fs : List NamedValue) → OtherNames x fs (length fs) → (field_of x (fields_in held fs) ≡ None) × (without_field x (fields_in held fs) ≡ fields_in held fs)
none_named held x [] o = (refl, refl)
none_named held x (f ∷ fs) o =
    let other : bytes_eq x f.name ≡ false = o 0 (omega arith) f refl in
    let more = none_named held x fs (λ k lt g e. o (suc k) (omega arith) g e) in (
      ap (λ b. if b then Some (value_in held f.value) else field_of x (fields_in held fs)) other ∙ more.0,
      ap (λ b. if b then fields_in held fs else a_field f.name (value_in held f.value) (without_field x (fields_in held fs))) other ∙ ap (a_field f.name (value_in held f.value)) more.1,
    )

pub one_named : (held : List plain.Value) (x : Name) (fs : List NamedValue) (at : ℕ) (f : NamedValue) → slice_get fs at ≡ Some f → bytes_eq x f.name ≡ true → OtherNames x fs at → (field_of x (fields_in held fs) ≡ Some (value_in held f.value)) × (without_field x (fields_in held fs) ≡ fields_in held (remove fs at))
one_named held x [] at f e n o = absurd (search (rules, e))
one_named held x (g ∷ fs) zero f e n o =
    let same : g ≡ f = search (rules, e) in
    let named : bytes_eq x g.name ≡ true = ap (λ f. bytes_eq x f.name) same ∙ n in (
      ap (λ b. if b then Some (value_in held g.value) else field_of x (fields_in held fs)) named ∙ ap (λ f. Some (value_in held f.value)) same,
      ap (λ b. if b then fields_in held fs else a_field g.name (value_in held g.value) (without_field x (fields_in held fs))) named,
    )
one_named held x (g ∷ fs) (suc i) f e n o =
    let other : bytes_eq x g.name ≡ false = o 0 (omega arith) g refl in
    let more = one_named held x fs i f e n (λ k lt h e. o (suc k) (omega arith) h e) in (
      ap (λ b. if b then Some (value_in held g.value) else field_of x (fields_in held fs)) other ∙ more.0,
      ap (λ b. if b then fields_in held fs else a_field g.name (value_in held g.value) (without_field x (fields_in held fs))) other ∙ ap (a_field g.name (value_in held g.value)) more.1,
    )

pub each_removed : {A : Type 0} (P : A → Type 0) (xs : List A) (i : ℕ) → Each P xs → Each P (remove xs i)
each_removed P [] zero h = tt
each_removed P [] (suc i) h = tt
each_removed P (x ∷ xs) zero h = h.1
each_removed P (x ∷ xs) (suc i) h = (h.0, each_removed P xs i h.1)

-- ---- no name stands twice

field_behind : (x y : Name) (fs : Fields) → has_field y fs ≡ false → has_field y (without_field x fs) ≡ false
field_behind x y no_fields h = h
field_behind x y (a_field z v fs) h =
    let n = or_parts (bytes_eq y z) (has_field y fs) h in
    let by : (b : Bool) → has_field y (if b then fs else a_field z v (without_field x fs)) ≡ false = λ b. elim b as (λ b. has_field y (if b then fs else a_field z v (without_field x fs)) ≡ false) [
      | true ↦ n.1
      | false ↦ ap (λ b. b || has_field y (without_field x fs)) n.0 ∙ field_behind x y fs n.1
    ] in
    by (bytes_eq x z)

pub once_behind : (x : Name) (fs : Fields) → has_twice fs ≡ false → has_twice (without_field x fs) ≡ false
once_behind x no_fields h = h
once_behind x (a_field z v fs) h =
    let n = or_parts (has_field z fs) (has_twice fs) h in
    let by : (b : Bool) → has_twice (if b then fs else a_field z v (without_field x fs)) ≡ false = λ b. elim b as (λ b. has_twice (if b then fs else a_field z v (without_field x fs)) ≡ false) [
      | true ↦ n.1
      | false ↦ ap (λ b. b || has_twice (without_field x fs)) (field_behind x z fs n.0) ∙ once_behind x fs n.1
    ] in
    by (bytes_eq x z)
