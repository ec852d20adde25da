-- What a parameter of a name gets and leaves, by the first position.
use Rattle.std.proofs.Common.{◌≡◌, ◌==◌, true, false, arith, Bool, if◌then◌else◌, List, [], ◌∷◌, Option, Some, None, length, refl, sym, ap, ◌∙◌}
use Rattle.std.proofs.lemmas.Bool.Decides.{nat_tests}
use Rattle.std.specs.Prelude.{OnSome}
use Rattle.code_spec.specs.Code.{Name}
use Rattle.value_spec.specs.Values as plain
use Rattle.value_spec.specs.Values.{Fields}
use Rattle.value_spec.specs.Binding.{has_field, or_default, field_of, without_field}
use Rattle.star_values.specs.View.{View, value_of, values_of}
use Rattle.star_values.specs.declared.value.Value.{Value}
use Rattle.star_calls.specs.Left.{Rest, got_by, named_behind, positions_behind, rest_behind}

pub when_some : {A : Type 0} (o : Option A) (P : Type 0) → P → OnSome o P
when_some None P p = tt
when_some (Some x) P p = p

-- ---- without positions

pub got_named : (a : View) (x : Name) (d : Option plain.Value) (vs : List Value) (fs : Fields) → vs ≡ [] → got_by x d (values_of a vs) fs ≡ or_default (field_of x fs) d
got_named a x d vs fs e = ap (λ vs. got_by x d (values_of a vs) fs) e

pub behind_named : (a : View) (x : Name) (vs : List Value) (ds got : List plain.Value) (fs left : Fields) → vs ≡ [] → left ≡ without_field x fs →
    (let r : Rest = record { positions = values_of a vs; defaults = ds; named = left; got = got } in r) ≡ rest_behind x (record { positions = values_of a vs; defaults = ds; named = fs; got = got })
behind_named a x vs ds got fs left e n =
    let ps = ap (values_of a) e ∙ sym (ap (λ vs. positions_behind (values_of a vs)) e) in
    let ns = n ∙ sym (ap (λ vs. named_behind x (values_of a vs) fs) e) in
    λ i. record { positions = ps i; defaults = ds; named = ns i; got = got }

-- ---- with one

pub got_position : (a : View) (x : Name) (d : Option plain.Value) (v : Value) (more vs : List Value) (fs : Fields) (b : Bool) → vs ≡ v ∷ more → b ≡ has_field x fs → got_by x d (values_of a vs) fs ≡ (if b then None else Some (value_of a v))
got_position a x d v more vs fs b e n = ap (λ vs. got_by x d (values_of a vs) fs) e ∙ ap (λ b. if b then None else Some (value_of a v)) (sym n)

pub behind_position : (a : View) (x : Name) (v : Value) (more vs : List Value) (ds got : List plain.Value) (fs : Fields) → vs ≡ v ∷ more →
    (let r : Rest = record { positions = values_of a more; defaults = ds; named = fs; got = got } in r) ≡ rest_behind x (record { positions = values_of a vs; defaults = ds; named = fs; got = got })
behind_position a x v more vs ds got fs e =
    let ps = sym (ap (λ vs. positions_behind (values_of a vs)) e) in
    let ns = sym (ap (λ vs. named_behind x (values_of a vs) fs) e) in
    λ i. record { positions = ps i; defaults = ds; named = ns i; got = got }

-- ---- whether there is one

pub no_positions : (a : View) (vs : List Value) → true ≡ (length vs == 0) → values_of a vs ≡ []
no_positions a [] e = refl
no_positions a (v ∷ vs) e = absurd (grind (arith, nat_tests))

pub some_positions : (a : View) (vs : List Value) → false ≡ (length vs == 0) → values_of a vs ≡ [] → ⊥
some_positions a [] e n = grind (arith, nat_tests)
some_positions a (v ∷ vs) e n = cc
