-- The parameters of the language's own functions, as parts.
use Rattle.std.proofs.Common.{◌≡◌, ◌∙◌, ◌++◌, append_assoc, subst, sym, ◌<◌, ◌+◌, ℕ, List, [], ◌∷◌, None, drop, get_or, length, map as each, refl, ap}
use Rattle.std.proofs.lemmas.List.{drop_more, map-append}
use Rattle.std.specs.Borrow.{Bor}
use Rattle.ytt_base.specs.declared.fault.Place.{Place}
use Rattle.code_spec.specs.Code.{Name, defaulted, required}
use Rattle.star_tree.specs.Whole.{Parameter, default_part, named_part, parameters_from}
use Rattle.star_values.proofs.Growing.{each_joined}
use Rattle.star_values.specs.Owns.{Owns, OwnsAll}
use Rattle.star_values.specs.View.{View, value_of, values_of}
use Rattle.star_values.specs.declared.value.Value.{Value}
use Rattle.star_values.specs.declared.value.Value.TheVariants as value
use Rattle.value_spec.specs.Values as plain
use Rattle.value_spec.specs.Values.{none_value}
use Rattle.value_spec.specs.Binding.{none_for_each, none_given, optional_parameters, parameters_named}
use Rattle.value_spec.specs.Outcomes.{State}
use Rattle.star_calls.specs.Left.{Rest, completed, taken}
use Rattle.star_calls.proofs.Filled.{required_taken}

abbrev pub optional_parts : List Name → List Parameter
optional_parts [] = []
optional_parts (x ∷ xs) = default_part x none_given ∷ optional_parts xs

abbrev pub named_parts : (needed optional : List Name) → List Parameter
named_parts [] ys = optional_parts ys
named_parts (x ∷ xs) ys = named_part x ∷ named_parts xs ys

pub optional_from : (ys : List Name) → optional_parameters ys ≡ parameters_from (optional_parts ys)
optional_from [] = refl
optional_from (x ∷ xs) = ap (defaulted x none_given) (optional_from xs)

pub named_from : (xs ys : List Name) → parameters_named xs ys ≡ parameters_from (named_parts xs ys)
named_from [] ys = optional_from ys
named_from (x ∷ xs) ys = ap (required x) (named_from xs ys)

-- ---- one parameter of those that are left

abbrev names : List (Bor (List ℕ)) → List Name
names = each (λ w. w.now)

pub needed_next : (p : Place) (ys : List Name) (xs : List (Bor (List ℕ))) (j : ℕ) (d : Bor (List ℕ)) (r : Rest) (s : State (Unit {0})) → j < length xs →
    completed p (parameters_named (each (λ w. w.now) (drop j xs)) ys) r s ≡ taken p (get_or xs j d).now None (parameters_from (named_parts (each (λ w. w.now) (drop (j + 1) xs)) ys)) r s
needed_next p ys xs j d r s l =
    let x = (get_or xs j d).now in
    let rest = names (drop (j + 1) xs) in
    ap (λ zs. completed p (parameters_named (names zs) ys) r s) (drop_more xs j d l)
    ∙ required_taken p x (parameters_named rest ys) r s
    ∙ ap (λ ps. taken p x None ps r s) (named_from rest ys)

pub optional_next : (p : Place) (xs : List (Bor (List ℕ))) (j : ℕ) (d : Bor (List ℕ)) (r : Rest) (s : State (Unit {0})) → j < length xs →
    completed p (optional_parameters (each (λ w. w.now) (drop j xs))) r s ≡ completed p (parameters_from (default_part (get_or xs j d).now none_given ∷ optional_parts (each (λ w. w.now) (drop (j + 1) xs)))) r s
optional_next p xs j d r s l =
    ap (λ zs. completed p (optional_parameters (names zs)) r s) (drop_more xs j d l)
    ∙ ap (λ ps. completed p ps r s) (optional_from (names (get_or xs j d ∷ drop (j + 1) xs)))

-- ---- None for each

pub nones_next : (a : View) (all : List plain.Value) (vs next : List Value) (xs : List (Bor (List ℕ))) (j : ℕ) → j < length xs → next ≡ vs ++ value.None ∷ [] →
    (values_of a vs ++ none_for_each (each (λ w. w.now) (drop j xs)) ≡ all) × OwnsAll a vs → (values_of a next ++ none_for_each (each (λ w. w.now) (drop (j + 1) xs)) ≡ all) × OwnsAll a next
nones_next a all vs next xs j l e h =
    let d : Bor (List ℕ) = record { ref_ptr = (0, 0); now = [] } in
    let rest = none_for_each (names (drop (j + 1) xs)) in (
      ap (λ ws. values_of a ws ++ rest) e
          ∙ ap (λ ws. ws ++ rest) (map-append (value_of a) vs (value.None ∷ []))
          ∙ append_assoc (values_of a vs) (none_value ∷ []) rest
          ∙ ap (λ zs. values_of a vs ++ none_for_each (names zs)) (sym (drop_more xs j d l))
          ∙ h.0,
      subst (OwnsAll a) (sym e) (each_joined (Owns a) vs (value.None ∷ []) h.1 (tt, tt)),
    )
