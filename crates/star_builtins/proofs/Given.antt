-- How many arguments are given by position.
use Rattle.std.proofs.Common.{◌≡◌, ℕ, suc, ◌<◌, ◌≤◌, nat_le, nat_lt, Bool, true, false, ◌&&◌, ◌||◌, List, [], ◌∷◌, length, refl, ap, ◌∙◌}
use Rattle.std.proofs.lemmas.Bool.{le-leb, le-ltb, lt-leb, lt-ltb}
use Rattle.star_values.specs.View.{values_in as seen_values}
use Rattle.star_values.specs.declared.value.Value.{Value}
use Rattle.value_spec.specs.Values as plain
use Rattle.value_spec.specs.Values.{values_from, values_in}

pub as_many : (held : List plain.Value) (vs : List Value) → length (values_in (values_from (seen_values held vs))) ≡ length vs
as_many held [] = refl
as_many held (v ∷ vs) = ap suc (as_many held vs)

pub by_position : (held : List plain.Value) (vs : List Value) (i : ℕ) (named : Bool) → i < length vs → (nat_lt i (length (values_in (values_from (seen_values held vs)))) || named) ≡ true
by_position held vs i named h = ap (λ n. nat_lt i n || named) (as_many held vs) ∙ ap (λ b. b || named) (lt-ltb i (length vs) h)

pub by_name : (held : List plain.Value) (vs : List Value) (i : ℕ) (named : Bool) → length vs ≤ i → (nat_lt i (length (values_in (values_from (seen_values held vs)))) || named) ≡ named
by_name held vs i named h = ap (λ n. nat_lt i n || named) (as_many held vs) ∙ ap (λ b. b || named) (le-ltb i (length vs) h)

-- at most so many
pub at_most : (held : List plain.Value) (vs : List Value) (k : ℕ) (b : Bool) → length vs ≤ k → (nat_le (length (values_in (values_from (seen_values held vs)))) k && b) ≡ b
at_most held vs k b h = ap (λ n. nat_le n k && b) (as_many held vs) ∙ ap (λ x. x && b) (le-leb (length vs) k h)

pub more_than : (held : List plain.Value) (vs : List Value) (k : ℕ) (b : Bool) → k < length vs → (nat_le (length (values_in (values_from (seen_values held vs)))) k && b) ≡ false
more_than held vs k b h = ap (λ n. nat_le n k && b) (as_many held vs) ∙ ap (λ x. x && b) (lt-leb (length vs) k h)
