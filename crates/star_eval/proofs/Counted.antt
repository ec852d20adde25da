-- The members that are left, one after another.
use Rattle.std.proofs.Common.{◌≡◌, ℕ, zero, suc, rules, List, ◌+◌, ◌≤◌, nat_lt, ℤ, pos, Bool, true, false, if◌then◌else◌, [], ◌∷◌, length, map, Option, Some, None, option_map, slice_get, refl, ap, subst, sym, ◌∙◌}
use Rattle.std.specs.Prelude.{◌+ℤ◌, ◌*ℤ◌}
use Rattle.std.proofs.lemmas.Bool.{ltb-false, ltb-true}
use Rattle.std.proofs.lemmas.List.{length-map}
use Rattle.std.proofs.lemmas.Option.{slice_get-map, slice_get_past}
use Rattle.star_integers.proofs.Progressions.{progression_get, progression_length}
use Rattle.star_values.proofs.Slots.{some_same}
use Rattle.star_values.specs.Owns.{OwnsAll, OwnsOption}
use Rattle.star_values.specs.View.{View, members_in as held_members, option_in, value_of, values_of}
use Rattle.star_values.specs.declared.value.Ref.{Ref}
use Rattle.star_values.specs.declared.value.Value.{Value}
use Rattle.star_values.specs.declared.value.Value.TheVariants as value
use Rattle.value_spec.specs.Members.{count_in, keys_in, members_in, numbers_of}
use Rattle.value_spec.specs.Numbers.{progression, range_count}
use Rattle.value_spec.specs.Store.{list_at, pairs_at}
use Rattle.value_spec.specs.Values as plain
use Rattle.value_spec.specs.Values.{int_value}
use Rattle.star_calls.proofs.Opened.{none_left, split_at}
use Rattle.star_eval.specs.declared.source.Members.{Members}
use Rattle.star_eval.specs.declared.source.Members.TheVariants as members
use Rattle.star_eval.specs.declared.numbers.Numbers.{Numbers}
use Rattle.star_eval.specs.declared.source.Source.{Source}
use Rattle.star_eval.specs.Sources.{all_members, left_of, number_found}

pub numbers_length : (from to step : ℤ) → length (numbers_of from to step) ≡ range_count from to step
numbers_length from to step = length-map (progression (range_count from to step) from step) int_value ∙ progression_length (range_count from to step) from step

number_at : (start step : ℤ) (n i : ℕ) (a : View) → option_in a.held (if nat_lt i n then Some (value.Int (start +ℤ (pos i *ℤ step))) else None) ≡ slice_get (map int_value (progression n start step)) i
number_at start step n i a = by_test (nat_lt i n) refl
  where
    by_test : (b : Bool) → nat_lt i n ≡ b → option_in a.held (if b then Some (value.Int (start +ℤ (pos i *ℤ step))) else None) ≡ slice_get (map int_value (progression n start step)) i
    by_test true e = sym (slice_get-map int_value (progression n start step) i ∙ ap (option_map int_value) (progression_get n start step i (ltb-true i n e)))
    by_test false e =
        let least : n ≤ i = ltb-false i n e in
        sym (slice_get-map int_value (progression n start step) i ∙ ap (option_map int_value) (slice_get_past (progression n start step) i (subst (λ m. m ≤ i) (sym (progression_length n start step)) least)))

module _ (a : View) (ms : Members) (n : Numbers) (place : ℕ) (found : Option Value) (is : ms ≡ members.Numbers n) (by : found ≡ number_found n.from n.to n.step place) where
  pub number_seen : option_in a.held found ≡ slice_get (all_members a ms) place
  number_seen = ap (option_in a.held) by ∙ number_at n.from n.step (range_count n.from n.to n.step) place a ∙ sym (ap (λ x. slice_get (all_members a x) place) is)

  owned_if : (b : Bool) (z : ℤ) → OwnsOption a (if b then Some (value.Int z) else None)
  owned_if true z = tt
  owned_if false z = tt

  pub number_owned : OwnsOption a found
  number_owned = subst (OwnsOption a) (sym by) (owned_if (nat_lt place (range_count n.from n.to n.step)) (n.from +ℤ (pos place *ℤ n.step)))

-- ---- members of a tuple

members_back : (vs : List plain.Value) → plain.values_in (plain.values_from vs) ≡ vs
members_back [] = refl
members_back (v ∷ vs) = ap (λ l. v ∷ l) (members_back vs)

value_seen : (a : View) (vs : List Value) (i : ℕ) → option_in a.held (slice_get vs i) ≡ slice_get (values_of a vs) i
value_seen a [] zero = refl
value_seen a [] (suc i) = refl
value_seen a (v ∷ vs) zero = refl
value_seen a (v ∷ vs) (suc i) = value_seen a vs i

value_owned : (a : View) (vs : List Value) (i : ℕ) → OwnsAll a vs → OwnsOption a (slice_get vs i)
value_owned a [] zero o = tt
value_owned a [] (suc i) o = tt
value_owned a (v ∷ vs) zero o = o.0
value_owned a (v ∷ vs) (suc i) o = value_owned a vs i o.1

module _ (a : View) (ms : Members) (r : Ref) (vs : List Value) (place : ℕ) (found : Option Value) (is : ms ≡ members.Tuple r) (by : found ≡ slice_get vs place) where
  pub tuple_seen : value_of a (value.Tuple r) ≡ plain.tuple_value (plain.values_from (values_of a vs)) → option_in a.held found ≡ slice_get (all_members a ms) place
  tuple_seen e =
      ap (option_in a.held) by ∙ value_seen a vs place
      ∙ ap (λ l. slice_get l place) (sym (ap (λ v. plain.values_in (held_members v)) e ∙ members_back (values_of a vs)))
      ∙ sym (ap (λ x. slice_get (all_members a x) place) is)

  pub tuple_owned : OwnsAll a vs → OwnsOption a found
  tuple_owned o = subst (OwnsOption a) (sym by) (value_owned a vs place o)

-- ---- how many there are

keys_length : (ps : List (plain.Value × plain.Value)) → length (keys_in ps) ≡ length ps
keys_length [] = refl
keys_length (p ∷ ps) = ap suc (keys_length ps)

same_length : (vs ws : List plain.Value) → Some vs ≡ Some ws → length vs ≡ length ws
same_length vs ws e = ap length (some_same vs ws e)

-- the members of a value are as many as are counted
pub as_counted : (store : plain.Store) (v : plain.Value) (vs : List plain.Value) → members_in store v ≡ Some vs → count_in store v ≡ length vs
as_counted store (plain.tuple_value ws) vs e = same_length (plain.values_in ws) vs e
as_counted store (plain.list_value r) vs e = same_length (list_at r store) vs e
as_counted store (plain.dict_value r) vs e = sym (keys_length (pairs_at r store)) ∙ same_length (keys_in (pairs_at r store)) vs e
as_counted store (plain.range_value start stop step) vs e = sym (numbers_length start stop step) ∙ same_length (numbers_of start stop step) vs e
as_counted store _ vs e = absurd (search (rules, e))

-- ---- the members behind a place

pub over : (a : View) (s : Source) → None ≡ slice_get (all_members a s.members) s.next → left_of a s ≡ []
over a s e = none_left (all_members a s.members) s.next (sym e)

pub going_on : (a : View) (s : Source) (v : Value) (n : ℕ) → Some (value_of a v) ≡ slice_get (all_members a s.members) s.next → n ≡ s.next + 1 → left_of a s ≡ value_of a v ∷ left_of a (record { members = s.members; next = n })
going_on a s v n e m = split_at (all_members a s.members) s.next n (value_of a v) (sym e) m
