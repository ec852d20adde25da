-- Tuples that are made one after another, while the arena grows.
use Rattle.std.proofs.Common.{◌≡◌, ℕ, zero, suc, ◌+◌, ◌-◌, ◌<◌, ◌≤◌, ◌^◌, nat_le, ℤ, pos, negsuc, ◌+ℤ◌, ◌≤ℤ◌, FitsSigned, Bool, true, false, List, [], ◌∷◌, ◌++◌, drop, length, map as each, slice_get, Some, Ok, append_assoc, arith, rules, refl, sym, ap, subst, ◌∙◌}
use Rattle.std.proofs.Math.IntN.{+ℤ_assoc}
use Rattle.std.proofs.lemmas.Bool.{leb-true, ltb-true}
use Rattle.std.proofs.lemmas.Int.{ints}
use Rattle.std.proofs.lemmas.List.{map-append}
use Rattle.std.specs.Int.{w128}
use Rattle.ytt_base.specs.declared.fault.FaultKind.TheVariants as kind
use Rattle.ytt_base.specs.declared.fault.Place.{Place}
use Rattle.builtin_spec.specs.Builtins.{all_have_members, enumerate_row, firsts, last_fits, least_of, members_or_none, members_paid, numbered, sum_of, zip_row, zipped}
use Rattle.builtin_spec.specs.Lists.{bound_in}
use Rattle.index_spec.specs.Slices.{is_bound}
use Rattle.object_arena.specs.Made.{Makes}
use Rattle.operator_spec.specs.Operators.{tuple_of}
use Rattle.star_steps.proofs.Meeting.{tuple_members}
use Rattle.star_steps.specs.Meets.{state_in}
use Rattle.star_values.proofs.Growing.{each_joined, owns_all_kept, value_kept, values_kept}
use Rattle.star_values.specs.Owns.{Grows, Owns, OwnsAll}
use Rattle.star_values.specs.View.{View, value_of, values_of}
use Rattle.star_values.specs.declared.value.Value.{Value}
use Rattle.star_builtins.specs.Turns.{turns_paid}
use Rattle.value_spec.specs.Members.{count_in, members_in}
use Rattle.value_spec.specs.Numbers.{fits}
use Rattle.value_spec.specs.Outcomes.{Computation, Ending, State, asks, bad, done, fail, give, need, new_list, paid_by, reads, take_if, take_steps, then_do, ◌>>=◌}
use Rattle.value_spec.specs.Values as plain
use Rattle.value_spec.specs.Values.{arguments, int_value, no_fields, values_from}

-- one more value is made, and stands behind those that were
module _ (a b : View) (v : plain.Value) (x : Value) (xs ys : List Value) (made : Makes v (Ok x) a b) (owns : OwnsAll a xs) (is : ys ≡ xs ++ x ∷ []) where
  pub more_made : (more all : List plain.Value) → values_of a xs ++ v ∷ more ≡ all → values_of b ys ++ more ≡ all
  more_made more all so_far =
      ap (λ ws. values_of b ws ++ more) is
      ∙ ap (λ ws. ws ++ more) (map-append (value_of b) xs (x ∷ []))
      ∙ append_assoc (values_of b xs) (value_of b x ∷ []) more
      ∙ ap (λ ws. ws ++ value_of b x ∷ more) (values_kept a b xs made.grows owns)
      ∙ ap (λ v. values_of a xs ++ v ∷ more) made.value
      ∙ so_far

  pub more_owned : OwnsAll b ys
  more_owned = subst (OwnsAll b) (sym is) (each_joined (Owns b) xs (x ∷ []) (owns_all_kept a b xs made.grows owns) (made.owns, tt))

-- a member with its number, and then the rest with theirs
pub numbered_next : (was a : View) (z n : ℤ) (k : ℕ) (x : Value) (xs ws : List Value) → n ≡ z +ℤ pos k → Grows was a → Owns was x → ws ≡ x ∷ xs →
    numbered (z +ℤ pos k) (values_of was ws) ≡ tuple_of (int_value n ∷ value_of a x ∷ []) ∷ numbered (z +ℤ pos (k + 1)) (values_of was xs)
numbered_next was a z n k x xs ws number grows owned is =
    ap (λ ws. numbered (z +ℤ pos k) (values_of was ws)) is
    ∙ (λ i. tuple_of (int_value (sym number i) ∷ sym (value_kept was a x grows owned) i ∷ []) ∷ numbered (+ℤ_assoc z (pos k) (pos 1) i) (values_of was xs))

-- ---- numbers

fitted : (z : ℤ) → fits z ≡ true → FitsSigned w128 z
fitted (pos n) e = record { sfits = ltb-true n (2 ^ 127) e }
fitted (negsuc n) e = record { sfits = ltb-true n (2 ^ 127) e }

between_fits : (a z b : ℤ) → a ≤ℤ z → z ≤ℤ b → FitsSigned w128 a → FitsSigned w128 b → FitsSigned w128 z
between_fits a (pos z) (pos b) h k f g = record { sfits = omega (arith, ints, g.sfits) }
between_fits a (pos z) (negsuc b) h k f g = absurd (omega (arith, ints))
between_fits (pos a) (negsuc z) b h k f g = absurd (omega (arith, ints))
between_fits (negsuc a) (negsuc z) b h k f g = record { sfits = omega (arith, ints, f.sfits) }

-- where the last number has 128 bits, so has each
pub each_fits : (z : ℤ) (vs : List plain.Value) (i : ℕ) → FitsSigned w128 z → last_fits z vs ≡ true → i < length vs → FitsSigned w128 (z +ℤ pos i)
each_fits z [] i f e h = absurd (omega (arith, h))
each_fits z (v ∷ vs) i f e h = between_fits z (z +ℤ pos i) (z +ℤ pos (length vs)) (omega (arith, ints)) (omega (arith, ints)) f (fitted _ e)

-- the row of members that are paid for
module _ (p : Place) (v start : plain.Value) (a : View) (n m : ℕ) (z : ℤ) (vs : List plain.Value) (bound : is_bound start ≡ true) (from : bound_in (pos 0) start ≡ z) (paid : members_paid 2 p v (state_in a n) ≡ done vs (state_in a m)) where
  abbrev rest : ℤ → List plain.Value → Computation (Unit {0}) plain.Value
  rest z vs = need kind.IntOverflow p (last_fits z vs) >>= λ u. new_list (numbered z vs)

  pub numbers_next : (fits : Bool) → last_fits z vs ≡ fits → enumerate_row p v start (state_in a n) ≡ then_do (need kind.IntOverflow p fits (state_in a m)) (λ u. new_list (numbered z vs))
  numbers_next fits last =
      ap (λ b. then_do (need kind.ValueKind p b (state_in a n)) (λ u. members_paid 2 p v >>= rest (bound_in (pos 0) start))) bound
      ∙ ap (λ o. then_do o (rest (bound_in (pos 0) start))) paid
      ∙ ap (λ z. rest z vs (state_in a m)) from
      ∙ ap (λ b. then_do (need kind.IntOverflow p b (state_in a m)) (λ u. new_list (numbered z vs))) last

-- ---- several values

-- steps that were taken were there
pub taken_within : (n : ℕ) (p : Place) (s t : State (Unit {0})) → take_steps n p s ≡ done tt t → n ≤ s.steps
taken_within n p s t e = leb-true n s.steps (by (nat_le n s.steps) e) where
  by : (b : Bool) → take_if b n p s ≡ done tt t → b ≡ true
  by true e = refl
  by false e = absurd (search (rules, e))

-- a list that has a member at a place, and one that has none
pub part_there : (a : View) (k : ℕ) (vs : List Value) (v : Value) (wss : List (List plain.Value)) → slice_get vs k ≡ Some v → firsts (drop k (values_of a vs) ∷ wss) ≡ value_of a v ∷ firsts wss
part_there a k [] v wss e = absurd (search (rules, e))
part_there a zero (x ∷ vs) v wss e =
    let same : x ≡ v = search (rules, e) in
    ap (λ x. value_of a x ∷ firsts wss) same
part_there a (suc k) (x ∷ vs) v wss e = part_there a k vs v wss e

pub part_absent : (a : View) (k : ℕ) (vs : List Value) (wss : List (List plain.Value)) → length vs ≤ k → firsts (drop k (values_of a vs) ∷ wss) ≡ firsts wss
part_absent a zero [] wss h = refl
part_absent a (suc k) [] wss h = refl
part_absent a zero (x ∷ vs) wss h = absurd (omega (arith, h))
part_absent a (suc k) (x ∷ vs) wss h = part_absent a k vs wss (omega (arith, h))

-- nothing is dropped
pub all_left : (vss : List (List plain.Value)) → each (drop 0) vss ≡ vss
all_left [] = refl
all_left (vs ∷ vss) = ap (λ wss. vs ∷ wss) (all_left vss)

one_less : (k : ℕ) (vs : List plain.Value) → drop 1 (drop k vs) ≡ drop (suc k) vs
one_less zero vs = refl
one_less (suc k) [] = refl
one_less (suc k) (v ∷ vs) = one_less k vs

each_less : (k : ℕ) (vss : List (List plain.Value)) → each (drop 1) (each (drop k) vss) ≡ each (drop (suc k)) vss
each_less k [] = refl
each_less k (vs ∷ vss) = λ i. one_less k vs i ∷ each_less k vss i

-- one tuple, and then the rest
pub zipped_next : (k n : ℕ) (vss : List (List plain.Value)) → k < n → zipped (n - k) (each (drop k) vss) ≡ tuple_of (firsts (each (drop k) vss)) ∷ zipped (n - (k + 1)) (each (drop (k + 1)) vss)
zipped_next k n vss h =
    let more : n - k ≡ suc (n - (k + 1)) = omega (arith, h) in
    let one : suc k ≡ k + 1 = omega arith in
    ap (λ m. zipped m (each (drop k) vss)) more ∙ ap (λ wss. tuple_of (firsts (each (drop k) vss)) ∷ zipped (n - (k + 1)) wss) (each_less k vss ∙ ap (λ j. each (drop j) vss) one)

-- the row of arguments by position
module _ (p : Place) (vs : List plain.Value) (a : View) (n : ℕ) where
  abbrev row : Ending (Unit {0}) plain.Value
  row = zip_row p (arguments (values_from vs) no_fields) (state_in a n)

  abbrev counts : List ℕ
  counts = each (count_in a.store) vs

  -- what follows where each has members
  abbrev further : List plain.Value → Computation (Unit {0}) plain.Value
  further ws = reads (λ store. each (count_in store) ws) >>= λ ns. paid_by (sum_of ns + least_of ns) p (reads (λ store. zipped (least_of ns) (each (λ v. members_or_none (members_in store v)) ws))) >>= new_list

  begins : (has : Bool) → all_have_members a.store vs ≡ has → row ≡ then_do (need kind.ValueKind p has (state_in a n)) (λ u. further vs)
  begins has e =
      ap (λ ws. then_do (need kind.ValueKind p (all_have_members a.store ws) (state_in a n)) (λ u. further ws)) (tuple_members (values_from vs) vs refl)
      ∙ ap (λ b. then_do (need kind.ValueKind p b (state_in a n)) (λ u. further vs)) e

  -- one has none
  pub zip_refused : all_have_members a.store vs ≡ false → row ≡ fail kind.ValueKind p (state_in a n)
  zip_refused = begins false

  -- how many tuples there are, when they are paid for; and then they are made
  abbrev pub turns : Ending (Unit {0}) ℕ
  turns = turns_paid p counts (state_in a n)

  abbrev pub tuples : ℕ → Computation (Unit {0}) plain.Value
  tuples k = reads (λ store. zipped k (each (λ v. members_or_none (members_in store v)) vs)) >>= new_list

  pub zip_goes : all_have_members a.store vs ≡ true → row ≡ then_do turns tuples
  zip_goes e = begins true e ∙ by (take_steps (sum_of counts + least_of counts) p (state_in a n)) where
    by : (o : Ending (Unit {0}) (Unit {0})) →
        then_do (then_do o (λ u. reads (λ store. zipped (least_of counts) (each (λ v. members_or_none (members_in store v)) vs)))) new_list ≡ then_do (then_do o (λ u. give (least_of counts))) tuples
    by (done u s) = refl
    by (bad f s) = refl
    by (asks q s k) = λ i. asks q s (λ got t. by (k got t) i)
