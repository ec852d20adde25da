-- Members of lists, dicts and ranges, one after another.
use Rattle.star_steps.proofs.Names.{◌≡◌, ℕ, zero, suc, ◌+◌, ◌≤◌, ℤ, pos, ◌+ℤ◌, ◌*ℤ◌, true, Bool, false, not, if◌then◌else◌, List, [], ◌∷◌, ◌++◌, map, Option, Some, None, is_some, arith, refl, sym, ap, subst, ◌∙◌, add-one, rules, map-append, keys_in, progression, put_pair, put_pairs, value_of_key, new_keys, one_more_unless, OwnsAll, View, option_in, value_of, values_of, Value}
use Rattle.value_spec.specs.Values as plain
use Rattle.star_values.specs.declared.value.Value.TheVariants as value
use Rattle.star_fragments.specs.Fresh.{OwnsPairs, pairs_of}
use Rattle.star_integers.proofs.Progressions.{first_number, from_next}
use Rattle.star_ops.specs.Acts.{first_parts}
use Rattle.star_ops.proofs.Copies.{joined_owned}

-- ---- pairs

-- first the ones, and then the others
pub put_both : (acc ps qs : List (plain.Value × plain.Value)) → put_pairs acc (ps ++ qs) ≡ put_pairs (put_pairs acc ps) qs
put_both acc [] qs = refl
put_both acc (p ∷ ps) qs = put_both (put_pair p.0 p.1 acc) ps qs

pub keys_seen : (a : View) (ps : List (Value × Value)) → keys_in (pairs_of a ps) ≡ values_of a (first_parts ps)
keys_seen a [] = refl
keys_seen a (p ∷ ps) = ap (λ l. value_of a p.0 ∷ l) (keys_seen a ps)

pub keys_owned : (a : View) (ps : List (Value × Value)) → OwnsPairs a ps → OwnsAll a (first_parts ps)
keys_owned a [] h = tt
keys_owned a (p ∷ ps) h = (h.0.0, keys_owned a ps h.1)

-- ---- numbers

numbers_more : (n : ℕ) (start step : ℤ) → progression (suc n) start step ≡ progression n start step ++ (start +ℤ (pos n *ℤ step)) ∷ []
numbers_more zero start step = ap (λ z. z ∷ []) (first_number start step)
numbers_more (suc n) start step = ap (λ l. start ∷ l) (numbers_more n (start +ℤ step) step ∙ ap (λ z. progression n (start +ℤ step) step ++ z ∷ []) (from_next start step n))

pub numbers_next : (n : ℕ) (start step : ℤ) → progression (n + 1) start step ≡ progression n start step ++ (start +ℤ (pos n *ℤ step)) ∷ []
numbers_next n start step = ap (λ m. progression m start step) (add-one n) ∙ numbers_more n start step

pub number_pushed : (a : View) (old new : List Value) (n : ℕ) (s d z : ℤ) → new ≡ old ++ value.Int z ∷ [] → z ≡ s +ℤ (pos n *ℤ d) → values_of a old ≡ map plain.int_value (progression n s d) → OwnsAll a old →
    (values_of a new ≡ map plain.int_value (progression (n + 1) s d)) × OwnsAll a new
number_pushed a old new n s d z e f seen owned = (
  ap (values_of a) e ∙ map-append (value_of a) old (value.Int z ∷ []) ∙ (λ i. seen i ++ plain.int_value (f i) ∷ []) ∙ sym (ap (map plain.int_value) (numbers_next n s d) ∙ map-append plain.int_value (progression n s d) _),
  subst (OwnsAll a) (sym e) (joined_owned a old (value.Int z ∷ []) owned (tt, tt)),
)

-- ---- counting

-- one more pair, whose key is counted where it isn't there
pub counted : (held : List plain.Value) (ps qs : List (plain.Value × plain.Value)) (m : plain.Value × plain.Value) (o : Option Value) (none : Bool) (one fresh total : ℕ) → option_in held o ≡ value_of_key m.0 ps → is_some o ≡ not none → one ≡ (if none then 1 else 0) →
    fresh + new_keys ps (m ∷ qs) ≡ total → (fresh + one + new_keys ps qs ≡ total) × (one ≤ 1)
counted held ps qs m o none one fresh total found is e so_far = by o none is e (subst (λ o. fresh + one_more_unless o (new_keys ps qs) ≡ total) (sym found) so_far) where
  by : (o : Option Value) (none : Bool) → is_some o ≡ not none → one ≡ (if none then 1 else 0) → fresh + one_more_unless (option_in held o) (new_keys ps qs) ≡ total → (fresh + one + new_keys ps qs ≡ total) × (one ≤ 1)
  by None true is e h = (omega (arith, e, h), omega (arith, e))
  by (Some v) false is e h = (omega (arith, e, h), omega (arith, e))
  by None false is e h = absurd (search (rules, is))
  by (Some v) true is e h = absurd (search (rules, is))
