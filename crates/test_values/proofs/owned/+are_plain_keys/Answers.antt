use Rattle.std.proofs.Common.{◌≤◌, ◌-◌, List, [], ◌∷◌, length, get_or, take, drop, refl, subst, arith}
use Rattle.std.proofs.lemmas.List.{take_all}
use Rattle.value_spec.specs.Keys.{AreKeys, IsKey}
use Rattle.value_spec.specs.Values.{values_from}
use Rattle.star_values.specs.declared.value.Value.{Value}
use Rattle.star_values.specs.declared.value.Value.TheVariants as value
use Rattle.star_values.specs.View.{View, value_of, values_of}
use Rattle.test_values.proofs.owned.+are_plain_keys.Goals as goal

-- the first is a key, and the others are
keys_joined : (a : View) (vs : List Value) → 1 ≤ length vs → IsKey (value_of a (get_or vs 0 value.None)) → AreKeys (values_from (values_of a (take (length vs - 1) (drop 1 vs)))) → AreKeys (values_from (values_of a vs))
keys_joined a [] h k ks = absurd (omega (arith, h))
keys_joined a (v ∷ vs) h k ks = (k, subst (λ (l : List Value). AreKeys (values_from (values_of a l))) (take_all (length (v ∷ vs) - 1) vs (omega arith)) ks)

pub returns-then-is_plain_key : goal.returns-then-is_plain_key
returns-then-is_plain_key t c = λ (a : View). λ yes. keys_joined a c.args.values.now c.in-len1-up.len_at_least (c.if-is_plain_key.ensures a refl) (c.are_plain_keys.ensures a yes)
