-- Pairs that are gathered for a dict.
use Rattle.std.specs.Prelude.{◌≡◌, ℕ, List, [], ◌∷◌, ◌++◌, length, Option, Some, None}
use Rattle.ytt_base.specs.declared.fault.Place.{Place}
use Rattle.builtin_spec.specs.Dicts.{field_values, keys_sized, pairs_taken, put_each}
use Rattle.builtin_spec.specs.Lists.{changing, done_by}
use Rattle.star_values.specs.Objects.{pairs_in}
use Rattle.star_values.specs.Owns.{Each, Owns, OwnsPair}
use Rattle.star_values.specs.View.{View, fields_in}
use Rattle.star_values.specs.declared.value.NamedValue.{NamedValue}
use Rattle.star_values.specs.declared.value.Value.{Value}
use Rattle.text_spec.specs.Answers.{paid_operation}
use Rattle.value_spec.specs.Binding.{text_pairs}
use Rattle.value_spec.specs.Outcomes.{Computation, new_dict, ◌>>=◌}
use Rattle.value_spec.specs.Store.{put_pairs}
use Rattle.value_spec.specs.Values as plain
use Rattle.star_builtins.specs.View.{Here}

abbrev pub Pairs : Type 0
Pairs = List (plain.Value × plain.Value)

-- both parts are owned
abbrev pub OwnsBoth : View → Value × Value → Type 0
OwnsBoth a q = Owns a q.0 × Owns a q.1

abbrev pub OwnsPairs : View → Option (List (Value × Value)) → Type 0
OwnsPairs a None = Unit {0}
OwnsPairs a (Some qs) = Each (OwnsBoth a) qs

abbrev pub OwnsOnePair : View → Option (Value × Value) → Type 0
OwnsOnePair a None = Unit {0}
OwnsOnePair a (Some q) = OwnsBoth a q

-- these are the pairs of arguments by name
abbrev pub AreNamed : View → List NamedValue → List (Value × Value) → Type 0
AreNamed a ns qs = Each (OwnsPair a) qs × (pairs_in a.held qs ≡ text_pairs (fields_in a.held ns))

-- the steps of an operation on a value and arguments, and then those of keys
abbrev pub pairs_paid : Place → (first : plain.Value) → (members : ℕ) → Pairs → List plain.Value → plain.Fields → Computation Here (Unit {0})
pairs_paid p v n qs vs fs = paid_operation p (v ∷ (vs ++ field_values fs)) 0 n (keys_sized p qs)

-- `dict` and `update` of arguments that fit
abbrev pub dict_from : Place → List plain.Value → plain.Fields → Computation Here plain.Value
dict_from p vs fs = do
  qs ← pairs_taken p vs fs
  u ← pairs_paid p plain.none_value (length (put_pairs [] qs)) qs vs fs
  new_dict (put_pairs [] qs)

abbrev pub update_from : ℕ → Place → List plain.Value → plain.Fields → Computation Here plain.Value
update_from r p vs fs = changing p r (do
  qs ← pairs_taken p vs fs
  u ← pairs_paid p (plain.dict_value r) 0 qs vs fs
  done_by (put_each p r qs))

-- these pairs, and behind them others if there are such
abbrev pub pairs_then : Pairs → Option Pairs → Option Pairs
pairs_then qs None = None
pairs_then qs (Some rs) = Some (qs ++ rs)
