-- A new dict, or none.
use Rattle.std.proofs.Common.{◌≡◌, List, Result, Ok, Err, IfOk, OnErr, OnOk, length, sym, ap, subst, ◌∙◌}
use Rattle.ytt_base.specs.declared.text.Memory.{Memory}
use Rattle.object_arena.specs.Made.{MakesObject}
use Rattle.value_spec.specs.Store.{with_object}
use Rattle.value_spec.specs.Values as plain
use Rattle.value_spec.specs.Values.{dict_value, of_dict}
use Rattle.star_values.specs.Owns.{Grows}
use Rattle.star_values.specs.View.{View, value_of}
use Rattle.star_values.specs.declared.value.Value.{Value}
use Rattle.star_values.proofs.Growing.{grows_then}
use Rattle.star_calls.specs.Left.{MakesDict}

abbrev Pairs : Type 0
Pairs = List (plain.Value × plain.Value)

pub made_none : (ps : Pairs) (m : Memory) (r : Result Value Memory) (a b : View) → r ≡ Err m → b.store ≡ a.store → Grows a b → MakesDict ps r a b
made_none ps m r a b e same g = subst (λ r. MakesDict ps r a b) (sym e) (record { value = tt; owns = tt; store = tt; kept = same; grows = g })

still : (r : Result Value Memory) (a b d : View) → b.store ≡ a.store → OnErr r (d ≡ b) → OnErr r (d.store ≡ a.store)
still (Ok v) a b d e h = tt
still (Err m) a b d e h = ap (λ (d : View). d.store) h ∙ e

pub made_all : (ps qs : Pairs) (r : Result Value Memory) (a b d : View) → MakesObject (dict_value (length b.store)) (of_dict qs) r b d → qs ≡ ps → b.store ≡ a.store → Grows a b → MakesDict ps r a d
made_all ps qs r a b d m q e g = record {
  value = subst (λ st. IfOk r (λ v. value_of d v ≡ dict_value (length st))) e m.value;
  owns = m.owns;
  store = subst (λ st. OnOk r (d.store ≡ st)) (λ i. with_object (of_dict (q i)) (e i)) m.store;
  kept = still r a b d e m.err;
  grows = grows_then a b d g m.grows;
}
