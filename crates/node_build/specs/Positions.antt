-- Where an item with a key stands or comes, and which keys are known.
use Rattle.std.specs.Prelude.{◌≡◌, ◌<◌, ℕ, ◌+◌, ◌-◌, Bool, true, false, ◌||◌, List, [], ◌∷◌, ◌++◌, length, take, slice_set, Option, Some, None, Result}
use Rattle.ytt_base.specs.declared.fault.Stop.{Stop}
use Rattle.ytt_base.specs.declared.tree.Key.{Key}
use Rattle.value_spec.specs.Outcomes.{Computation}
use Rattle.value_spec.specs.Values as plain
use Rattle.value_spec.specs.Values.{Children}
use Rattle.ytt_base.specs.declared.fault.Fault.{Fault}
use Rattle.ytt_base.specs.declared.fault.FaultKind.{FaultKind}
use Rattle.ytt_base.specs.declared.fault.Place.{Place}
use Rattle.ytt_base.specs.Trees.{Scalar}
use Rattle.star_values.specs.View.{built_in, child_in, scalar_key}
use Rattle.star_values.specs.declared.value.BuiltNote.{BuiltNote}
use Rattle.yaml_keys.specs.declared.seen.Seen.{Seen}
use Rattle.yaml_keys.specs.Seen.{is_seen}
use Rattle.template_meaning.specs.Adding.{add_child, keys_equal}
use Rattle.node_build.specs.Parts.{Tells}
use Rattle.star_values.specs.declared.value.BuiltItem.{BuiltItem}
use Rattle.node_build.specs.declared.place.Spot.{Spot}
use Rattle.node_build.specs.declared.place.Spot.TheVariants as spot
use Rattle.node_build.specs.declared.place.Undo.{Undo}
use Rattle.node_build.specs.declared.place.Undo.TheVariants as undo

-- so many further on
abbrev pub further : ℕ → Option ℕ → Option ℕ
further n None = None
further n (Some m) = Some (n + m)

abbrev pub here_or : Bool → Option ℕ → Option ℕ
here_or true o = Some 0
here_or false o = further 1 o

-- the first item with this key
abbrev pub position_of : Option Scalar → List BuiltItem → Option ℕ
position_of x [] = None
position_of x (i ∷ is) = here_or (keys_equal (scalar_key i.key) x) (position_of x is)

-- an item has this key
abbrev pub stands : Scalar → List BuiltItem → Bool
stands x [] = false
stands x (i ∷ is) = keys_equal (scalar_key i.key) (Some x) || stands x is

-- a key that isn't in the set is no item's
abbrev pub AreKnown : Seen → List BuiltItem → Type 0
AreKnown keys items = (x : Scalar) → is_seen x keys ≡ false → stands x items ≡ false

-- a key, if there is one, is in the set
abbrev pub is_known : Option Scalar → Seen → Bool
is_known None keys = false
is_known (Some x) keys = is_seen x keys

abbrev pub fault_with : FaultKind → Place → (detail : List ℕ) → Fault
fault_with kind place detail = record { kind = kind; place = Some place; detail = detail }

-- what is in items then is what the computation gives
abbrev pub Leaves : Result (Unit {0}) Stop → List BuiltItem → ((held : List plain.Value) → Computation (Unit {0}) Children) → Type 0
Leaves result is m = (held : List plain.Value) → Tells (λ u. built_in held is) result (m held)

-- ---- where an item comes

-- the items with one behind them, or in the place of another
abbrev pub placed : Spot → BuiltItem → List BuiltItem → List BuiltItem
placed spot.Behind item is = is ++ item ∷ []
placed (spot.At i) item is = slice_set is i item

abbrev pub Stands : Spot → List BuiltItem → Type 0
Stands spot.Behind is = Unit {0}
Stands (spot.At i) is = i < length is

-- the items before one was placed
abbrev pub undone_one : Undo → List BuiltItem → List BuiltItem
undone_one undo.Behind is = take (length is - 1) is
undone_one (undo.At i item) is = slice_set is i item

-- before each of these was placed, the last one last
abbrev pub undone : List Undo → List BuiltItem → List BuiltItem
undone [] is = is
undone (u ∷ us) is = undone_one u (undone us is)

-- where each item with this place, key and notes comes
abbrev pub Finds : Place → Option Key → List BuiltNote → List BuiltItem → Result Spot Stop → Type 0
Finds p k ns is result =
    (held : List plain.Value) (item : BuiltItem) → item.place ≡ p → item.key ≡ k → item.notes ≡ ns →
    Tells (λ spot. built_in held (placed spot item is)) result (add_child (built_in held is) (child_in held item))
