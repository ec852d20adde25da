-- What JSON values, trees and items are, a member after another, where collections may stand in one another so many levels more.
use Rattle.std.specs.Prelude.{ℕ, zero, suc, List, [], ◌∷◌, length, Option, Some, None, Result, String, string_bytes}
use Rattle.std.specs.declared.alloc.Global.{Global}
use Rattle.std.specs.declared.vec.Vec.{Vec}
use Rattle.ytt_base.specs.declared.fault.FaultKind.TheVariants as kind
use Rattle.ytt_base.specs.declared.fault.Place.{Place}
use Rattle.ytt_base.specs.declared.fault.Stop.{Stop}
use Rattle.ytt_base.specs.declared.tree.Key.{Key}
use Rattle.ytt_base.specs.declared.tree.Tree.{Tree}
use Rattle.ytt_base.specs.View.{key_of, tree_of}
use Rattle.code_spec.specs.Code.{Name}
use Rattle.serde_json.specs.Data as json
use Rattle.serde_json.specs.Data.{Data, Items, no_items, item, Members, no_members, put}
use Rattle.serde_json.specs.View.{items_view, view}
use Rattle.serde_json.specs.declared.value.Value.{Value as Json}
use Rattle.value_spec.specs.Keys.{text_cost}
use Rattle.value_spec.specs.Outcomes.{Computation, State, fail, give, paid, paid_by, ◌>>=◌}
use Rattle.value_spec.specs.Values.{Value}
use Rattle.value_spec.specs.Values as plain
use Rattle.star_steps.specs.Meets.{Meets, state_in}
use Rattle.star_values.specs.View.{View, body_in, scalar_key as key_in}
use Rattle.star_values.specs.declared.value.BuiltItem.{BuiltItem}
use Rattle.module_spec.specs.JsonCodec.{body_data, child_key, deeper_data, key_data, outer_data, scalar_key, tree_data}

abbrev pub Gives : Type 0 → Type 0
Gives A = Computation (Unit {0}) A

-- What a call returned is how a computation ends, over an arena with so many steps before it and after it; want of memory says nothing.
abbrev pub Spends : {A B : Type 0} → (A → B) → Result A Stop → View → (before after : ℕ) → Gives B → Type 0
Spends of result a before after m = Meets of result (state_in a after) (m (state_in a before))

-- the same of a computation that leaves each state as it is
abbrev pub Tells : {A B : Type 0} → (A → B) → Result A Stop → Gives B → Type 0
Tells of result m = (state : State (Unit {0})) → Meets of result state (m state)

-- ---- keys

-- a text, after its cost
abbrev pub text_paid : Place → (text : List ℕ) → Gives Name
text_paid p t = paid_by (text_cost (length t)) p (give t)

-- a key, where it is a text
abbrev pub key_text : Place → Option Name → Gives Name
key_text p None = fail kind.CodecForm p
key_text p (Some t) = text_paid p t

-- ---- members one after another

module _ {X : Type 0} where
  abbrev pub each_item : (X → Gives Data) → List X → Gives Items
  each_item f [] = give no_items
  each_item f (x ∷ xs) = f x >>= λ d. each_item f xs >>= λ ds. give (item d ds)

  abbrev pub each_member : (X → Gives (Name × Data)) → List X → Gives Members
  each_member f [] = give no_members
  each_member f (x ∷ xs) = f x >>= λ m. each_member f xs >>= λ ms. give (put m.0 m.1 ms)

  -- an array, and an object, whose members are converted one level down
  abbrev pub array_of : (ℕ → X → Gives Data) → (levels : ℕ) → Place → List X → Gives Data
  array_of f zero p xs = fail kind.TooDeep p
  array_of f (suc n) p xs = each_item (f n) xs >>= λ ds. give (json.array ds)

  abbrev pub object_of : (ℕ → X → Gives (Name × Data)) → (levels : ℕ) → Place → List X → Gives Data
  object_of f zero p xs = fail kind.TooDeep p
  object_of f (suc n) p xs = each_member (f n) xs >>= λ ms. give (json.object ms)

-- a key, and what stands under it
abbrev pub under : (key : Gives Name) → Gives Data → Gives (Name × Data)
under key m = key >>= λ k. m >>= λ d. give (k, d)

-- ---- values

abbrev pub value_data : (levels : ℕ) → Place → Value → Gives Data
value_data n p v = outer_data (deeper_data n p v) p v

abbrev pub value_item : Place → (levels : ℕ) → Value → Gives Data
value_item p n v = paid p (value_data n p v)

abbrev pub value_member : Place → (levels : ℕ) → Value × Value → Gives (Name × Data)
value_member p n m = under (paid p (key_data p m.0)) (value_data n p m.1)

-- ---- trees

abbrev pub tree_item : Place → (levels : ℕ) → Tree → Gives Data
tree_item p n t = paid p (tree_data p n (tree_of t))

abbrev pub tree_member : Place → (levels : ℕ) → Key × Tree → Gives (Name × Data)
tree_member p n e = under (paid p (scalar_key p (key_of e.0))) (tree_data p n (tree_of e.1))

-- ---- items

abbrev pub built_item : (held : List plain.Value) → Place → (levels : ℕ) → BuiltItem → Gives Data
built_item held p n i = paid p (body_data p n (body_in held i.value))

abbrev pub built_member : (held : List plain.Value) → Place → (levels : ℕ) → BuiltItem → Gives (Name × Data)
built_member held p n i = under (paid p (child_key p (key_in i.key))) (body_data p n (body_in held i.value))

-- ---- of the code

abbrev pub Entry : Type 0
Entry = String Global × Json

abbrev pub member_seen : Entry → Name × Data
member_seen e = (string_bytes e.0, view e.1)

abbrev pub items_seen : Vec Json Global → Items
items_seen v = items_view v.items

-- these entries put into members, the last one first
abbrev pub put_each : List Entry → Members → Members
put_each [] ms = ms
put_each (e ∷ es) ms = put (string_bytes e.0) (view e.1) (put_each es ms)

abbrev pub entries_seen : Vec Entry Global → Members
entries_seen v = put_each v.items no_members
