-- What a walk of struct.encode or struct.decode comes to, a part at a time, over an arena that grows.
use Rattle.std.specs.Prelude.{◌≡◌, ℕ, zero, suc, List, [], ◌∷◌, Result, IfOk}
use Rattle.ytt_base.specs.declared.fault.FaultKind.TheVariants as kind
use Rattle.ytt_base.specs.declared.fault.Place.{Place}
use Rattle.ytt_base.specs.declared.fault.Stop.{Stop}
use Rattle.ytt_base.specs.declared.text.Memory.{Memory}
use Rattle.module_spec.specs.Structs.{decoded_deeper, decoded_or, encoded_deeper, encoded_or, name_of_key}
use Rattle.star_steps.specs.Meets.{Gives, Meets, state_in}
use Rattle.star_steps.specs.declared.steps.Depth.{Depth}
use Rattle.star_values.specs.Objects.{Slots, pair_in, pairs_in, seen}
use Rattle.star_values.specs.Owns.{Each, Grows, Owns, OwnsAll, OwnsPair}
use Rattle.star_values.specs.View.{View, value_of, values_of}
use Rattle.star_values.specs.declared.value.Value.{Value as Held}
use Rattle.value_spec.specs.Outcomes.{Computation, Ending, fail, give, paid, ◌>>=◌}
use Rattle.value_spec.specs.Values.{Fields, Value, a_field, no_fields, text_value}
use Rattle.mod_basic.specs.declared.walks.Way.{Way}
use Rattle.mod_basic.specs.declared.walks.Way.TheVariants as way

abbrev pub Here : Type 0
Here = Unit {0}

-- ---- how calls end

-- The computation ends so: what it gives is owned by the arena that is left, which has grown from the one that was.
pub record GivesSeen {A B : Type 0} (view : View → A → B) (Owned : View → A → Type 0) (ending : Ending Here B) (result : Result A Stop) (a b : View) (steps : ℕ) : Type 0 where
  pub meaning : Meets (view b) result (state_in b steps) ending
  pub owns : IfOk result (Owned b)
  pub grows : Grows a b

-- A call gave the value x, which the arena that is left owns; the store stays as it was.
pub record Adds (x : Value) (result : Result Held Memory) (a b : View) : Type 0 where
  pub value : IfOk result (λ v. value_of b v ≡ x)
  pub owns : IfOk result (Owns b)
  pub store : b.store ≡ a.store
  pub grows : Grows a b

-- what a computation gives that goes on from an arena and so many steps
abbrev pub Yields : Computation Here Value → Result Held Stop → (before after : Slots) → (steps left : ℕ) → Type 0
Yields m result before after n k = Gives (m (state_in (seen before) n)) result (seen before) (seen after) k

abbrev pub OwnsPairs : View → List (Held × Held) → Type 0
OwnsPairs a ps = Each (OwnsPair a) ps

abbrev pub pairs_of : View → List (Held × Held) → List (Value × Value)
pairs_of a ps = pairs_in a.held ps

-- ---- what is converted

-- a value, where collections may stand in one another so many levels more
unfoldable pub converted : Way → (levels : ℕ) → Place → Value → Computation Here Value
converted way.Encode n p v = encoded_or (encoded_deeper n p v) p v
converted way.Decode n p v = decoded_or (decoded_deeper n p v) p v

-- a member, which takes a step
unfoldable pub member_converted : Way → (levels : ℕ) → Place → Value → Computation Here Value
member_converted w n p v = paid p (converted w n p v)

-- a pair whose key is a text: a step, the size of the text, and then the value
unfoldable pub pair_converted : Way → (levels : ℕ) → Place → Value × Value → Computation Here (Value × Value)
pair_converted w n p m = do
  x ← paid p (name_of_key p m.0)
  v ← converted w n p m.1
  give (text_value x, v)

-- one after another
abbrev pub in_turn : {T A : Type 0} → (T → Computation Here A) → List T → Computation Here (List A)
in_turn f [] = give []
in_turn f (t ∷ ts) = f t >>= λ x. in_turn f ts >>= λ xs. give (x ∷ xs)

-- the members, or the pairs, of what stands one level higher
abbrev pub within : {T A : Type 0} → ((levels : ℕ) → T → Computation Here A) → (levels : ℕ) → Place → List T → Computation Here (List A)
within f zero p ts = fail kind.TooDeep p
within f (suc n) p ts = in_turn (f n) ts

abbrev pub members_within : Way → (levels : ℕ) → Place → List Value → Computation Here (List Value)
members_within w n p vs = within (λ n. member_converted w n p) n p vs

abbrev pub pairs_within : Way → (levels : ℕ) → Place → List (Value × Value) → Computation Here (List (Value × Value))
pairs_within w n p ms = within (λ n. pair_converted w n p) n p ms

-- ---- fields and pairs

-- the text that a key is
abbrev pub name_in : Value → List ℕ
name_in (text_value t) = t
name_in v = []

-- pairs as the fields that they name
abbrev pub fields_from : List (Value × Value) → Fields
fields_from [] = no_fields
fields_from (m ∷ ms) = a_field (name_in m.0) m.1 (fields_from ms)

-- ---- what calls give of these

abbrev pub ValueDone : Way → Depth → Held → Result Held Stop → (before after : Slots) → (steps left : ℕ) → Type 0
ValueDone w at v result before after n k = Yields (converted w at.levels at.place (value_of (seen before) v)) result before after n k

abbrev pub MemberDone : Way → Depth → Held → Result Held Stop → (before after : Slots) → (steps left : ℕ) → Type 0
MemberDone w at v result before after n k = Yields (member_converted w at.levels at.place (value_of (seen before) v)) result before after n k

abbrev pub PairDone : Way → Depth → Held × Held → Result (Held × Held) Stop → (before after : Slots) → (steps left : ℕ) → Type 0
PairDone w at m result before after n k =
    GivesSeen (λ a. pair_in a.held) OwnsPair (pair_converted w at.levels at.place (pair_in (seen before).held m) (state_in (seen before) n)) result (seen before) (seen after) k

abbrev pub MembersDone : Way → Depth → List Held → Result (List Held) Stop → (before after : Slots) → (steps left : ℕ) → Type 0
MembersDone w at vs result before after n k =
    GivesSeen values_of OwnsAll (members_within w at.levels at.place (values_of (seen before) vs) (state_in (seen before) n)) result (seen before) (seen after) k

abbrev pub PairsDone : Way → Depth → List (Held × Held) → Result (List (Held × Held)) Stop → (before after : Slots) → (steps left : ℕ) → Type 0
PairsDone w at ms result before after n k =
    GivesSeen pairs_of OwnsPairs (pairs_within w at.levels at.place (pairs_of (seen before) ms) (state_in (seen before) n)) result (seen before) (seen after) k

-- a step was paid, and the size of the text that a key is
abbrev pub PaysName : View → Place → Held → Result (Unit {0}) Stop → (steps left : ℕ) → Type 0
PaysName a p key result n k = Meets (λ u. name_in (value_of a key)) result (state_in a k) (paid p (name_of_key p (value_of a key)) (state_in a n))
