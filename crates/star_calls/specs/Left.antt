-- What is left for the parameters that are still to come, and how what a call returned stands to the values that they get.
use Rattle.std.specs.Prelude.{◌≡◌, ◌++◌, ◌∷◌, ℕ, Bool, false, Result, Ok, Err, IfOk, OnErr, OnOk, length, Option, is_some, List, []}
use Rattle.ytt_base.specs.declared.fault.FaultKind.TheVariants as kind
use Rattle.ytt_base.specs.declared.fault.Place.{Place}
use Rattle.ytt_base.specs.declared.fault.Stop.{Stop}
use Rattle.ytt_base.specs.declared.fault.Stop.TheVariants as stop
use Rattle.ytt_base.specs.declared.text.Memory.{Memory}
use Rattle.code_spec.specs.Code.{Name, Parameters}
use Rattle.value_spec.specs.Values as plain
use Rattle.value_spec.specs.Values.{Fields, dict_value, no_fields, no_values, of_dict, values_from}
use Rattle.value_spec.specs.Store.{with_object}
use Rattle.value_spec.specs.Outcomes.{Computation, Ending, State, bad, give, or_fail, ◌>>=◌}
use Rattle.value_spec.specs.Binding.{bound, field_of, has_twice, in_front, or_default, unless_named, values_given, without_field}
use Rattle.star_values.specs.Owns.{Grows, Owns, OwnsAll, OwnsFields}
use Rattle.star_values.specs.View.{View, fields_in, value_of, values_of}
use Rattle.star_values.specs.declared.value.Value.{Value}
use Rattle.star_steps.specs.Meets.{Meets, state_in}
use Rattle.star_calls.specs.declared.left.Left.{Left}

-- the arguments by position, the defaults and the arguments by name that are left, and the values that were got
pub record Rest : Type 0 where
  pub positions : List plain.Value
  pub defaults : List plain.Value
  pub named : Fields
  pub got : List plain.Value

abbrev pub rest_of : View → Left → Rest
rest_of a l = record { positions = values_of a l.positions.now; defaults = values_of a l.defaults.now; named = fields_in a.held l.named; got = values_of a l.got }

-- it stands in the arena, and no name stands twice
pub record OwnsRest (a : View) (l : Left) : Type 0 where
  pub positions : OwnsAll a l.positions.now
  pub defaults : OwnsAll a l.defaults.now
  pub named : OwnsFields a l.named
  pub got : OwnsAll a l.got
  pub once : has_twice (fields_in a.held l.named) ≡ false

-- the values that were got, and behind them those of the parameters
abbrev pub completed : Place → Parameters → Rest → Computation (Unit {0}) (List plain.Value)
completed p ps r = do
  bs ← or_fail kind.ArgBind p (bound ps r.defaults (values_from r.positions) r.named)
  vs ← values_given bs
  give (r.got ++ vs)

-- parameters get values where no argument is left for them
abbrev pub need_nothing : Parameters → (defaults : List plain.Value) → Bool
need_nothing ps ds = is_some (bound ps ds no_values no_fields)

-- ---- one parameter

-- what a parameter of this name gets: an argument by position, or the one of its name, or its default
abbrev pub got_by : Name → (default : Option plain.Value) → (positions : List plain.Value) → Fields → Option plain.Value
got_by x d [] fs = or_default (field_of x fs) d
got_by x d (v ∷ vs) fs = unless_named x v fs

-- what it leaves
abbrev pub positions_behind : List plain.Value → List plain.Value
positions_behind [] = []
positions_behind (v ∷ vs) = vs

abbrev pub named_behind : Name → (positions : List plain.Value) → Fields → Fields
named_behind x [] fs = without_field x fs
named_behind x (v ∷ vs) fs = fs

abbrev pub rest_behind : Name → Rest → Rest
rest_behind x r = record r { positions = positions_behind r.positions; named = named_behind x r.positions r.named }

-- what a parameter of this name with this default gets behind the values that were got, and behind that the values of the parameters
abbrev pub taken : Place → Name → (default : Option plain.Value) → Parameters → Rest → Computation (Unit {0}) (List plain.Value)
taken p x d ps r = do
  bs ← or_fail kind.ArgBind p (in_front x (got_by x d r.positions r.named) (bound ps r.defaults (values_from (positions_behind r.positions)) (named_behind x r.positions r.named)))
  vs ← values_given bs
  give (r.got ++ vs)

-- ---- what calls return

-- a parameter was filled: what was to be completed is what is to be completed after it; or it ends in this refusal
abbrev pub Fills : Result (Unit {0}) Stop → (whole after : Ending (Unit {0}) (List plain.Value)) → State (Unit {0}) → Type 0
Fills (Ok u) whole after s = whole ≡ after
Fills (Err (stop.Fault f)) whole after s = whole ≡ bad f s
Fills (Err stop.Memory) whole after s = Unit {0}

-- The computation ends so: the arena that is left, which has grown from the one that was, owns its values.
pub record GivesAll (ending : Ending (Unit {0}) (List plain.Value)) (result : Result (List Value) Stop) (a b : View) (steps : ℕ) : Type 0 where
  pub meaning : Meets (values_of b) result (state_in b steps) ending
  pub owns : IfOk result (OwnsAll b)
  pub grows : Grows a b

-- It gives a new dict of these pairs.
pub record MakesDict (ps : List (plain.Value × plain.Value)) (result : Result Value Memory) (a b : View) : Type 0 where
  pub value : IfOk result (λ v. value_of b v ≡ dict_value (length a.store))
  pub owns : IfOk result (Owns b)
  pub store : OnOk result (b.store ≡ with_object (of_dict ps) a.store)
  pub kept : OnErr result (b.store ≡ a.store)
  pub grows : Grows a b
