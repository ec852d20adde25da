-- The boxes of names.
use Rattle.std.specs.Prelude.{◌≡◌, ℕ, ◌++◌, List, [], length, Result, IfOk}
use Rattle.ytt_base.specs.declared.fault.Stop.{Stop}
use Rattle.code_spec.specs.Code.{Name}
use Rattle.value_spec.specs.Outcomes.{Ending}
use Rattle.value_spec.specs.Values as plain
use Rattle.value_spec.specs.Values.{Env}
use Rattle.star_resolve.specs.Frames.{boxed, unset_boxes}
use Rattle.star_steps.specs.Meets.{Meets, state_in}
use Rattle.star_values.specs.Objects.{env_in}
use Rattle.star_values.specs.Owns.{Grows, OwnsEnv}
use Rattle.star_values.specs.View.{View, values_of}
use Rattle.star_values.specs.declared.object.NamedBox.{NamedBox}
use Rattle.star_values.specs.declared.value.Value.{Value}

-- Each name has got a new box without a value, in the order of the names.
pub record Opens (names : List Name) (before after : View) (scope : List NamedBox) : Type 0 where
  pub env : env_in after.held scope ≡ boxed (length before.store) names []
  pub owned : OwnsEnv after scope
  pub store : after.store ≡ before.store ++ unset_boxes (length names)

-- these are the variables that stood around a function, and the values of its defaults
pub record IsOf (a : View) (g : plain.Function) (around : List NamedBox) (values : List Value) : Type 0 where
  pub env : env_in a.held around ≡ g.env
  pub defaults : values_of a values ≡ g.defaults

-- The computation ends so: the arena that is left, which has grown from the one that was, owns the variables of its scope.
pub record GivesScope (ending : Ending (Unit {0}) Env) (result : Result (List NamedBox) Stop) (a b : View) (steps : ℕ) : Type 0 where
  pub meaning : Meets (env_in b.held) result (state_in b steps) ending
  pub owns : IfOk result (OwnsEnv b)
  pub grows : Grows a b
