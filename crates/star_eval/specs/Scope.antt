-- The boxes of names, and scopes.
use Rattle.std.specs.Prelude.{ℕ, List, Option, Some, None}
use Rattle.code_spec.specs.Code.{Name}
use Rattle.star_spec.specs.Names.{box_of, fill_box}
use Rattle.star_values.specs.Objects.{env_in}
use Rattle.star_values.specs.Owns.{OwnsObjectRef}
use Rattle.star_values.specs.View.{View}
use Rattle.star_values.specs.declared.object.NamedBox.{NamedBox}
use Rattle.star_values.specs.declared.value.Ref.{Ref}
use Rattle.star_values.specs.declared.value.Sort.TheVariants as sort
use Rattle.value_spec.specs.Outcomes.{Computation, or_ill_formed, ◌>>=◌}
use Rattle.value_spec.specs.Values.{Env, Value}
use Rattle.star_eval.specs.Meets.{Here, arena_of}
use Rattle.star_eval.specs.declared.session.Session.{Session}

abbrev pub position_of : Option Ref → Option ℕ
position_of None = None
position_of (Some r) = Some r.at

-- a box that was found is there
abbrev pub OwnsBox : View → Option Ref → Type 0
OwnsBox a None = Unit {0}
OwnsBox a (Some r) = OwnsObjectRef a sort.Box r

-- a name that is bound in a scope gets this value
abbrev pub name_bound : Name → Value → Env → Computation Here (Unit {0})
name_bound x v env = or_ill_formed (box_of x env) >>= λ r. fill_box r v

-- the variables of a scope
abbrev pub variables_in : Session → List NamedBox → Env
variables_in session scope = env_in (arena_of session).held scope
