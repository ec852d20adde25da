-- How the arguments of a call are bound to parameters.
use Rattle.std.specs.Prelude.{Bool, false, ◌||◌, List, [], ◌∷◌, Option, Some, None, if◌then◌else◌, bytes_eq, codes}
use Rattle.ytt_base.specs.declared.fault.FaultKind.TheVariants as kind
use Rattle.ytt_base.specs.declared.fault.Place.{Place}
use Rattle.ytt_base.specs.Outcomes.{first_place}
use Rattle.code_spec.specs.Code.{Expr, name, Name, Parameters, no_parameters, required, defaulted, bare_star, starred_parameter, double_starred_parameter}
use Rattle.value_spec.specs.Values.{Value, none_value, text_value, tuple_value, dict_value, Values, no_values, a_value, Fields, no_fields, a_field, Arguments, arguments, of_dict}
use Rattle.value_spec.specs.Outcomes.{Computation, give, or_fail, new_object, ◌>>=◌}

-- ---- arguments by name

abbrev pub field_of : Name → Fields → Option Value
field_of x no_fields = None
field_of x (a_field y v fs) = if bytes_eq x y then Some v else field_of x fs

abbrev pub without_field : Name → Fields → Fields
without_field x no_fields = no_fields
without_field x (a_field y v fs) = if bytes_eq x y then fs else a_field y v (without_field x fs)

abbrev pub has_field : Name → Fields → Bool
has_field x no_fields = false
has_field x (a_field y v fs) = bytes_eq x y || has_field x fs

-- a name is given twice
abbrev pub has_twice : Fields → Bool
has_twice no_fields = false
has_twice (a_field x v fs) = has_field x fs || has_twice fs

abbrev pub or_default : Option Value → Option Value → Option Value
or_default None d = d
or_default (Some v) d = Some v

-- ---- parameters

-- what a parameter gets: a value, or a dict of the arguments by name that are left
pub data Given : Type 0 where
  given : Value → Given
  rest_given : Fields → Given

abbrev pub in_front : Name → Option Value → Option (List (Name × Given)) → Option (List (Name × Given))
in_front x (Some v) (Some more) = Some ((x, given v) ∷ more)
in_front x _ _ = None

-- the arguments by name that are left, in front
abbrev pub rest_in_front : Name → Fields → Option (List (Name × Given)) → Option (List (Name × Given))
rest_in_front x fs None = None
rest_in_front x fs (Some more) = Some ((x, rest_given fs) ∷ more)

-- an argument by position, which none by name may repeat
abbrev pub unless_named : Name → Value → Fields → Option Value
unless_named x v fs = if has_field x fs then None else Some v

-- The parameters with what they get: arguments by position first, then those by name, then defaults; nothing where one
-- gets none or an argument has no parameter. A star takes the positions that are left, or none may be left; two stars take
-- the arguments by name that are left, and what stands behind them gets none.
abbrev pub bound : Parameters → (defaults : List Value) → Values → Fields → Option (List (Name × Given))
bound no_parameters ds no_values no_fields = Some []
bound no_parameters ds _ _ = None
bound (required x ps) ds (a_value v vs) fs = in_front x (unless_named x v fs) (bound ps ds vs fs)
bound (required x ps) ds no_values fs = in_front x (field_of x fs) (bound ps ds no_values (without_field x fs))
bound (defaulted x e ps) [] vs fs = None
bound (defaulted x e ps) (d ∷ ds) (a_value v vs) fs = in_front x (unless_named x v fs) (bound ps ds vs fs)
bound (defaulted x e ps) (d ∷ ds) no_values fs = in_front x (or_default (field_of x fs) (Some d)) (bound ps ds no_values (without_field x fs))
bound (bare_star ps) ds (a_value v vs) fs = None
bound (bare_star ps) ds no_values fs = bound ps ds no_values fs
bound (starred_parameter x ps) ds vs fs = in_front x (Some (tuple_value vs)) (bound ps ds no_values fs)
bound (double_starred_parameter x ps) ds (a_value v vs) fs = None
bound (double_starred_parameter x ps) ds no_values fs = rest_in_front x fs (bound ps ds no_values no_fields)

-- no name may be given twice
abbrev pub all_bound : Parameters → (defaults : List Value) → Arguments → Option (List (Name × Given))
all_bound ps ds (arguments vs fs) = if has_twice fs then None else bound ps ds vs fs

-- ---- the values

abbrev pub text_pairs : Fields → List (Value × Value)
text_pairs no_fields = []
text_pairs (a_field x v fs) = (text_value x, v) ∷ text_pairs fs

abbrev pub value_given : {H : Type 0} → Given → Computation H Value
value_given (given v) = give v
value_given (rest_given fs) = new_object (of_dict (text_pairs fs)) >>= λ r. give (dict_value r)

-- the values that parameters get, in their order; the arguments by name that are left are a new dict
abbrev pub values_given : {H : Type 0} → List (Name × Given) → Computation H (List Value)
values_given [] = give []
values_given (b ∷ bs) = do
  v ← value_given b.1
  vs ← values_given bs
  give (v ∷ vs)

-- the values that the parameters of a call get
abbrev pub bound_values : {H : Type 0} → Place → Parameters → (defaults : List Value) → Arguments → Computation H (List Value)
bound_values p ps ds vs = or_fail kind.ArgBind p (all_bound ps ds vs) >>= values_given

-- ---- parameters of the language's own functions

-- None, which an argument has that isn't given
abbrev pub none_given : Expr
none_given = name first_place (codes "None")

abbrev pub optional_parameters : List Name → Parameters
optional_parameters [] = no_parameters
optional_parameters (x ∷ xs) = defaulted x none_given (optional_parameters xs)

-- as those of a function: these must be given, and those may be
abbrev pub parameters_named : (needed optional : List Name) → Parameters
parameters_named [] ys = optional_parameters ys
parameters_named (x ∷ xs) ys = required x (parameters_named xs ys)

abbrev pub none_for_each : List Name → List Value
none_for_each [] = []
none_for_each (x ∷ xs) = none_value ∷ none_for_each xs
