-- Arguments of a call or a note, one behind another.
use Rattle.ytt_base.specs.declared.fault.Place.{Place}
use Rattle.code_spec.specs.Code.{Name}
use Rattle.builtin_spec.specs.Sorting.{members_taken}
use Rattle.star_spec.specs.Eval.{spread_fields}
use Rattle.value_spec.specs.Outcomes.{Computation, give, ◌>>=◌}
use Rattle.value_spec.specs.Values.{Arguments, arguments, Fields, no_fields, a_field, Value, Values, no_values, a_value, values_from}

abbrev pub none_given : Arguments
none_given = arguments no_values no_fields

abbrev pub values_behind : Values → Values → Values
values_behind no_values ws = ws
values_behind (a_value v vs) ws = a_value v (values_behind vs ws)

abbrev pub fields_behind : Fields → Fields → Fields
fields_behind no_fields gs = gs
fields_behind (a_field x v fs) gs = a_field x v (fields_behind fs gs)

-- arguments, and others behind them
abbrev pub both : Arguments → Arguments → Arguments
both (arguments vs fs) (arguments ws gs) = arguments (values_behind vs ws) (fields_behind fs gs)

-- how an argument stands in a call or a note: by its place, by its name, as `*e`, or as `**e`
pub data Form : Type 0 where
  positional : Form
  by_name : Name → Form
  star : Place → Form
  two_stars : Place → Form

-- what one argument gives; of a range's numbers there are no more than steps are left
abbrev pub one_argument : {H : Type 0} → Form → Value → Computation H Arguments
one_argument positional v = give (arguments (a_value v no_values) no_fields)
one_argument (by_name x) v = give (arguments no_values (a_field x v no_fields))
one_argument (star p) v = members_taken p v >>= λ vs. give (arguments (values_from vs) no_fields)
one_argument (two_stars p) v = spread_fields p v >>= λ fs. give (arguments no_values fs)

-- the arguments that are given, and this one behind them
abbrev pub and_argument : {H : Type 0} → Form → Value → Arguments → Computation H Arguments
and_argument f v given = one_argument f v >>= λ mine. give (both given mine)
