-- What the code's functions and methods are in the definitions.
use Rattle.std.specs.Prelude.{ℕ, Bool, false, List, [], ◌∷◌, codes, map as each, if◌then◌else◌}
use Rattle.std.specs.Borrow.{Bor}
use Rattle.ytt_base.specs.declared.fault.FaultKind.TheVariants as kind
use Rattle.ytt_base.specs.declared.fault.Place.{Place}
use Rattle.builtin_spec.specs.Binding.{Own, is_given, taking}
use Rattle.builtin_spec.specs.Builtins.{absolute_row, all_integers, all_true, enumerate_row, failure_row, field_names_row, get_attribute_row, has_attribute_row, integer_row, length_row, list_row, range_from, range_row, reversed_row, some_true, test_row, text_given, truth_row, tuple_row, type_name, zip_row}
use Rattle.builtin_spec.specs.Calls.{own_method}
use Rattle.builtin_spec.specs.Dicts.{dict_row, get_row, listing_row, pair_value, pop_key_row, popitem_row, setdefault_row, update_row}
use Rattle.builtin_spec.specs.Lists.{append_row, clear_row, extending_row, index_of_row, insert_row, pop_row, remove_row}
use Rattle.code_spec.specs.Code.{Name}
use Rattle.operator_spec.specs.Operators.{tuple_of}
use Rattle.text_spec.specs.Shown.{repr_of, str_of}
use Rattle.text_spec.specs.Signatures.{value_at}
use Rattle.value_spec.specs.Outcomes.{Computation, fail, give, new_list, or_fail, ◌>>=◌}
use Rattle.value_spec.specs.Values as plain
use Rattle.value_spec.specs.Values.{Arguments, dict_value, list_value, text_value}
use Rattle.star_values.specs.Owns.{Owns}
use Rattle.star_values.specs.View.{View, value_of}
use Rattle.star_values.specs.declared.value.Value.TheVariants as value
use Rattle.star_builtins.specs.declared.calls.Own as held_own
use Rattle.star_builtins.specs.declared.calls.Own.TheVariants as own
use Rattle.star_builtins.specs.declared.table.Bound.{Bound}
use Rattle.star_builtins.specs.declared.table.Bound.TheVariants as bound
use Rattle.star_builtins.specs.declared.table.Builtin.{Builtin}
use Rattle.star_builtins.specs.declared.table.Builtin.TheVariants as which
use Rattle.star_builtins.specs.declared.table.DictMethod.{DictMethod}
use Rattle.star_builtins.specs.declared.table.DictMethod.TheVariants as of_dict
use Rattle.star_builtins.specs.declared.table.ListMethod.{ListMethod}
use Rattle.star_builtins.specs.declared.table.ListMethod.TheVariants as of_list
use Rattle.star_builtins.specs.declared.table.Named.{Named}
use Rattle.star_builtins.specs.declared.table.Named.TheVariants as named
use Rattle.star_builtins.specs.declared.table.NamedOfDict.{NamedOfDict}
use Rattle.star_builtins.specs.declared.table.NamedOfDict.TheVariants as named_of_dict

abbrev pub Here : Type 0
Here = Unit {0}

-- ---- parameters

abbrev pub one : List Name
one = codes "x" ∷ []

abbrev pub function_needs : Builtin → List Name
function_needs which.Bool = []
function_needs which.List = []
function_needs which.Tuple = []
function_needs which.HasAttr = codes "x" ∷ codes "name" ∷ []
function_needs which.GetAttr = codes "x" ∷ codes "name" ∷ []
function_needs b = one

abbrev pub function_may_have : Builtin → List Name
function_may_have which.Bool = one
function_may_have which.List = one
function_may_have which.Tuple = one
function_may_have which.Int = codes "base" ∷ []
function_may_have which.Enumerate = codes "start" ∷ []
function_may_have which.GetAttr = codes "default" ∷ []
function_may_have b = []

abbrev pub list_method_needs : ListMethod → List Name
list_method_needs of_list.Clear = []
list_method_needs of_list.Insert = codes "i" ∷ codes "x" ∷ []
list_method_needs of_list.Pop = []
list_method_needs m = one

abbrev pub list_method_may_have : ListMethod → List Name
list_method_may_have of_list.Index = codes "from" ∷ codes "to" ∷ []
list_method_may_have of_list.Pop = codes "i" ∷ []
list_method_may_have m = []

abbrev pub dict_method_needs : DictMethod → List Name
dict_method_needs of_dict.Get = codes "k" ∷ []
dict_method_needs of_dict.Pop = codes "k" ∷ []
dict_method_needs of_dict.SetDefault = codes "k" ∷ []
dict_method_needs m = []

abbrev pub dict_method_may_have : DictMethod → List Name
dict_method_may_have of_dict.Get = codes "d" ∷ []
dict_method_may_have of_dict.Pop = codes "d" ∷ []
dict_method_may_have of_dict.SetDefault = codes "d" ∷ []
dict_method_may_have m = []

abbrev pub needed_of : Bound → List Name
needed_of (bound.Function b) = function_needs b
needed_of (bound.OfList m r) = list_method_needs m
needed_of (bound.OfDict m r) = dict_method_needs m

abbrev pub optional_of : Bound → List Name
optional_of (bound.Function b) = function_may_have b
optional_of (bound.OfList m r) = list_method_may_have m
optional_of (bound.OfDict m r) = dict_method_may_have m

-- whether the argument is given that tells what a call does where it isn't
abbrev pub given_to_function : Builtin → Arguments → Bool
given_to_function which.List args = is_given 0 (codes "x") args
given_to_function which.Tuple args = is_given 0 (codes "x") args
given_to_function which.Int args = is_given 1 (codes "base") args
given_to_function which.GetAttr args = is_given 2 (codes "default") args
given_to_function b args = false

abbrev pub given_to_list_method : ListMethod → Arguments → Bool
given_to_list_method of_list.Pop args = is_given 0 (codes "i") args
given_to_list_method m args = false

abbrev pub given_to_dict_method : DictMethod → Arguments → Bool
given_to_dict_method of_dict.Pop args = is_given 1 (codes "d") args
given_to_dict_method m args = false

abbrev pub was_given : Bound → Arguments → Bool
was_given (bound.Function b) args = given_to_function b args
was_given (bound.OfList m r) args = given_to_list_method m args
was_given (bound.OfDict m r) args = given_to_dict_method m args

-- ---- rows

-- a range by its start, its end and its step
abbrev pub of_integers : Place → (from to step : plain.Value) → Computation Here plain.Value
of_integers p a b d = or_fail kind.ValueKind p (all_integers (a ∷ b ∷ d ∷ [])) >>= range_from p

-- what a function gives for the values of its parameters
abbrev pub function_gives : Builtin → (given : Bool) → Place → List plain.Value → Computation Here plain.Value
function_gives which.Len given p vs = length_row p (value_at 0 vs)
function_gives which.Str given p vs = text_given (str_of p (value_at 0 vs))
function_gives which.Repr given p vs = text_given (repr_of p (value_at 0 vs))
function_gives which.Type given p vs = give (text_value (type_name (value_at 0 vs)))
function_gives which.Bool given p vs = truth_row (value_at 0 vs)
function_gives which.Fail given p vs = failure_row p (value_at 0 vs)
function_gives which.List given p vs = if given then list_row p (value_at 0 vs) else new_list []
function_gives which.Tuple given p vs = if given then tuple_row p (value_at 0 vs) else give (tuple_of [])
function_gives which.Reversed given p vs = reversed_row p (value_at 0 vs)
function_gives which.Any given p vs = test_row some_true p (value_at 0 vs)
function_gives which.All given p vs = test_row all_true p (value_at 0 vs)
function_gives which.Abs given p vs = absolute_row p (value_at 0 vs)
function_gives which.Int given p vs = integer_row p (value_at 0 vs) given (value_at 1 vs)
function_gives which.Enumerate given p vs = enumerate_row p (value_at 0 vs) (value_at 1 vs)
function_gives which.HasAttr given p vs = has_attribute_row p (value_at 0 vs) (value_at 1 vs)
function_gives which.GetAttr given p vs = get_attribute_row p (value_at 0 vs) (value_at 1 vs) given (value_at 2 vs)
function_gives which.Dir given p vs = field_names_row p (value_at 0 vs)

abbrev pub list_method_gives : ℕ → ListMethod → (given : Bool) → Place → List plain.Value → Computation Here plain.Value
list_method_gives r of_list.Append given p vs = append_row p r (value_at 0 vs)
list_method_gives r of_list.Clear given p vs = clear_row p r (list_value r)
list_method_gives r of_list.Extend given p vs = extending_row p r (value_at 0 vs)
list_method_gives r of_list.Index given p vs = index_of_row p r (value_at 0 vs) (value_at 1 vs) (value_at 2 vs)
list_method_gives r of_list.Insert given p vs = insert_row p r (value_at 0 vs) (value_at 1 vs)
list_method_gives r of_list.Pop given p vs = pop_row p r given (value_at 0 vs)
list_method_gives r of_list.Remove given p vs = remove_row p r (value_at 0 vs)

abbrev pub dict_method_gives : ℕ → DictMethod → (given : Bool) → Place → List plain.Value → Computation Here plain.Value
dict_method_gives r of_dict.Clear given p vs = clear_row p r (dict_value r)
dict_method_gives r of_dict.Get given p vs = get_row p r (value_at 0 vs) (value_at 1 vs)
dict_method_gives r of_dict.Items given p vs = listing_row pair_value p r
dict_method_gives r of_dict.Keys given p vs = listing_row (λ q. q.0) p r
dict_method_gives r of_dict.Pop given p vs = pop_key_row p r (value_at 0 vs) given (value_at 1 vs)
dict_method_gives r of_dict.PopItem given p vs = popitem_row p r
dict_method_gives r of_dict.SetDefault given p vs = setdefault_row p r (value_at 0 vs) (value_at 1 vs)
dict_method_gives r of_dict.Values given p vs = listing_row (λ q. q.1) p r

abbrev pub gives_of : Bound → (given : Bool) → Place → List plain.Value → Computation Here plain.Value
gives_of (bound.Function b) = function_gives b
gives_of (bound.OfList m r) = list_method_gives r.at m
gives_of (bound.OfDict m r) = dict_method_gives r.at m

-- what is called gives this for its arguments
abbrev pub taken_by : Bound → Own Here
taken_by b p args = taking (needed_of b) (optional_of b) (gives_of b (was_given b args)) p args

-- ---- what is called

abbrev pub builtin_of : Named → Own Here
builtin_of (named.Bound b) = taken_by (bound.Function b)
builtin_of named.Range = range_row
builtin_of named.Zip = zip_row
builtin_of named.Dict = dict_row

-- names with the functions that they are
abbrev pub named_functions : List (Bor (List ℕ) × Named) → List (Name × Own Here)
named_functions fs = each (λ f. (f.0.now, builtin_of f.1)) fs

abbrev pub list_method_of : ℕ → ListMethod → Own Here
list_method_of r m p args = taking (list_method_needs m) (list_method_may_have m) (list_method_gives r m (given_to_list_method m args)) p args

abbrev pub bound_dict_method : ℕ → DictMethod → Own Here
bound_dict_method r m p args = taking (dict_method_needs m) (dict_method_may_have m) (dict_method_gives r m (given_to_dict_method m args)) p args

abbrev pub dict_method_of : ℕ → NamedOfDict → Own Here
dict_method_of r (named_of_dict.Bound m) = bound_dict_method r m
dict_method_of r named_of_dict.Update = update_row r

abbrev pub called : View → held_own.Own → Own Here
called a (own.Bound b) = taken_by b
called a own.Range = range_row
called a own.Zip = zip_row
called a own.Dict = dict_row
called a (own.Update r) = update_row r.at
called a (own.OfText x r) = λ p args. own_method p x (value_of a (value.Text r)) args
called a own.Other = λ p args. fail kind.ValueKind p

-- what a method is of is owned
abbrev pub OwnsBound : View → Bound → Type 0
OwnsBound a (bound.Function b) = Unit {0}
OwnsBound a (bound.OfList m r) = Owns a (value.List r)
OwnsBound a (bound.OfDict m r) = Owns a (value.Dict r)

abbrev pub OwnsOwn : View → held_own.Own → Type 0
OwnsOwn a (own.Bound b) = OwnsBound a b
OwnsOwn a (own.Update r) = Owns a (value.Dict r)
OwnsOwn a (own.OfText x r) = Owns a (value.Text r)
OwnsOwn a _ = Unit {0}
