-- What code computes: values, the annotated children that items are built into, and the objects of a store.
use Rattle.std.specs.Prelude.{ℕ, ℤ, Bool, List, [], ◌∷◌, Option}
use Rattle.ytt_base.specs.declared.fault.Place.{Place}
use Rattle.ytt_base.specs.Trees.{Scalar, Tree}
use Rattle.code_spec.specs.Code.{Name}
use Rattle.code_spec.specs.Program.{ItemKind}

mutual
  -- A text is its bytes in UTF-8. A list, a dict and a function are the positions of their objects. A fragment is items
  -- that a function built.
  pub data Value : Type 0 where
    none_value : Value
    bool_value : Bool → Value
    int_value : ℤ → Value
    text_value : List ℕ → Value
    tuple_value : Values → Value
    range_value : (start stop step : ℤ) → Value
    struct_value : Fields → Value
    fragment_value : ItemKind → Children → Value
    list_value : (position : ℕ) → Value
    dict_value : (position : ℕ) → Value
    function_value : (position : ℕ) → Value
    module_value : Name → Fields → Value
    native_value : Native → Value

  -- The language's own functions are known by their names, its methods by their names and what they are of, those that a
  -- host answers by their names and what they hold; the last is what `template.replace` gives.
  pub data Native : Type 0 where
    builtin : Name → Native
    method : Name → Value → Native
    host_native : Name → Values → Native
    replacement : Value → Native

  pub data Values : Type 0 where
    no_values : Values
    a_value : Value → Values → Values

  pub data Fields : Type 0 where
    no_fields : Fields
    a_field : Name → Value → Fields → Fields

  -- the arguments of a call or of a note: those by position, and those by name
  pub data Arguments : Type 0 where
    arguments : Values → Fields → Arguments

  -- what an item is built into: its place, its notes, its key if it is a pair, and what it holds
  pub data Child : Type 0 where
    child : Place → BuiltNotes → Option Scalar → Body → Child

  pub data Children : Type 0 where
    no_children : Children
    a_child : Child → Children → Children

  pub data BuiltNotes : Type 0 where
    no_built : BuiltNotes
    a_built : Name → Arguments → BuiltNotes → BuiltNotes

  -- a tree, or a map or a list of children
  pub data Body : Type 0 where
    one : Tree → Body
    map_of : Children → Body
    list_of : Children → Body

-- what a node's value gives: what the node holds, or children in the node's place
pub data Taken : Type 0 where
  taken : Body → Taken
  many : Children → Taken

-- ---- objects

-- the names of a scope, each with the position of its box
abbrev pub Env : Type 0
Env = List (Name × ℕ)

-- a function: the name that it shows, its file, its number there, its scope and its defaults
pub record Function : Type 0 where
  pub name : Name
  pub file : ℕ
  pub number : ℕ
  pub env : Env
  pub defaults : List Value

-- the members of a list, the pairs of a dict, a box with a value or none, a function
pub data Contents : Type 0 where
  of_list : List Value → Contents
  of_dict : List (Value × Value) → Contents
  of_box : Option Value → Contents
  of_function : Function → Contents

-- an object: frozen or not, and so many loops walk it
pub record Object : Type 0 where
  pub contents : Contents
  pub frozen : Bool
  pub loops : ℕ

-- the objects, in the order in which they were made
abbrev pub Store : Type 0
Store = List Object

-- ---- lists of values

abbrev pub values_in : Values → List Value
values_in no_values = []
values_in (a_value v vs) = v ∷ values_in vs

abbrev pub values_from : List Value → Values
values_from [] = no_values
values_from (v ∷ vs) = a_value v (values_from vs)

abbrev pub fields_in : Fields → List (Name × Value)
fields_in no_fields = []
fields_in (a_field x v fs) = (x, v) ∷ fields_in fs

abbrev pub one_value : Value → Arguments
one_value v = arguments (a_value v no_values) no_fields
