-- The values that the program holds: integers of 128 bits, texts in UTF-8, names of fields that are distinct, names of functions
-- and modules in UTF-8, and children that are what the program holds, with distinct keys in a map and in a fragment of pairs; the code and the
-- objects that hold such.
use Rattle.std.specs.Prelude.{◌≡◌, ℤ, Bool, true, false, ◌&&◌, ◌||◌, not, List, [], ◌∷◌, Option, Some, None, Result, Ok, Err, IsTrue, IsUtf8, FitsSigned}
use Rattle.std.specs.Int.{w128}
use Rattle.ytt_base.specs.Trees.{Scalar, IsScalar, has_key, IsTree}
use Rattle.code_spec.specs.Allowed.{are_distinct}
use Rattle.code_spec.specs.Program.{ItemKind, pair_item}
use Rattle.code_spec.specs.Code as code
use Rattle.code_spec.specs.Code.{Name, Expr, Exprs, no_exprs, an_expr, OptionalExpr, absent, present, Entries, no_entries, an_entry, Clauses, no_clauses, for_clause, if_clause, Pieces, no_pieces, text_piece, expr_piece, Parameters, no_parameters, required, defaulted, bare_star, starred_parameter, double_starred_parameter, Statement, evaluate, assign, augment, load, return, break, continue, pass}
use Rattle.value_spec.specs.Keys.{same_key}
use Rattle.value_spec.specs.Outcomes.{Reply, answer, call_then, Question, called, resumed}
use Rattle.ytt_base.specs.declared.fault.Fault.{Fault}
use Rattle.value_spec.specs.Numbers.{range_count, progression}
use Rattle.value_spec.specs.Values.{Value, none_value, bool_value, int_value, text_value, tuple_value, range_value, struct_value, fragment_value, list_value, dict_value, function_value, module_value, native_value, builtin, method, host_native, replacement, Values, no_values, a_value, Fields, no_fields, a_field, Child, child, Children, no_children, a_child, Body, one, map_of, list_of, Arguments, arguments, Contents, of_list, of_dict, of_box, of_function, Store}

abbrev pub field_names : Fields → List Name
field_names no_fields = []
field_names (a_field x v fs) = x ∷ field_names fs

-- the keys of children, of those that have one
abbrev pub child_keys : Children → List Scalar
child_keys no_children = []
child_keys (a_child (child p ns None b) cs) = child_keys cs
child_keys (a_child (child p ns (Some x) b) cs) = x ∷ child_keys cs

abbrev pub keys_distinct : List Scalar → Bool
keys_distinct [] = true
keys_distinct (k ∷ ks) = not (has_key k ks) && keys_distinct ks

-- no two children of a fragment of pairs have one key
abbrev pub keys_apart : ItemKind → Children → Bool
keys_apart pair_item cs = keys_distinct (child_keys cs)
keys_apart _ cs = true

-- the numbers of a range
abbrev pub HeldNumbers : List ℤ → Type 0
HeldNumbers [] = Unit {0}
HeldNumbers (z ∷ zs) = FitsSigned w128 z × HeldNumbers zs

abbrev pub HeldKey : Option Scalar → Type 0
HeldKey None = Unit {0}
HeldKey (Some x) = IsScalar x

abbrev mutual
  pub HeldValue : Value → Type 0
  HeldValue none_value = Unit {0}
  HeldValue (bool_value b) = Unit {0}
  HeldValue (int_value z) = FitsSigned w128 z
  HeldValue (text_value t) = IsUtf8 t
  HeldValue (tuple_value vs) = HeldValues vs
  HeldValue (range_value start stop step) = HeldNumbers (progression (range_count start stop step) start step)
  HeldValue (struct_value fs) = HeldFields fs × IsTrue (are_distinct (field_names fs))
  HeldValue (fragment_value k cs) = HeldChildren cs × IsTrue (keys_apart k cs)
  HeldValue (list_value r) = Unit {0}
  HeldValue (dict_value r) = Unit {0}
  HeldValue (function_value r) = Unit {0}
  HeldValue (module_value x fs) = IsUtf8 x × HeldFields fs
  HeldValue (native_value (builtin x)) = IsUtf8 x
  HeldValue (native_value (method x v)) = IsUtf8 x × HeldValue v
  HeldValue (native_value (host_native x held)) = IsUtf8 x × HeldValues held
  HeldValue (native_value (replacement v)) = HeldValue v

  pub HeldValues : Values → Type 0
  HeldValues no_values = Unit {0}
  HeldValues (a_value v vs) = HeldValue v × HeldValues vs

  pub HeldFields : Fields → Type 0
  HeldFields no_fields = Unit {0}
  HeldFields (a_field x v fs) = IsUtf8 x × HeldValue v × HeldFields fs

  pub HeldChild : Child → Type 0
  HeldChild (child p ns x b) = HeldKey x × HeldBody b

  pub HeldChildren : Children → Type 0
  HeldChildren no_children = Unit {0}
  HeldChildren (a_child c cs) = HeldChild c × HeldChildren cs

  pub HeldBody : Body → Type 0
  HeldBody (one t) = IsTree t
  HeldBody (map_of cs) = HeldChildren cs × IsTrue (keys_distinct (child_keys cs))
  HeldBody (list_of cs) = HeldChildren cs

-- ---- code

-- a literal that stands in code is what the program holds
abbrev mutual
  pub HeldExpr : Expr → Type 0
  HeldExpr (code.int p z) = FitsSigned w128 z
  HeldExpr (code.text p t) = IsUtf8 t
  HeldExpr (code.name p x) = Unit {0}
  HeldExpr (code.list p es) = HeldExprs es
  HeldExpr (code.tuple p es) = HeldExprs es
  HeldExpr (code.dict p es) = HeldEntries es
  HeldExpr (code.unary p o a) = HeldExpr a
  HeldExpr (code.binary p o a b) = HeldExpr a × HeldExpr b
  HeldExpr (code.conjunction p a b) = HeldExpr a × HeldExpr b
  HeldExpr (code.disjunction p a b) = HeldExpr a × HeldExpr b
  HeldExpr (code.conditional p c a b) = HeldExpr c × HeldExpr a × HeldExpr b
  HeldExpr (code.call p f es) = HeldExpr f × HeldExprs es
  HeldExpr (code.named p x e) = IsUtf8 x × HeldExpr e
  HeldExpr (code.starred p e) = HeldExpr e
  HeldExpr (code.double_starred p e) = HeldExpr e
  HeldExpr (code.index p a i) = HeldExpr a × HeldExpr i
  HeldExpr (code.slice p a l h d) = HeldExpr a × HeldOptional l × HeldOptional h × HeldOptional d
  HeldExpr (code.attribute p a x) = HeldExpr a
  HeldExpr (code.lambda p n ps e) = HeldParameters ps × HeldExpr e
  HeldExpr (code.list_comprehension p e cs) = HeldExpr e × HeldClauses cs
  HeldExpr (code.dict_comprehension p a b cs) = HeldExpr a × HeldExpr b × HeldClauses cs
  HeldExpr (code.text_template p ps) = HeldPieces ps

  pub HeldExprs : Exprs → Type 0
  HeldExprs no_exprs = Unit {0}
  HeldExprs (an_expr e es) = HeldExpr e × HeldExprs es

  pub HeldOptional : OptionalExpr → Type 0
  HeldOptional absent = Unit {0}
  HeldOptional (present e) = HeldExpr e

  pub HeldEntries : Entries → Type 0
  HeldEntries no_entries = Unit {0}
  HeldEntries (an_entry a b es) = HeldExpr a × HeldExpr b × HeldEntries es

  pub HeldClauses : Clauses → Type 0
  HeldClauses no_clauses = Unit {0}
  HeldClauses (for_clause x e cs) = HeldExpr x × HeldExpr e × HeldClauses cs
  HeldClauses (if_clause e cs) = HeldExpr e × HeldClauses cs

  pub HeldPieces : Pieces → Type 0
  HeldPieces no_pieces = Unit {0}
  HeldPieces (text_piece t ps) = IsUtf8 t × HeldPieces ps
  HeldPieces (expr_piece e ps) = HeldExpr e × HeldPieces ps

  pub HeldParameters : Parameters → Type 0
  HeldParameters no_parameters = Unit {0}
  HeldParameters (required x ps) = HeldParameters ps
  HeldParameters (defaulted x e ps) = HeldExpr e × HeldParameters ps
  HeldParameters (bare_star ps) = HeldParameters ps
  HeldParameters (starred_parameter x ps) = HeldParameters ps
  HeldParameters (double_starred_parameter x ps) = HeldParameters ps

abbrev pub HeldStatement : Statement → Type 0
HeldStatement (evaluate p e) = HeldExpr e
HeldStatement (assign p x e) = HeldExpr x × HeldExpr e
HeldStatement (augment p o q x e) = HeldExpr x × HeldExpr e
HeldStatement (load p path xs) = Unit {0}
HeldStatement (return p e) = HeldExpr e
HeldStatement (break p) = Unit {0}
HeldStatement (continue p) = Unit {0}
HeldStatement (pass p) = Unit {0}

-- ---- objects

abbrev pub HeldList : List Value → Type 0
HeldList [] = Unit {0}
HeldList (v ∷ vs) = HeldValue v × HeldList vs

abbrev pub has_equal_key : Value → List (Value × Value) → Bool
has_equal_key k [] = false
has_equal_key k (p ∷ ps) = same_key k p.0 || has_equal_key k ps

-- the pairs of a dict, no key of which stands twice
abbrev pub HeldPairs : List (Value × Value) → Type 0
HeldPairs [] = Unit {0}
HeldPairs (p ∷ ps) = HeldValue p.0 × HeldValue p.1 × (has_equal_key p.0 ps ≡ false) × HeldPairs ps

abbrev pub HeldIfAny : Option Value → Type 0
HeldIfAny None = Unit {0}
HeldIfAny (Some v) = HeldValue v

abbrev pub HeldContents : Contents → Type 0
HeldContents (of_list vs) = HeldList vs
HeldContents (of_dict ps) = HeldPairs ps
HeldContents (of_box v) = HeldIfAny v
HeldContents (of_function f) = IsUtf8 f.name × HeldList f.defaults

abbrev pub HeldStore : Store → Type 0
HeldStore [] = Unit {0}
HeldStore (o ∷ os) = HeldContents o.contents × HeldStore os

abbrev pub HeldArguments : Arguments → Type 0
HeldArguments (arguments vs fs) = HeldValues vs × HeldFields fs

-- ---- what a host answers

abbrev pub HeldReply : Reply → Type 0
HeldReply (answer v) = HeldValue v
HeldReply (call_then f vs tag) = HeldValue f × HeldArguments vs

-- a reply, or a fault
abbrev pub HeldAnswer : Result Reply Fault → Type 0
HeldAnswer (Ok r) = HeldReply r
HeldAnswer (Err e) = Unit {0}

-- ---- what a host is asked

-- what a call gave, or a fault
abbrev pub HeldGot : Result Value Fault → Type 0
HeldGot (Ok v) = HeldValue v
HeldGot (Err e) = Unit {0}

abbrev pub HeldQuestion : Question → Type 0
HeldQuestion (called p x held vs) = HeldValues held × HeldArguments vs
HeldQuestion (resumed p x held tag got) = HeldValues held × HeldGot got
