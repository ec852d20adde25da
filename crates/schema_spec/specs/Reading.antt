-- What a schema document says: the type of each item from its evaluated example and its notes. A refusal stands at the item. The argument
-- of a note is converted to a tree at its item, which takes the steps of its size.
use Rattle.std.specs.Prelude.{ℕ, Bool, true, false, ◌&&◌, List, [], ◌∷◌, Option, Some, None, bytes_eq, codes, if◌then◌else◌}
use Rattle.ytt_base.specs.declared.fault.Fault.{Fault}
use Rattle.ytt_base.specs.declared.fault.FaultKind.{FaultKind}
use Rattle.ytt_base.specs.declared.fault.FaultKind.TheVariants as kind
use Rattle.ytt_base.specs.declared.fault.Place.{Place}
use Rattle.ytt_base.specs.Outcomes.{fault_at}
use Rattle.ytt_base.specs.Trees.{Scalar, null, boolean, integer, string, Tree, scalar, list, map, Trees, no_trees, tree, Pairs, no_pairs, pair, max_depth}
use Rattle.code_spec.specs.Code.{Name}
use Rattle.value_spec.specs.Built.{body_tree}
use Rattle.value_spec.specs.Values.{Value, no_fields, a_field, Arguments, arguments, child, Child, Children, no_children, a_child, BuiltNotes, no_built, a_built, Body, one, map_of, list_of}
use Rattle.value_spec.specs.Outcomes.{Ending, done, bad, asks, Computation, give, fail, or_fail, need, ◌>>=◌}
use Rattle.template_meaning.specs.Take.{tree_of_value}
use Rattle.schema_spec.specs.Arguments.{has_note, are_none, are_unnamed, no_arguments, only_argument, is_true}
use Rattle.schema_spec.specs.Offences.{offences, fill}
use Rattle.schema_spec.specs.Schemas.{Schema, schema, TypeKind, any_type, bool_type, int_type, string_type, list_type, map_type, TypePairs, no_types, type_pair, simple, free_schema, defaults}

-- the refusal of a schema at a place
abbrev pub refused : {H A : Type 0} → Place → Computation H A
refused p = fail kind.SchemaForm p

-- what there is, or the refusal
abbrev pub or_refused : {H A : Type 0} → Place → Option A → Computation H A
or_refused p o = or_fail kind.SchemaForm p o

-- the refusal unless the test holds
abbrev pub refused_unless : {H : Type 0} → Place → Bool → Computation H (Unit {0})
refused_unless p b = need kind.SchemaForm p b

-- ---- an example that was taken over whole: each member is read at the item's place

-- the kind of a scalar, which is not null
abbrev pub scalar_type : Scalar → TypeKind
scalar_type null = any_type
scalar_type (boolean b) = bool_type
scalar_type (integer z) = int_type
scalar_type (string t) = string_type

-- the key of a map's type
abbrev pub text_key : {H : Type 0} → Place → Option Scalar → Computation H (List ℕ)
text_key p (Some (string n)) = give n
text_key p _ = refused p

-- a key, and then its type
abbrev pub named_type : {H : Type 0} → Place → Option Scalar → Computation H Schema → Computation H (List ℕ × Schema)
named_type p x typed = text_key p x >>= λ n. typed >>= λ s. give (n, s)

-- one member, and then the others
abbrev pub and_types : {H : Type 0} → Computation H (List ℕ × Schema) → Computation H TypePairs → Computation H TypePairs
and_types first rest = first >>= λ e. rest >>= λ ms. give (type_pair e.0 e.1 ms)

-- the type of a map of these keys, whose default has theirs
abbrev pub map_schema : TypePairs → Schema
map_schema ms = simple (map_type ms) (map (defaults ms))

-- the type of a list of such items, whose default is empty
abbrev pub list_schema : Schema → Schema
list_schema i = simple (list_type i) (list no_trees)

abbrev mutual
  -- null alone has no type
  pub example_type : {H : Type 0} → Place → Tree → Computation H Schema
  example_type p (scalar null) = refused p
  example_type p (scalar x) = give (simple (scalar_type x) (scalar x))
  example_type p (list ts) = example_item p ts >>= λ i. give (list_schema i)
  example_type p (map ps) = example_pairs p ps >>= λ ms. give (map_schema ms)

  -- the one item of a list
  pub example_item : {H : Type 0} → Place → Trees → Computation H Schema
  example_item p no_trees = refused p
  example_item p (tree t ts) = elim ts [ no_trees ↦ example_type p t | tree u us ↦ refused p ]

  -- the types of a map's keys
  pub example_pairs : {H : Type 0} → Place → Pairs → Computation H TypePairs
  example_pairs p no_pairs = give no_types
  example_pairs p (pair k t ps) = and_types (named_type p (Some k) (example_type p t)) (example_pairs p ps)

-- a null example where null may stand has any type
abbrev pub value_type : {H : Type 0} → (nullable : Bool) → Place → Tree → Computation H Schema
value_type true p (scalar null) = give (simple any_type (scalar null))
value_type nullable p t = example_type p t

-- ---- notes

-- what an item's notes say
pub record Said : Type 0 where
  pub nullable : Bool
  pub is_any : Bool
  pub default : Option Tree

abbrev pub nothing_said : Said
nothing_said = record { nullable = false; is_any = false; default = None }

-- what has no tree is in no form of an argument
abbrev pub is_no_tree : FaultKind → Bool
is_no_tree kind.NotYaml = true
is_no_tree _ = false

-- a refusal; that a value has no tree is one of the schema
abbrev pub recast_fault : Place → Fault → Fault
recast_fault p f = if is_no_tree f.kind then fault_at kind.SchemaForm p else f

abbrev pub recast : {H A : Type 0} → Place → Ending H A → Ending H A
recast p (done a s) = done a s
recast p (bad f s) = bad (recast_fault p f) s
recast p (asks q s k) = asks q s (λ got t. recast p (k got t))

-- the tree of an argument
abbrev pub converted : {H : Type 0} → Place → Value → Computation H Tree
converted p v = λ s. recast p (tree_of_value max_depth p v s)

-- null may stand
abbrev pub and_nullable : {H : Type 0} → Place → Arguments → Said → Computation H Said
and_nullable p given said = refused_unless p (no_arguments given) >>= λ u. give (record said { nullable = true })

-- the one argument is `any=True`
abbrev pub says_any : Arguments → Bool
says_any (arguments vs no_fields) = false
says_any (arguments vs (a_field x v fs)) = are_none vs && (are_unnamed fs && (bytes_eq x (codes "any") && is_true v))

-- anything may stand
abbrev pub and_any : {H : Type 0} → Place → Arguments → Said → Computation H Said
and_any p given said = refused_unless p (says_any given) >>= λ u. give (record said { is_any = true })

-- another default, which a list's item doesn't have
abbrev pub and_default : {H : Type 0} → Place → (in_list : Bool) → Arguments → Said → Computation H Said
and_default p true given said = refused p
and_default p false given said = or_refused p (only_argument given) >>= λ v. converted p v >>= λ t. give (record said { default = Some t })

-- one note of an item; the later one of a name holds
abbrev pub read_note : {H : Type 0} → Place → (in_list : Bool) → Name → Arguments → Said → Computation H Said
read_note p in_list x given said =
    if bytes_eq x (codes "schema/nullable") then and_nullable p given said
    else if bytes_eq x (codes "schema/type") then and_any p given said
    else if bytes_eq x (codes "schema/default") then and_default p in_list given said
    else give said

-- the notes of an item, beside what was said
abbrev pub read_notes : {H : Type 0} → Place → (in_list : Bool) → BuiltNotes → Said → Computation H Said
read_notes p in_list no_built said = give said
read_notes p in_list (a_built x given ns) said = read_note p in_list x given said >>= λ next. read_notes p in_list ns next

-- ---- the type

-- null may stand too, and is the default
abbrev pub with_nullable : Bool → Schema → Schema
with_nullable false s = s
with_nullable true (schema k nullable d) = schema k true (scalar null)

-- the tree is of the type
abbrev pub conforms : Schema → Tree → Bool
conforms s t = elim (offences s t) [ [] ↦ true | o ∷ os ↦ false ]

-- with this default
abbrev pub default_instead : Tree → Schema → Schema
default_instead t (schema k nullable d) = schema k nullable t

-- another default, which must conform and is filled
abbrev pub with_default : {H : Type 0} → Place → Option Tree → Schema → Computation H Schema
with_default p None s = give s
with_default p (Some t) s = refused_unless p (conforms s t) >>= λ u. give (default_instead (fill s t) s)

-- the type that notes make of the type of a value
abbrev pub noted_type : {H : Type 0} → Place → Said → Schema → Computation H Schema
noted_type p said s = with_default p said.default (with_nullable said.nullable s)

-- where anything may stand, nothing below is read as a type
abbrev pub read_unless : {H : Type 0} → (is_any : Bool) → Body → Computation H Schema → Computation H Schema
read_unless true b m = give (simple any_type (body_tree b))
read_unless false b m = m

-- the type of an item: what its notes say, then the type of its value, which typed gives, and then what the notes make of it
abbrev pub noted : {H : Type 0} → Place → (in_list : Bool) → BuiltNotes → Body → (typed : (nullable : Bool) → Computation H Schema) → Computation H Schema
noted p in_list ns b typed = do
  said ← read_notes p in_list ns nothing_said
  s ← read_unless said.is_any b (typed said.nullable)
  noted_type p said s

abbrev mutual
  -- the type of a value, without the notes of its item
  pub body_type : {H : Type 0} → Place → (nullable : Bool) → Body → Computation H Schema
  body_type p nullable (one t) = value_type nullable p t
  body_type p nullable (map_of cs) = member_types cs >>= λ ms. give (map_schema ms)
  body_type p nullable (list_of cs) = item_type p cs >>= λ i. give (list_schema i)

  -- the types of a map's keys
  pub member_types : {H : Type 0} → Children → Computation H TypePairs
  member_types no_children = give no_types
  member_types (a_child (child p ns x b) cs) = and_types (named_type p x (noted p false ns b (λ nullable. body_type p nullable b))) (member_types cs)

  -- the type of a list's one item
  pub item_type : {H : Type 0} → Place → Children → Computation H Schema
  item_type p no_children = refused p
  item_type p (a_child (child q ns x b) no_children) = noted q true ns b (λ nullable. body_type q nullable b)
  item_type p (a_child c (a_child d cs)) = refused p

-- the type of an item
abbrev pub item_schema : {H : Type 0} → (in_list : Bool) → Child → Computation H Schema
item_schema in_list (child p ns x b) = noted p in_list ns b (λ nullable. body_type p nullable b)

-- the type of a schema document
abbrev pub schema_of : {H : Type 0} → Child → Computation H Schema
schema_of document = item_schema false document

-- ---- all schema documents

-- the documents that a note marks
abbrev pub marked_by : Name → Children → Children
marked_by x no_children = no_children
marked_by x (a_child (child p ns k b) cs) = if has_note x ns then a_child (child p ns k b) (marked_by x cs) else marked_by x cs

-- One document at most; a second one is refused at its own place, before any type is read. Without one anything may stand.
abbrev pub schema_among : {H : Type 0} → Children → Computation H Schema
schema_among no_children = give free_schema
schema_among (a_child c no_children) = schema_of c
schema_among (a_child c (a_child (child p ns x b) cs)) = refused p
