-- Types of schema documents, offences and filled trees, by computing.
use Rattle.std.proofs.Common.{◌≡◌, ℕ, pos, true, false, List, [], ◌∷◌, Option, Some, None, refl, codes}
use Rattle.std.specs.Option.{option_map}
use Rattle.std.specs.Fmt.{digits}
use Rattle.std.specs.Str.{chars}
use Rattle.ytt_base.specs.declared.fault.FaultKind.TheVariants as kind
use Rattle.ytt_base.specs.declared.fault.Place.{Place}
use Rattle.ytt_base.specs.Outcomes.{place_at, fault_at}
use Rattle.ytt_base.specs.Trees.{null, boolean, integer, string, Tree, scalar, list, map, no_trees, tree, no_pairs, pair}
use Rattle.yaml_spec.specs.Scalars.{form}
use Rattle.yaml_spec.specs.Text.{fits_plain}
use Rattle.value_spec.specs.Outcomes.{Ending, done, bad}
use Rattle.value_spec.specs.Store.{object}
use Rattle.value_spec.specs.Values.{Value, none_value, bool_value, int_value, text_value, list_value, native_value, builtin, no_values, no_fields, a_field, Arguments, arguments, one_value, child, Child, Children, no_children, a_child, BuiltNotes, no_built, a_built, Body, one, map_of, list_of, Store, of_list}
use Rattle.schema_spec.specs.Clauses.{state_with}
use Rattle.schema_spec.specs.Offences.{first_offence, fill}
use Rattle.schema_spec.specs.Paths.{path_text}
use Rattle.schema_spec.specs.Reading.{schema_among, schema_of}
use Rattle.schema_spec.specs.Schemas.{Schema, schema, any_type, bool_type, int_type, string_type, list_type, map_type, no_types, type_pair, simple, free_schema}

-- ---- documents, written short

abbrev on : ℕ → Place
on n = place_at 1 n

abbrev text : List ℕ → Tree
text t = scalar (string t)

abbrev number : ℕ → Tree
number n = scalar (integer (pos n))

abbrev nothing : Arguments
nothing = arguments no_values no_fields

abbrev nullable : BuiltNotes
nullable = a_built (codes "schema/nullable") nothing no_built

abbrev any_by : Value → BuiltNotes
any_by v = a_built (codes "schema/type") (arguments no_values (a_field (codes "any") v no_fields)) no_built

abbrev default_by : Value → BuiltNotes
default_by v = a_built (codes "schema/default") (one_value v) no_built

-- a pair of a map, and an element of a list, on a line
abbrev under : List ℕ → ℕ → BuiltNotes → Body → Child
under n line ns b = child (on line) ns (Some (string n)) b

abbrev element : ℕ → BuiltNotes → Body → Child
element line ns b = child (on line) ns None b

-- the document of these pairs, on line 2
abbrev pairs : Children → Child
pairs cs = child (on 2) no_built None (map_of cs)

abbrev lone : Child → Children
lone c = a_child c no_children

abbrev Given : Type 0 → Type 0
Given A = Ending (Unit {0}) A

-- what a document gives with these objects and so many steps
abbrev read : Store → (steps : ℕ) → Child → Given Schema
read store n c = schema_of c (state_with store n)

abbrev gives : {A : Type 0} → Store → (left : ℕ) → A → Given A
gives store n a = done a (state_with store n)

abbrev refuses : {A : Type 0} → Store → (left line : ℕ) → Given A
refuses store n line = bad (fault_at kind.SchemaForm (on line)) (state_with store n)

-- ---- types from examples

-- `a: ""` and `b: true` and `c: 7`
three_types : read [] 0 (pairs (a_child (under (codes "a") 3 no_built (one (text []))) (a_child (under (codes "b") 4 no_built (one (scalar (boolean true)))) (lone (under (codes "c") 5 no_built (one (number 7)))))))
    ≡ gives [] 0 (simple
    (map_type (type_pair (codes "a") (simple string_type (text []))
    (type_pair (codes "b") (simple bool_type (scalar (boolean true))) (type_pair (codes "c") (simple int_type (number 7)) no_types))))
    (map (pair (string (codes "a")) (text []) (pair (string (codes "b")) (scalar (boolean true)) (pair (string (codes "c")) (number 7) no_pairs)))))
three_types = refl

-- `- 1` is an item's type, and the default is empty
list_of_int : read [] 0 (child (on 2) no_built None (list_of (lone (element 3 no_built (one (number 1)))))) ≡ gives [] 0 (simple (list_type (simple int_type (number 1))) (list no_trees))
list_of_int = refl

no_item : read [] 0 (child (on 2) no_built None (list_of no_children)) ≡ refuses [] 0 2
no_item = refl

two_items : read [] 0 (pairs (lone (under (codes "l") 3 no_built (list_of (a_child (element 4 no_built (one (number 1))) (lone (element 5 no_built (one (number 2))))))))) ≡ refuses [] 0 3
two_items = refl

null_example : read [] 0 (pairs (lone (under (codes "a") 3 no_built (one (scalar null))))) ≡ refuses [] 0 3
null_example = refl

key_no_string : read [] 0 (pairs (lone (child (on 3) no_built (Some (integer (pos 1))) (one (number 1))))) ≡ refuses [] 0 3
key_no_string = refl

-- an expression gave `{"l": [""]}`: each refusal would stand at the item
from_expression : read [] 0 (child (on 2) no_built None (one (map (pair (string (codes "l")) (list (tree (text []) no_trees)) no_pairs))))
    ≡ gives [] 0 (simple (map_type (type_pair (codes "l") (simple (list_type (simple string_type (text []))) (list no_trees)) no_types)) (map (pair (string (codes "l")) (list no_trees) no_pairs)))
from_expression = refl

null_inside : read [] 0 (pairs (lone (under (codes "a") 3 no_built (one (list (tree (scalar null) no_trees)))))) ≡ refuses [] 0 3
null_inside = refl

-- ---- notes

nullable_int : read [] 0 (child (on 2) nullable None (one (number 1))) ≡ gives [] 0 (schema int_type true (scalar null))
nullable_int = refl

nullable_null : read [] 0 (child (on 2) nullable None (one (scalar null))) ≡ gives [] 0 (schema any_type true (scalar null))
nullable_null = refl

nullable_with_argument : read [] 0 (child (on 2) (a_built (codes "schema/nullable") (one_value none_value) no_built) None (one (number 1))) ≡ refuses [] 0 2
nullable_with_argument = refl

-- nothing below is read as a type, and the example is the default
any_map : read [] 0 (child (on 2) (any_by (bool_value true)) None (map_of (lone (under (codes "a") 3 no_built (one (scalar null))))))
    ≡ gives [] 0 (simple any_type (map (pair (string (codes "a")) (scalar null) no_pairs)))
any_map = refl

any_nullable : read [] 0 (child (on 2) (a_built (codes "schema/nullable") nothing (any_by (bool_value true))) None (one (number 1))) ≡ gives [] 0 (schema any_type true (scalar null))
any_nullable = refl

any_false : read [] 0 (child (on 2) (any_by (bool_value false)) None (one (number 1))) ≡ refuses [] 0 2
any_false = refl

-- a note that says nothing of the type
titled : read [] 0 (child (on 2) (a_built (codes "schema/title") (one_value (text_value (codes "t"))) no_built) None (one (number 1))) ≡ gives [] 0 (simple int_type (number 1))
titled = refl

-- ---- other defaults

-- `["x"]`
words : Store
words = object (of_list (text_value (codes "x") ∷ [])) ∷ []

abbrev texts : BuiltNotes → Child
texts ns = pairs (lone (under (codes "l") 4 ns (list_of (lone (element 5 no_built (one (text [])))))))

-- a list's default, for a step for its member
default_list : read words 9 (texts (default_by (list_value 0)))
    ≡ gives words 8 (simple (map_type (type_pair (codes "l") (simple (list_type (simple string_type (text []))) (list (tree (text (codes "x")) no_trees))) no_types))
    (map (pair (string (codes "l")) (list (tree (text (codes "x")) no_trees)) no_pairs)))
unfolding words
default_list = refl

no_step_left : read words 0 (texts (default_by (list_value 0))) ≡ bad (fault_at kind.Steps (on 4)) (state_with words 0)
unfolding words
no_step_left = refl

default_of_other_type : read [] 0 (texts (default_by (int_value (pos 1)))) ≡ refuses [] 0 4
default_of_other_type = refl

default_no_tree : read [] 0 (texts (default_by (native_value (builtin (codes "len"))))) ≡ refuses [] 0 4
default_no_tree = refl

default_on_item : read [] 0 (child (on 2) no_built None (list_of (lone (element 3 (default_by (int_value (pos 1))) (one (number 2)))))) ≡ refuses [] 0 3
default_on_item = refl

-- the later one holds
two_defaults : read [] 0 (child (on 2) (a_built (codes "schema/default") (one_value (int_value (pos 1))) (default_by (int_value (pos 2)))) None (one (number 0))) ≡ gives [] 0 (simple int_type (number 2))
two_defaults = refl

-- ---- schema documents

none_given : schema_among no_children (state_with [] 0) ≡ gives [] 0 free_schema
none_given = refl

second_document : schema_among (a_child (pairs no_children) (lone (child (on 5) no_built None (one (scalar null))))) (state_with [] 0) ≡ refuses [] 0 5
second_document = refl

-- ---- offences

-- maps of `name`, a string, in a list under `list`
abbrev item_type : Schema
item_type = simple (map_type (type_pair (codes "name") (simple string_type (text [])) no_types)) (map (pair (string (codes "name")) (text []) no_pairs))

abbrev listed : Schema
listed = simple (map_type (type_pair (codes "list") (simple (list_type item_type) (list no_trees)) no_types)) (map (pair (string (codes "list")) (list no_trees) no_pairs))

abbrev offence_text : Schema → Tree → Option (List ℕ)
offence_text s t = option_map (λ o. path_text o.path) (first_offence s t)

unknown_key : offence_text listed
    (map (pair (string (codes "list")) (list (tree (map (pair (string (codes "name")) (text (codes "a")) no_pairs))
    (tree (map (pair (string (codes "name")) (text (codes "b")) (pair (string (codes "z")) (number 1) no_pairs))) no_trees))) no_pairs))
    ≡ Some (codes "list[1].z")
unfolding fits_plain form chars digits
unknown_key = refl

-- a node comes before its members
null_list : offence_text listed (map (pair (string (codes "list")) (scalar null) (pair (string (codes "z")) (number 1) no_pairs))) ≡ Some (codes "list")
unfolding fits_plain form chars
null_list = refl

whole_tree : offence_text listed (list no_trees) ≡ Some []
whole_tree = refl

null_where_it_may : first_offence (schema int_type true (scalar null)) (scalar null) ≡ None
null_where_it_may = refl

-- ---- filled trees

-- behind the keys that are there, and in each item
filled : fill listed (map (pair (string (codes "list")) (list (tree (map no_pairs) no_trees)) no_pairs))
    ≡ map (pair (string (codes "list")) (list (tree (map (pair (string (codes "name")) (text []) no_pairs)) no_trees)) no_pairs)
filled = refl

filled_behind : fill (simple (map_type (type_pair (codes "a") (simple int_type (number 1)) (type_pair (codes "b") (simple int_type (number 2)) no_types))) (map no_pairs)) (map (pair (string (codes "b")) (number 7) no_pairs))
    ≡ map (pair (string (codes "b")) (number 7) (pair (string (codes "a")) (number 1) no_pairs))
filled_behind = refl

-- ---- a schema of several keys, and data of it

-- `["web"]`
web : Store
web = object (of_list (text_value (codes "web") ∷ [])) ∷ []

abbrev shop : Child
shop = pairs
    (a_child (under (codes "name") 3 no_built (one (text (codes "shop"))))
    (a_child (under (codes "replicas") 4 no_built (one (number 1)))
    (a_child (under (codes "image") 6 nullable (one (text [])))
    (a_child (under (codes "tags") 8 (default_by (list_value 0)) (list_of (lone (element 9 no_built (one (text []))))))
    (lone (under (codes "extra") 11 (any_by (bool_value true)) (map_of no_children)))))))

abbrev tags : Tree
tags = list (tree (text (codes "web")) no_trees)

abbrev shop_type : Schema
shop_type = simple
    (map_type
    (type_pair (codes "name") (simple string_type (text (codes "shop")))
    (type_pair (codes "replicas") (simple int_type (number 1))
    (type_pair (codes "image") (schema string_type true (scalar null))
    (type_pair (codes "tags") (simple (list_type (simple string_type (text []))) tags) (type_pair (codes "extra") (simple any_type (map no_pairs)) no_types))))))
    (map
    (pair (string (codes "name")) (text (codes "shop"))
    (pair (string (codes "replicas")) (number 1)
    (pair (string (codes "image")) (scalar null) (pair (string (codes "tags")) tags (pair (string (codes "extra")) (map no_pairs) no_pairs))))))

shop_read : read web 1 shop ≡ gives web 0 shop_type
unfolding web
shop_read = refl

shop_filled : fill shop_type (map (pair (string (codes "replicas")) (number 3) no_pairs))
    ≡ map
    (pair (string (codes "replicas")) (number 3)
    (pair (string (codes "name")) (text (codes "shop"))
    (pair (string (codes "image")) (scalar null) (pair (string (codes "tags")) tags (pair (string (codes "extra")) (map no_pairs) no_pairs)))))
shop_filled = refl

shop_text : offence_text shop_type (map (pair (string (codes "replicas")) (text (codes "3")) no_pairs)) ≡ Some (codes "replicas")
unfolding fits_plain form chars
shop_text = refl

shop_unknown : offence_text shop_type (map (pair (string (codes "replica")) (number 3) no_pairs)) ≡ Some (codes "replica")
unfolding fits_plain form chars
shop_unknown = refl

shop_tags : offence_text shop_type (map (pair (string (codes "tags")) (list (tree (text (codes "a")) (tree (number 7) no_trees))) no_pairs)) ≡ Some (codes "tags[1]")
unfolding fits_plain form chars digits
shop_tags = refl

shop_extra : first_offence shop_type (map (pair (string (codes "extra")) (list (tree (map (pair (string (codes "a")) (number 1) no_pairs)) no_trees)) (pair (string (codes "image")) (text (codes "nginx")) no_pairs))) ≡ None
shop_extra = refl
