-- The trees of values, a form at a time, where collections may stand in one another so many levels more.
use Rattle.std.specs.Prelude.{ℕ, zero, suc, List, length}
use Rattle.ytt_base.specs.declared.fault.FaultKind.TheVariants as kind
use Rattle.ytt_base.specs.declared.fault.Place.{Place}
use Rattle.ytt_base.specs.declared.tree.Key.{Key}
use Rattle.ytt_base.specs.declared.tree.Tree.{Tree as Built}
use Rattle.ytt_base.specs.Trees.{Scalar, Tree, Trees, Pairs, scalar, string, list, map}
use Rattle.ytt_base.specs.View.{key_of, tree_of}
use Rattle.value_spec.specs.Built.{below, children_paid}
use Rattle.value_spec.specs.Keys.{text_cost}
use Rattle.value_spec.specs.Outcomes.{Computation, fail, give, paid, paid_by, ◌>>=◌}
use Rattle.value_spec.specs.Values.{Children, Taken, Value, fields_in, many, one, taken, text_value}
use Rattle.star_values.specs.View.{fields_in as in_fields, value_in}
use Rattle.star_values.specs.declared.value.NamedValue.{NamedValue}
use Rattle.template_meaning.specs.Take.{levels_at, levels_replaced, members_at, pairs_by, scalar_of_value, tree_of_value, trees_by, with_text_keys}

abbrev pub Gives : Type 0 → Type 0
Gives A = Computation (Unit {0}) A

-- a text, after its cost
abbrev pub text_taken : Place → (text : List ℕ) → Gives Scalar
text_taken p t = paid_by (text_cost (length t)) p (give (string t))

abbrev pub text_tree : Place → (text : List ℕ) → Gives Tree
text_tree p t = paid_by (text_cost (length t)) p (give (scalar (string t)))

unfoldable pub member_taken : (levels : ℕ) → Place → Value → Gives Tree
member_taken n p v = paid p (tree_of_value n p v)

unfoldable pub members_taken : (levels : ℕ) → Place → List Value → Gives Trees
members_taken n p vs = trees_by (λ v. tree_of_value n p v) p vs

abbrev pub key_paid_for : Place → Value → Gives Scalar
key_paid_for p k = paid p (scalar_of_value p k)

unfoldable pub pair_taken : (levels : ℕ) → Place → Value × Value → Gives (Scalar × Tree)
pair_taken n p m = key_paid_for p m.0 >>= λ x. tree_of_value n p m.1 >>= λ t. give (x, t)

unfoldable pub pairs_taken : (levels : ℕ) → Place → List (Value × Value) → Gives Pairs
pairs_taken n p ms = pairs_by (λ v. tree_of_value n p v) p ms

abbrev pub pair_seen : Key × Built → Scalar × Tree
pair_seen e = (key_of e.0, tree_of e.1)

-- a list of these members
abbrev pub list_taken : (levels : ℕ) → Place → List Value → Gives Tree
list_taken zero p vs = fail kind.TooDeep p
list_taken (suc n) p vs = members_taken n p vs >>= λ ts. give (list ts)

-- a map of these pairs
abbrev pub map_taken : (levels : ℕ) → Place → List (Value × Value) → Gives Tree
map_taken zero p ms = fail kind.TooDeep p
map_taken (suc n) p ms = pairs_taken n p ms >>= λ ps. give (map ps)

-- items, after their size, as what they make
abbrev pub items_taken : {A : Type 0} → (levels : ℕ) → Place → (made : Children → A) → Children → Gives A
items_taken n p made cs = below p n (λ m. children_paid p m cs) >>= λ u. give (made cs)

-- a field as a pair, whose key is its name
abbrev pub field_pair : (held : List Value) → NamedValue → Value × Value
field_pair held f = (text_value f.name, value_in held f.value)

abbrev pub field_pairs : (held : List Value) → List NamedValue → List (Value × Value)
field_pairs held fs = with_text_keys (fields_in (in_fields held fs))

-- ---- in a node

-- a value as its tree, where so many collections stand around
abbrev pub as_tree : Place → (around : ℕ) → Value → Gives Taken
as_tree p n v = tree_of_value (levels_at n) p v >>= λ t. give (taken (one t))

-- the members of a value's tree in a node's place
abbrev pub members_in_place : Place → (around : ℕ) → Value → Gives Taken
members_in_place p n v = (tree_of_value (levels_replaced n) p v >>= λ t. give (members_at p t)) >>= λ cs. give (many cs)
