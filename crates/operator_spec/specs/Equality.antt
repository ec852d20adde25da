-- When two values are equal, and the steps that it takes: 1 for each pair of members up to the first difference, and a
-- sixteenth of the bytes of the shorter of two texts.
use Rattle.std.specs.Prelude.{ℕ, zero, suc, min, ◌==◌, Bool, true, false, List, [], ◌∷◌, length, Option, Some, None, if◌then◌else◌, bytes_eq, codes}
use Rattle.ytt_base.specs.declared.fault.FaultKind.TheVariants as kind
use Rattle.ytt_base.specs.declared.fault.Place.{Place}
use Rattle.ytt_base.specs.Trees.{Scalar, string, Tree, scalar, list, map, Trees, no_trees, tree, Pairs, no_pairs, pair, same_bool, same_integer, same_key, max_depth}
use Rattle.code_spec.specs.Code.{Name}
use Rattle.value_spec.specs.Built.{body_tree, fragment_body, below}
use Rattle.value_spec.specs.Keys.{text_cost}
use Rattle.value_spec.specs.Members.{numbers_of}
use Rattle.value_spec.specs.Outcomes.{Computation, give, fail, paid, paid_by, reads, ◌>>=◌}
use Rattle.value_spec.specs.Store.{list_at, pairs_at, value_of_key}
use Rattle.value_spec.specs.Values.{Value, none_value, bool_value, int_value, text_value, tuple_value, range_value, struct_value, fragment_value, list_value, dict_value, function_value, module_value, native_value, Native, builtin, method, host_native, replacement, values_in, Fields, no_fields, a_field}

-- ---- texts, and members in pairs

abbrev pub equal_texts : {H : Type 0} → Place → (left right : List ℕ) → Computation H Bool
equal_texts p a b = paid_by (min (text_cost (length a)) (text_cost (length b))) p (give (bytes_eq a b))

-- members pair by pair, as far as both go
abbrev pub equal_pairs : {H : Type 0} → (equal : Value → Value → Computation H Bool) → Place → (left right : List Value) → Computation H Bool
equal_pairs equal p (v ∷ vs) (w ∷ ws) = paid p (equal v w) >>= λ same. if same then equal_pairs equal p vs ws else give false
equal_pairs equal p _ _ = give true

-- as many members, each equal to the other's; others are unequal at once
abbrev pub equal_members : {H : Type 0} → (equal : Value → Value → Computation H Bool) → Place → (left right : List Value) → Computation H Bool
equal_members equal p vs ws = if length vs == length ws then equal_pairs equal p vs ws else give false

-- ---- dicts and structs, in any order

-- a pair, and what the other has under its key: the key is compared too, and takes its size
abbrev pub equal_found : {H : Type 0} → (equal : Value → Value → Computation H Bool) → Value × Value → Option Value → Computation H Bool
equal_found equal m None = give false
equal_found equal m (Some w) = equal m.0 m.0 >>= λ same. equal m.1 w

-- each key of the left stands in the right, with an equal value
abbrev pub all_found : {H : Type 0} → (equal : Value → Value → Computation H Bool) → Place → (left right : List (Value × Value)) → Computation H Bool
all_found equal p [] qs = give true
all_found equal p (m ∷ ms) qs = paid p (equal_found equal m (value_of_key m.0 qs)) >>= λ same. if same then all_found equal p ms qs else give false

abbrev pub equal_dicts : {H : Type 0} → (equal : Value → Value → Computation H Bool) → Place → (left right : List (Value × Value)) → Computation H Bool
equal_dicts equal p ps qs = if length ps == length qs then all_found equal p ps qs else give false

-- the fields of a struct as the pairs of a dict
abbrev pub named_values : Fields → List (Value × Value)
named_values no_fields = []
named_values (a_field x v fs) = (text_value x, v) ∷ named_values fs

-- ---- fragments, as trees

abbrev pub equal_scalars : {H : Type 0} → Place → (left right : Scalar) → Computation H Bool
equal_scalars p (string a) (string b) = equal_texts p a b
equal_scalars p x y = give (same_key x y)

abbrev pub tree_count : Trees → ℕ
tree_count no_trees = 0
tree_count (tree t ts) = suc (tree_count ts)

abbrev pub pair_count : Pairs → ℕ
pair_count no_pairs = 0
pair_count (pair x t ps) = suc (pair_count ps)

-- the second only where the first is true
abbrev pub and_then : {H : Type 0} → (first second : Computation H Bool) → Computation H Bool
and_then m n = m >>= λ same. if same then n else give false

-- trees whose members stand in so many levels less than may be; pairs in one order
abbrev mutual
  pub equal_trees : {H : Type 0} → Place → (levels : ℕ) → (left right : Tree) → Computation H Bool
  equal_trees p n (scalar x) (scalar y) = equal_scalars p x y
  equal_trees p n (list ts) (list us) = below p n (λ m. if tree_count ts == tree_count us then equal_elements p m ts us else give false)
  equal_trees p n (map ps) (map qs) = below p n (λ m. if pair_count ps == pair_count qs then equal_entries p m ps qs else give false)
  equal_trees p n _ _ = give false

  pub equal_elements : {H : Type 0} → Place → (levels : ℕ) → (left right : Trees) → Computation H Bool
  equal_elements p n (tree t ts) (tree u us) = and_then (paid p (equal_trees p n t u)) (equal_elements p n ts us)
  equal_elements p n _ _ = give true

  pub equal_entries : {H : Type 0} → Place → (levels : ℕ) → (left right : Pairs) → Computation H Bool
  equal_entries p n (pair x t ps) (pair y u qs) = and_then (paid p (and_then (equal_scalars p x y) (equal_trees p n t u))) (equal_entries p n ps qs)
  equal_entries p n _ _ = give true

-- ---- values

-- the name by which what can be called is known
abbrev pub native_name : Native → Name
native_name (builtin x) = x
native_name (method x v) = x
native_name (host_native x held) = x
native_name (replacement v) = codes "template.replace"

-- how what stands in two values is compared
pub record Inside (H : Type 0) : Type 0 where
  pub members : (left right : List Value) → Computation H Bool
  pub pairs : (left right : List (Value × Value)) → Computation H Bool
  pub trees : (left right : Tree) → Computation H Bool

-- two values, where what stands in them is compared so: values of unlike kinds are unequal
abbrev pub equal_by : {H : Type 0} → Inside H → Place → (left right : Value) → Computation H Bool
equal_by inside p none_value none_value = give true
equal_by inside p (bool_value a) (bool_value b) = give (same_bool a b)
equal_by inside p (int_value a) (int_value b) = give (same_integer a b)
equal_by inside p (text_value a) (text_value b) = equal_texts p a b
equal_by inside p (tuple_value vs) (tuple_value ws) = inside.members (values_in vs) (values_in ws)
equal_by inside p (list_value a) (list_value b) = reads (list_at a) >>= λ vs. reads (list_at b) >>= λ ws. inside.members vs ws
equal_by inside p (dict_value a) (dict_value b) = reads (pairs_at a) >>= λ ps. reads (pairs_at b) >>= λ qs. inside.pairs ps qs
equal_by inside p (range_value a b c) (range_value d e f) = inside.members (numbers_of a b c) (numbers_of d e f)
equal_by inside p (struct_value fs) (struct_value gs) = inside.pairs (named_values fs) (named_values gs)
equal_by inside p (fragment_value k cs) (fragment_value j ds) = inside.trees (body_tree (fragment_body k cs)) (body_tree (fragment_body j ds))
equal_by inside p (function_value a) (function_value b) = give (a == b)
equal_by inside p (module_value x fs) (module_value y gs) = give (bytes_eq x y)
equal_by inside p (native_value m) (native_value n) = give (bytes_eq (native_name m) (native_name n))
equal_by inside p a b = give false

-- where what stands in values may stand in so many levels
abbrev pub inside_at : {H : Type 0} → (levels : ℕ) → Place → Inside H
inside_at zero p = record { members = λ vs ws. fail kind.TooDeep p; pairs = λ ps qs. fail kind.TooDeep p; trees = equal_trees p 0 }
inside_at (suc n) p = record { members = equal_members (equal_by (inside_at n p) p) p; pairs = equal_dicts (equal_by (inside_at n p) p) p; trees = equal_trees p (suc n) }

-- whether two values are equal
abbrev pub equality : {H : Type 0} → Place → (left right : Value) → Computation H Bool
equality p a b = equal_by (inside_at max_depth p) p a b

-- whether a member equals the value: 1 and an equality each, up to the first that does
abbrev pub among : {H : Type 0} → Place → Value → (members : List Value) → Computation H Bool
among p v [] = give false
among p v (w ∷ ws) = paid p (equality p w v) >>= λ same. if same then give true else among p v ws
