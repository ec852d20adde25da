-- What a value, a tree and an item are in JSON, by their form.
use Rattle.std.proofs.Common.{◌≡◌, ℕ, zero, suc, List, [], ◌∷◌, refl, ap, ◌∙◌, rules}
use Rattle.ytt_base.specs.declared.fault.Place.{Place}
use Rattle.ytt_base.specs.declared.tree.Key.{Key}
use Rattle.ytt_base.specs.declared.tree.Tree.{Tree}
use Rattle.ytt_base.specs.Trees as trees
use Rattle.ytt_base.specs.View.{key_of, pairs_of, tree_of, trees_of}
use Rattle.code_spec.specs.Code.{Name}
use Rattle.code_spec.specs.Program.{element_item, pair_item}
use Rattle.serde_json.specs.Data as json
use Rattle.serde_json.specs.Data.{Data, item, put}
use Rattle.module_spec.specs.JsonCodec.{body_data, child_key, deeper_data, elements_data, items_by, key_data, members_by, members_data, outer_data, pairs_data, scalar_key, tree_data, trees_data}
use Rattle.star_fragments.proofs.Views.{child_in-item}
use Rattle.star_values.specs.View.{body_in, built_in, scalar_key as key_in}
use Rattle.star_values.specs.declared.value.BuiltItem.{BuiltItem}
use Rattle.star_values.specs.declared.value.BuiltValue as code
use Rattle.star_values.specs.declared.value.BuiltValue.{the_lemmas}
use Rattle.template_meaning.specs.Take.{with_text_keys}
use Rattle.value_spec.specs.Outcomes.{State, give, paid, then_do, ◌>>=◌}
use Rattle.value_spec.specs.Store.{list_at, pairs_at}
use Rattle.value_spec.specs.Values as plain
use Rattle.value_spec.specs.Values.{Children, Fields, Value, Values, a_child, child, dict_value, fields_in, fragment_value, list_of, list_value, map_of, struct_value, tuple_value, values_in}
use Rattle.mod_json.specs.Walk.{Gives, array_of, built_item, built_member, each_item, each_member, object_of, tree_item, tree_member, value_data, value_item, value_member}
use Rattle.mod_json.proofs.InTurn.{under_then}

-- ---- values

module _ (p : Place) (n : ℕ) where
  abbrev inner : Value → Gives Data
  inner w = outer_data (deeper_data n p w) p w

  items_are : (vs : List Value) → items_by inner p vs ≡ each_item (value_item p n) vs
  items_are [] = refl
  items_are (v ∷ vs) = λ i. paid p (inner v) >>= λ d. items_are vs i >>= λ ds. give (item d ds)

  members_are : (ms : List (Value × Value)) → members_by inner p ms ≡ each_member (value_member p n) ms
  members_are [] = refl
  members_are (m ∷ ms) =
      (λ i. paid p (key_data p m.0) >>= λ k. inner m.1 >>= λ d. members_are ms i >>= λ all. give (put k d all))
      ∙ (λ i s. under_then (paid p (key_data p m.0) s) (inner m.1) (λ e. each_member (value_member p n) ms >>= λ all. give (put e.0 e.1 all)) i)

module _ (p : Place) (s : State (Unit {0})) where
  pub list_form : (n : ℕ) (r : ℕ) (vs : List Value) → list_at r s.store ≡ vs → value_data n p (list_value r) s ≡ array_of (value_item p) n p vs s
  list_form zero r vs h = refl
  list_form (suc n) r vs h = (λ i. then_do (items_are p n (h i) i s) (λ ds. give (json.array ds)))

  pub tuple_form : (n : ℕ) (ms : Values) (vs : List Value) → values_in ms ≡ vs → value_data n p (tuple_value ms) s ≡ array_of (value_item p) n p vs s
  tuple_form zero ms vs h = refl
  tuple_form (suc n) ms vs h = (λ i. then_do (items_are p n (h i) i s) (λ ds. give (json.array ds)))

  pub dict_form : (n : ℕ) (r : ℕ) → value_data n p (dict_value r) s ≡ object_of (value_member p) n p (pairs_at r s.store) s
  dict_form zero r = refl
  dict_form (suc n) r = (λ i. then_do (members_are p n (pairs_at r s.store) i s) (λ ms. give (json.object ms)))

  of_struct : (n : ℕ) (fs : Fields) → value_data n p (struct_value fs) s ≡ object_of (value_member p) n p (with_text_keys (fields_in fs)) s
  of_struct zero fs = refl
  of_struct (suc n) fs = (λ i. then_do (members_are p n (with_text_keys (fields_in fs)) i s) (λ ms. give (json.object ms)))

  pub struct_form : (n : ℕ) (v : Value) (fs : Fields) → v ≡ struct_value fs → value_data n p v s ≡ object_of (value_member p) n p (with_text_keys (fields_in fs)) s
  struct_form n v fs e = ap (λ v. value_data n p v s) e ∙ of_struct n fs

-- ---- trees

module _ (p : Place) (n : ℕ) where
  trees_are : (ts : List Tree) → trees_data p n (trees_of ts) ≡ each_item (tree_item p n) ts
  trees_are [] = refl
  trees_are (t ∷ ts) = λ i. paid p (tree_data p n (tree_of t)) >>= λ d. trees_are ts i >>= λ ds. give (item d ds)

  pairs_are : (ps : List (Key × Tree)) → pairs_data p n (pairs_of ps) ≡ each_member (tree_member p n) ps
  pairs_are [] = refl
  pairs_are (e ∷ ps) =
      (λ i. paid p (scalar_key p (key_of e.0)) >>= λ k. tree_data p n (tree_of e.1) >>= λ d. pairs_are ps i >>= λ all. give (put k d all))
      ∙ (λ i s. under_then (paid p (scalar_key p (key_of e.0)) s) (tree_data p n (tree_of e.1)) (λ m. each_member (tree_member p n) ps >>= λ all. give (put m.0 m.1 all)) i)

module _ (p : Place) (s : State (Unit {0})) where
  pub tree_list_form : (n : ℕ) (t : trees.Tree) (ts : List Tree) → t ≡ trees.list (trees_of ts) → tree_data p n t s ≡ array_of (tree_item p) n p ts s
  tree_list_form n t ts e = ap (λ t. tree_data p n t s) e ∙ at n
    where
      at : (n : ℕ) → tree_data p n (trees.list (trees_of ts)) s ≡ array_of (tree_item p) n p ts s
      at zero = refl
      at (suc n) = (λ i. then_do (trees_are p n ts i s) (λ ds. give (json.array ds)))

  pub tree_map_form : (n : ℕ) (t : trees.Tree) (ps : List (Key × Tree)) → t ≡ trees.map (pairs_of ps) → tree_data p n t s ≡ object_of (tree_member p) n p ps s
  tree_map_form n t ps e = ap (λ t. tree_data p n t s) e ∙ at n
    where
      at : (n : ℕ) → tree_data p n (trees.map (pairs_of ps)) s ≡ object_of (tree_member p) n p ps s
      at zero = refl
      at (suc n) = (λ i. then_do (pairs_are p n ps i s) (λ ms. give (json.object ms)))

-- ---- items

pub body_of_map : (held : List Value) (is : List BuiltItem) → body_in held (code.Map is) ≡ map_of (built_in held is)
body_of_map held is = search (rules, the_lemmas)

pub body_of_list : (held : List Value) (is : List BuiltItem) → body_in held (code.List is) ≡ list_of (built_in held is)
body_of_list held is = search (rules, the_lemmas)

module _ (held : List Value) (p : Place) (n : ℕ) where
  elements_are : (is : List BuiltItem) → elements_data p n (built_in held is) ≡ each_item (built_item held p n) is
  elements_are [] = refl
  elements_are (b ∷ is) =
      ap (λ c. elements_data p n (a_child c (built_in held is))) (child_in-item held b)
      ∙ (λ i. paid p (body_data p n (body_in held b.value)) >>= λ d. elements_are is i >>= λ ds. give (item d ds))

  built_are : (is : List BuiltItem) → members_data p n (built_in held is) ≡ each_member (built_member held p n) is
  built_are [] = refl
  built_are (b ∷ is) =
      ap (λ c. members_data p n (a_child c (built_in held is))) (child_in-item held b)
      ∙ (λ i. key >>= λ k. body_data p n (body_in held b.value) >>= λ d. built_are is i >>= λ all. give (put k d all))
      ∙ (λ i s. under_then (key s) (body_data p n (body_in held b.value)) (λ m. each_member (built_member held p n) is >>= λ all. give (put m.0 m.1 all)) i)
    where
      key : Gives Name
      key = paid p (child_key p (key_in b.key))

module _ (held : List Value) (p : Place) (s : State (Unit {0})) where
  pub body_list_form : (n : ℕ) (b : plain.Body) (is : List BuiltItem) → b ≡ list_of (built_in held is) → body_data p n b s ≡ array_of (built_item held p) n p is s
  body_list_form n b is e = ap (λ b. body_data p n b s) e ∙ at n
    where
      at : (n : ℕ) → body_data p n (list_of (built_in held is)) s ≡ array_of (built_item held p) n p is s
      at zero = refl
      at (suc n) = (λ i. then_do (elements_are held p n is i s) (λ ds. give (json.array ds)))

  pub body_map_form : (n : ℕ) (b : plain.Body) (is : List BuiltItem) → b ≡ map_of (built_in held is) → body_data p n b s ≡ object_of (built_member held p) n p is s
  body_map_form n b is e = ap (λ b. body_data p n b s) e ∙ at n
    where
      at : (n : ℕ) → body_data p n (map_of (built_in held is)) s ≡ object_of (built_member held p) n p is s
      at zero = refl
      at (suc n) = (λ i. then_do (built_are held p n is i s) (λ ms. give (json.object ms)))

  at_pairs : (n : ℕ) (is : List BuiltItem) → value_data n p (fragment_value pair_item (built_in held is)) s ≡ object_of (built_member held p) n p is s
  at_pairs zero is = refl
  at_pairs (suc n) is = (λ i. then_do (built_are held p n is i s) (λ ms. give (json.object ms)))

  pub pairs_form : (n : ℕ) (v : Value) (is : List BuiltItem) → v ≡ fragment_value pair_item (built_in held is) → value_data n p v s ≡ object_of (built_member held p) n p is s
  pairs_form n v is e = ap (λ v. value_data n p v s) e ∙ at_pairs n is

  at_elements : (n : ℕ) (is : List BuiltItem) → value_data n p (fragment_value element_item (built_in held is)) s ≡ array_of (built_item held p) n p is s
  at_elements zero is = refl
  at_elements (suc n) is = (λ i. then_do (elements_are held p n is i s) (λ ds. give (json.array ds)))

  pub elements_form : (n : ℕ) (v : Value) (is : List BuiltItem) → v ≡ fragment_value element_item (built_in held is) → value_data n p v s ≡ array_of (built_item held p) n p is s
  elements_form n v is e = ap (λ v. value_data n p v s) e ∙ at_elements n is
