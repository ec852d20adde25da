-- The tree of a value, by the form of the value.
use Rattle.std.proofs.Common.{◌≡◌, ℕ, zero, suc, List, Option, Some, None, Result, Err, refl, sym, ap, ◌∙◌, rules}
use Rattle.std.proofs.lemmas.Option.{same_Some}
use Rattle.ytt_base.proofs.Views.{tree_of-Str}
use Rattle.ytt_base.specs.declared.fault.Place.{Place}
use Rattle.ytt_base.specs.declared.fault.Stop.{Stop}
use Rattle.ytt_base.specs.declared.tree.Tree as code
use Rattle.ytt_base.specs.declared.tree.Tree.{Tree as Built}
use Rattle.ytt_base.specs.Trees.{Scalar, list, map, scalar, string}
use Rattle.ytt_base.specs.View.{tree_of}
use Rattle.code_spec.specs.Program.{pair_item, element_item}
use Rattle.star_steps.proofs.Meeting.{meets_same, meets_stop}
use Rattle.star_steps.specs.Meets.{Meets}
use Rattle.star_values.specs.Owns.{contents_sort, object_sort}
use Rattle.star_values.specs.declared.value.Sort.TheVariants as sort
use Rattle.template_meaning.specs.Take.{object_tree, tree_of_value, trees_by, with_text_keys}
use Rattle.value_spec.specs.Built.{children_pairs, children_trees}
use Rattle.value_spec.specs.Outcomes.{Ending, State, done, asks, bad, give, then_do, ◌>>=◌}
use Rattle.value_spec.specs.Store.{list_at, list_in, list_of_contents, object_at, pairs_at, pairs_in, pairs_of_contents}
use Rattle.value_spec.specs.Values.{Children, Contents, Object, Value, Values, Fields, dict_value, fields_in, fragment_value, list_value, of_box, of_dict, of_function, of_list, struct_value, text_value, tuple_value, values_in}
use Rattle.node_build.proofs.Taking.{done_then}
use Rattle.node_build.specs.Taking.{items_taken, list_taken, map_taken, members_taken, pairs_taken, text_taken}

module _ (n : ℕ) (p : Place) (s : State (Unit {0})) where
  -- ---- texts

  as_scalar : (x : Scalar) (o : Ending (Unit {0}) (Unit {0})) → then_do o (λ u. give (scalar x)) ≡ then_do (then_do o (λ u. give x)) (λ x. give (scalar x))
  as_scalar x (done u t) = refl
  as_scalar x (bad f t) = refl
  as_scalar x (asks q t k) = λ i. asks q t (λ got u. as_scalar x (k got u) i)

  text_form : (v : Value) (t : List ℕ) → v ≡ text_value t → tree_of_value n p v s ≡ then_do (text_taken p t s) (λ x. give (scalar x))
  text_form v t e = ap (λ v. tree_of_value n p v s) e ∙ as_scalar (string t) _

  pub text_paid : (v : Value) (t u : List ℕ) (end : State (Unit {0})) → v ≡ text_value t → text_taken p t s ≡ done (string u) end → tree_of_value n p v s ≡ done (tree_of (code.Str u)) end
  text_paid v t u end e m = text_form v t e ∙ done_then _ _ _ _ _ m (ap (λ x. done x end) (sym (tree_of-Str u)))

  pub text_stop : (v : Value) (t : List ℕ) (x : Stop) (end : State (Unit {0})) (r : Result Built Stop) → v ≡ text_value t → Meets {A = List ℕ} (λ t. string t) (Err x) end (text_taken p t s) → r ≡ Err x → Meets tree_of r end (tree_of_value n p v s)
  text_stop v t x end r e m is = meets_same tree_of r end _ _ (text_form v t e) (meets_stop {A = List ℕ} (λ t. string t) tree_of x end _ (λ x. give (scalar x)) r m is)

-- ---- lists, tuples and structs

module _ (p : Place) (s : State (Unit {0})) where
  in_list : (n : ℕ) (c : Contents) (o : Object) (vs : List Value) → o.contents ≡ c → contents_sort c ≡ sort.List → list_of_contents c ≡ vs → object_tree (λ w. tree_of_value n p w) p (Some o) s ≡ (members_taken n p vs >>= λ ts. give (list ts)) s
  unfolding members_taken
  in_list n (of_list ws) o vs e k h = ap (λ c. object_tree (λ w. tree_of_value n p w) p (Some (record o { contents = c })) s) e ∙ ap (λ vs. (trees_by (λ v. tree_of_value n p v) p vs >>= λ ts. give (list ts)) s) h
  in_list n (of_dict ps) o vs e k h = absurd (search (rules, k))
  in_list n (of_box b) o vs e k h = absurd (search (rules, k))
  in_list n (of_function f) o vs e k h = absurd (search (rules, k))

  at_list : (n : ℕ) (o : Option Object) (vs : List Value) → object_sort o ≡ Some sort.List → list_in o ≡ vs → object_tree (λ w. tree_of_value n p w) p o s ≡ (members_taken n p vs >>= λ ts. give (list ts)) s
  at_list n None vs k h = absurd (search (rules, k))
  at_list n (Some o) vs k h = in_list n o.contents o vs refl (same_Some _ _ k) h

  pub list_form : (n : ℕ) (r : ℕ) (vs : List Value) → object_sort (object_at r s.store) ≡ Some sort.List → list_at r s.store ≡ vs → tree_of_value n p (list_value r) s ≡ list_taken n p vs s
  list_form zero r vs k h = refl
  list_form (suc n) r vs k h = at_list n (object_at r s.store) vs k h

  pub tuple_form : (n : ℕ) (ms : Values) (vs : List Value) → values_in ms ≡ vs → tree_of_value n p (tuple_value ms) s ≡ list_taken n p vs s
  unfolding members_taken
  tuple_form zero ms vs h = refl
  tuple_form (suc n) ms vs h = ap (λ vs. (trees_by (λ v. tree_of_value n p v) p vs >>= λ ts. give (list ts)) s) h

  -- ---- dicts and structs

  in_dict : (n : ℕ) (c : Contents) (o : Object) → o.contents ≡ c → contents_sort c ≡ sort.Dict → object_tree (λ w. tree_of_value n p w) p (Some o) s ≡ (pairs_taken n p (pairs_of_contents c) >>= λ ps. give (map ps)) s
  unfolding pairs_taken
  in_dict n (of_dict ps) o e k = ap (λ c. object_tree (λ w. tree_of_value n p w) p (Some (record o { contents = c })) s) e
  in_dict n (of_list ws) o e k = absurd (search (rules, k))
  in_dict n (of_box b) o e k = absurd (search (rules, k))
  in_dict n (of_function f) o e k = absurd (search (rules, k))

  at_dict : (n : ℕ) (o : Option Object) → object_sort o ≡ Some sort.Dict → object_tree (λ w. tree_of_value n p w) p o s ≡ (pairs_taken n p (pairs_in o) >>= λ ps. give (map ps)) s
  at_dict n None k = absurd (search (rules, k))
  at_dict n (Some o) k = in_dict n o.contents o refl (same_Some _ _ k)

  pub dict_form : (n : ℕ) (r : ℕ) → object_sort (object_at r s.store) ≡ Some sort.Dict → tree_of_value n p (dict_value r) s ≡ map_taken n p (pairs_at r s.store) s
  dict_form zero r k = refl
  dict_form (suc n) r k = at_dict n (object_at r s.store) k

  of_struct : (n : ℕ) (fs : Fields) → tree_of_value n p (struct_value fs) s ≡ map_taken n p (with_text_keys (fields_in fs)) s
  unfolding pairs_taken
  of_struct zero fs = refl
  of_struct (suc n) fs = refl

  pub struct_form : (n : ℕ) (v : Value) (fs : Fields) → v ≡ struct_value fs → tree_of_value n p v s ≡ map_taken n p (with_text_keys (fields_in fs)) s
  struct_form n v fs e = ap (λ v. tree_of_value n p v s) e ∙ of_struct n fs

  -- ---- fragments

  pub pairs_form : (n : ℕ) (v : Value) (cs : Children) → v ≡ fragment_value pair_item cs → tree_of_value n p v s ≡ items_taken n p (λ cs. map (children_pairs cs)) cs s
  pairs_form n v cs e = ap (λ v. tree_of_value n p v s) e ∙ at n
    where
      at : (n : ℕ) → tree_of_value n p (fragment_value pair_item cs) s ≡ items_taken n p (λ cs. map (children_pairs cs)) cs s
      at zero = refl
      at (suc n) = refl

  pub elements_form : (n : ℕ) (v : Value) (cs : Children) → v ≡ fragment_value element_item cs → tree_of_value n p v s ≡ items_taken n p (λ cs. list (children_trees cs)) cs s
  elements_form n v cs e = ap (λ v. tree_of_value n p v s) e ∙ at n
    where
      at : (n : ℕ) → tree_of_value n p (fragment_value element_item cs) s ≡ items_taken n p (λ cs. list (children_trees cs)) cs s
      at zero = refl
      at (suc n) = refl
