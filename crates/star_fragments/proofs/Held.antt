-- The members of fragments, and what they hold.
use Rattle.star_steps.proofs.Names.{◌≡◌, ℕ, zero, suc, ◌+◌, ◌<◌, ◌≤◌, true, false, if◌then◌else◌, drop, get_or, Ok, List, [], ◌∷◌, ◌++◌, length, Option, Some, None, refl, sym, ap, subst, ◌∙◌, rules, arith, slice_get, map, drop_more, drop_of_length-le, slice_get-get_or, Scalar, max_depth, Place, body_paid, State, done, then_do, fresh_body, body_at, body_under, body_value, child_count, has_key, Each, Owns, OwnsAll, OwnsBuilt, OwnsItem, all_values, body_values, item_values, note_values, values_of_item, View, body_in, built_in, scalar_key, BuiltItem, BuiltValue, fold-BuiltValue, the_lemmas, Value, some_same, Gives, state_in, value_of}
use Rattle.value_spec.specs.Values as plain
use Rattle.star_values.specs.declared.value.BuiltValue as code
use Rattle.star_fragments.specs.Fragments.{Finds}
use Rattle.star_fragments.specs.Fresh.{Builds, OwnsBody}
use Rattle.star_fragments.specs.Nodes.{spread_body}
use Rattle.star_fragments.proofs.Spread.{body_paid_spread}
use Rattle.star_fragments.proofs.Views.{child_in-item}

pub built_count : (held : List plain.Value) (is : List BuiltItem) → child_count (built_in held is) ≡ length is
built_count held [] = refl
built_count held (i ∷ is) = ap suc (built_count held is)

pub held_here : (held : List plain.Value) (is : List BuiltItem) (n : ℕ) (i : BuiltItem) → slice_get is n ≡ Some i → body_at n (built_in held is) ≡ Some (body_in held i.value)
held_here held [] n i e = absurd (search (rules, e))
held_here held (j ∷ is) zero i e =
    let s : j ≡ i = search (rules, e) in
    ap (λ c. body_at 0 (plain.a_child c (built_in held is))) (child_in-item held j) ∙ ap (λ (j : BuiltItem). Some (body_in held j.value)) s
held_here held (j ∷ is) (suc n) i e =
    ap (λ c. body_at (suc n) (plain.a_child c (built_in held is))) (child_in-item held j) ∙ held_here held is n i e

pub there : {A : Type 0} (xs : List A) (i : ℕ) → i < length xs → None ≡ slice_get xs i → ⊥
there [] i lt e = omega (arith, lt)
there (x ∷ xs) zero lt e = search (rules, e)
there (x ∷ xs) (suc i) lt e = there xs i (omega (arith, lt)) e

-- there is a member at each place before the count
pub body_there : (n : ℕ) (cs : plain.Children) → n < child_count cs → (b : plain.Body) × (body_at n cs ≡ Some b)
body_there n plain.no_children lt = absurd (omega (arith, lt))
body_there zero (plain.a_child (plain.child q ns y b) cs) lt = (b, refl)
body_there (suc n) (plain.a_child (plain.child q ns y b) cs) lt = body_there n cs (omega (arith, lt))

-- ---- what is owned

behind : {A : Type 0} (P : A → Type 0) (xs ys : List A) → Each P (xs ++ ys) → Each P ys
behind P [] ys h = h
behind P (x ∷ xs) ys h = behind P xs ys h.1

before : {A : Type 0} (P : A → Type 0) (xs ys : List A) → Each P (xs ++ ys) → Each P xs
before P [] ys h = tt
before P (x ∷ xs) ys h = (h.0, before P xs ys h.1)

abbrev held_values : BuiltValue → List Value
held_values = fold-BuiltValue (List Value) (List Value) body_values item_values

item_held : (i : BuiltItem) → values_of_item i ≡ note_values i.notes ++ held_values i.value
item_held i = search (rules, the_lemmas)

pub body_owned : (a : View) (i : BuiltItem) → OwnsItem a i → OwnsBody a i.value
body_owned a i o = behind (Owns a) (note_values i.notes) (held_values i.value) (subst (OwnsAll a) (item_held i) o)

items_owned : (a : View) (is : List BuiltItem) → OwnsAll a (all_values (map values_of_item is)) → OwnsBuilt a is
items_owned a [] o = tt
items_owned a (i ∷ is) o =
    let more = all_values (map values_of_item is) in
    (before (Owns a) (values_of_item i) more o, items_owned a is (behind (Owns a) (values_of_item i) more o))

map_values : (is : List BuiltItem) → held_values (code.Map is) ≡ all_values (map values_of_item is)
map_values is = search (rules, the_lemmas)

list_values : (is : List BuiltItem) → held_values (code.List is) ≡ all_values (map values_of_item is)
list_values is = search (rules, the_lemmas)

pub map_owned : (a : View) (w : BuiltValue) (is : List BuiltItem) → w ≡ code.Map is → OwnsBody a w → OwnsBuilt a is
map_owned a w is e o = items_owned a is (subst (OwnsAll a) (ap held_values e ∙ map_values is) o)

pub list_owned : (a : View) (w : BuiltValue) (is : List BuiltItem) → w ≡ code.List is → OwnsBody a w → OwnsBuilt a is
list_owned a w is e o = items_owned a is (subst (OwnsAll a) (ap held_values e ∙ list_values is) o)

-- ---- a copy after its size

-- there stands the body b, which is that of w; what is paid for is x
module _ (a : View) (p : Place) (b : plain.Body) (w : BuiltValue) (x : plain.Body) (o : Option plain.Body) (s : State (Unit {0})) (there : o ≡ Some b) (here : o ≡ Some (body_in a.held w)) (seen_so : x ≡ spread_body (body_in a.held w)) where
  same_body : b ≡ body_in a.held w
  same_body = some_same b (body_in a.held w) (sym there ∙ here)

  pub sized : body_paid p max_depth b s ≡ body_paid p max_depth x s
  sized = ap (λ b. body_paid p max_depth b s) same_body ∙ ap (λ m. m s) (sym (body_paid_spread p max_depth (body_in a.held w))) ∙ ap (λ x. body_paid p max_depth x s) (sym seen_so)

  pub value_built : (copy : BuiltValue) (u : Unit {0}) (v : Value) (c : View) (n : ℕ) → body_paid p max_depth x s ≡ done u (state_in a n) → copy ≡ w → Builds value_of Owns (fresh_body (body_in a.held copy)) (Ok v) a c → Gives (body_value p b s) (Ok v) a c n
  value_built copy u v c n paid is h = record {
    meaning = ap (λ o. then_do o (λ u. fresh_body b)) (sized ∙ paid) ∙ ap (λ b. fresh_body b (state_in a n)) (same_body ∙ ap (body_in a.held) (sym is)) ∙ h.meaning n;
    owns = h.owns;
    grows = h.grows;
  }

-- ---- the first member with a key

module _ (held : List plain.Value) (is : List BuiltItem) (n : ℕ) (i : BuiltItem) (x : Scalar) (lt : n < length is) (at : i ≡ get_or is n i) where
  -- what the rest begins with
  under_first : body_under x (built_in held (drop n is)) ≡ (if has_key x (scalar_key i.key) then Some (body_in held i.value) else body_under x (built_in held (drop (n + 1) is)))
  under_first =
      ap (λ l. body_under x (built_in held l)) (drop_more is n i lt ∙ ap (λ i. i ∷ drop (n + 1) is) (sym at))
      ∙ ap (λ c. body_under x (plain.a_child c (built_in held (drop (n + 1) is)))) (child_in-item held i)

  pub not_under : has_key x (scalar_key i.key) ≡ false → body_under x (built_in held (drop n is)) ≡ body_under x (built_in held (drop (n + 1) is))
  not_under h = under_first ∙ ap (λ h. if h then Some (body_in held i.value) else body_under x (built_in held (drop (n + 1) is))) h

  pub under_found : has_key x (scalar_key i.key) ≡ true → body_under x (built_in held is) ≡ body_under x (built_in held (drop n is)) → Finds x (built_in held is) (Some n)
  under_found h before =
      let here : slice_get is n ≡ Some i = slice_get-get_or is n i lt ∙ ap Some (sym at) in (
        subst (λ m. n < m) (sym (built_count held is)) lt,
        before ∙ under_first ∙ ap (λ h. if h then Some (body_in held i.value) else body_under x (built_in held (drop (n + 1) is))) h ∙ sym (held_here held is n i here),
      )

pub none_under : (held : List plain.Value) (is : List BuiltItem) (n : ℕ) (x : Scalar) → length is ≤ n → body_under x (built_in held is) ≡ body_under x (built_in held (drop n is)) → body_under x (built_in held is) ≡ None
none_under held is n x past h = h ∙ ap (λ l. body_under x (built_in held l)) (drop_of_length-le is past)

pub found_at : (x y : Scalar) (o : Option Scalar) (cs ds : plain.Children) (r : Option ℕ) → Some y ≡ o → o ≡ Some x → cs ≡ ds → Finds y ds r → Finds x cs r
found_at x y o cs ds r e f g h = subst (λ cs. Finds x cs r) (sym g) (subst (λ z. Finds z ds r) (some_same y x (e ∙ f)) h)
