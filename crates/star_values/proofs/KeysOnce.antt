-- Values that are equal as keys are one, since keys stand once.
use Rattle.std.proofs.Common.{◌≡◌, ◌∷◌}
use Rattle.star_values.proofs.Names.{ℤ, pos, negsuc, Bool, true, false, List, [], get_or, Some, IsTrue, slice_get, refl, sym, ap, subst, ◌∙◌, rules, tests, and_parts, get_or_from_slice_get, bytes_eq-Decides, same_bool, same_integer, IsKey, AreKeys, same_key, same_keys, none_value, bool_value, int_value, text_value, tuple_value, no_values, a_value, values_from, Sort, Ref, Value, Held, Contents, Identified, pairs_of, held_value, held_sort, OwnsHeldRef, Owns, OwnsAll, OwnsPair, OwnsHeld, OwnsContents, OneKey, KeysOnce, SameHeld, View, text_in, members_in, value_in, value_of, values_of}
use Rattle.value_spec.specs.Values as plain
use Rattle.star_values.specs.declared.value.Sort.TheVariants as sort
use Rattle.star_values.specs.declared.value.Value.TheVariants as value
use Rattle.star_values.specs.declared.held.Held.TheVariants as held
use Rattle.star_values.specs.declared.lent.Lent.TheVariants as lent
use Rattle.star_values.specs.declared.object.Contents.TheVariants as contents
use Rattle.star_values.proofs.Growing.{each_as, some_held}
use Rattle.star_values.proofs.Slots.{thing_known}

-- ---- equal keys are one value of the definitions

same_bools : (a b : Bool) → IsTrue (same_bool a b) → a ≡ b
same_bools true true h = refl
same_bools false false h = refl
same_bools true false h = absurd (search (rules, h))
same_bools false true h = absurd (search (rules, h))

same_integers : (a b : ℤ) → IsTrue (same_integer a b) → a ≡ b
same_integers (pos m) (pos n) h = ap pos (search (rules, tests, h))
same_integers (negsuc m) (negsuc n) h = ap negsuc (search (rules, tests, h))
same_integers (pos m) (negsuc n) h = absurd (search (rules, h))
same_integers (negsuc m) (pos n) h = absurd (search (rules, h))

mutual
  same_value : (x y : plain.Value) → IsTrue (same_key x y) → x ≡ y
  same_value none_value none_value h = refl
  same_value (bool_value a) (bool_value b) h = ap bool_value (same_bools a b h)
  same_value (int_value a) (int_value b) h = ap int_value (same_integers a b h)
  same_value (text_value t) (text_value u) h = ap text_value ((bytes_eq-Decides t u).0 h)
  same_value (tuple_value xs) (tuple_value ys) h = ap tuple_value (same_values xs ys h)
  same_value none_value _ h = absurd (search (rules, h))
  same_value (bool_value a) _ h = absurd (search (rules, h))
  same_value (int_value a) _ h = absurd (search (rules, h))
  same_value (text_value t) _ h = absurd (search (rules, h))
  same_value (tuple_value xs) _ h = absurd (search (rules, h))
  same_value _ y h = absurd (search (rules, h))

  same_values : (xs ys : plain.Values) → IsTrue (same_keys xs ys) → xs ≡ ys
  same_values no_values no_values h = refl
  same_values (a_value x xs) (a_value y ys) h =
      let k = and_parts (same_key x y) (same_keys xs ys) h in
      λ i. a_value (same_value x y k.0 i) (same_values xs ys k.1 i)
  same_values no_values (a_value y ys) h = absurd (search (rules, h))
  same_values (a_value x xs) no_values h = absurd (search (rules, h))

-- ---- where an owned key stands

-- the value is this key, which stands at its place
abbrev KeyAt : (held : List plain.Value) → plain.Value → Value → Type 0
KeyAt held none_value v = v ≡ value.None
KeyAt held (bool_value b) v = v ≡ value.Bool b
KeyAt held (int_value z) v = v ≡ value.Int z
KeyAt held (text_value t) v = (r : Ref) × (v ≡ value.Text r) × (r.sort ≡ sort.Text) × (slice_get held r.at ≡ Some (text_value t))
KeyAt held (tuple_value xs) v = (r : Ref) × (v ≡ value.Tuple r) × (r.sort ≡ sort.Tuple) × (slice_get held r.at ≡ Some (tuple_value xs))
KeyAt held _ v = ⊥

a_text : (x : plain.Value) → held_sort (Some x) ≡ Some sort.Text → x ≡ text_value (text_in x)
a_text (text_value t) e = refl
a_text _ e = absurd (search (rules, e))

a_tuple : (x : plain.Value) → held_sort (Some x) ≡ Some sort.Tuple → x ≡ tuple_value (members_in x)
a_tuple (tuple_value xs) e = refl
a_tuple _ e = absurd (search (rules, e))

-- what an owned reference names stands there
stands : (a : View) (k : Sort) (r : Ref) (f : plain.Value → plain.Value) → ((x : plain.Value) → held_sort (Some x) ≡ Some k → x ≡ f x) → OwnsHeldRef a k r → slice_get a.held r.at ≡ Some (f (get_or a.held r.at none_value))
stands a k r f same o =
    let x = some_held (slice_get a.held r.at) k o.1 in
    x.1 ∙ ap Some (same x.0 (sym (ap held_sort x.1) ∙ o.1) ∙ ap f (sym (get_or_from_slice_get a.held r.at x.0 none_value x.1)))

keyed : (a : View) (v : Value) → Owns a v → IsKey (value_of a v) → KeyAt a.held (value_of a v) v
keyed a value.None o k = refl
keyed a (value.Bool b) o k = refl
keyed a (value.Int z) o k = refl
keyed a (value.Text r) o k = (r, refl, o.0, stands a sort.Text r (λ x. text_value (text_in x)) a_text o)
keyed a (value.Tuple r) o k = (r, refl, o.0, stands a sort.Tuple r (λ x. tuple_value (members_in x)) a_tuple o)
keyed a _ o k = absurd k

-- ---- owned keys

one_ref : (k : Sort) (q r : Ref) → q.sort ≡ k → r.sort ≡ k → q.at ≡ r.at → q ≡ r
one_ref k q r s t e = λ i. record { at = e i; sort = (s ∙ sym t) i }

one_at : (held : List plain.Value) → KeysOnce held → (x : plain.Value) (v k : Value) → IsKey x → KeyAt held x v → KeyAt held x k → v ≡ k
one_at held once none_value v k i p q = p ∙ sym q
one_at held once (bool_value b) v k i p q = p ∙ sym q
one_at held once (int_value z) v k i p q = p ∙ sym q
one_at held once (text_value t) v k i p q = p.1 ∙ ap value.Text (one_ref sort.Text p.0 q.0 p.2 q.2 (once p.0.at q.0.at (text_value t) i p.3 q.3)) ∙ sym q.1
one_at held once (tuple_value xs) v k i p q = p.1 ∙ ap value.Tuple (one_ref sort.Tuple p.0 q.0 p.2 q.2 (once p.0.at q.0.at (tuple_value xs) i p.3 q.3)) ∙ sym q.1
one_at held once _ v k i p q = absurd p

-- owned values that are the same key are one
one_value : (a : View) → KeysOnce a.held → (v k : Value) → Owns a v → Owns a k → IsKey (value_of a k) → value_of a v ≡ value_of a k → v ≡ k
one_value a once v k o w key e = one_at a.held once (value_of a k) v k key (subst (λ x. KeyAt a.held x v) e (keyed a v o (subst IsKey (sym e) key))) (keyed a k w key)

-- and so are owned values that are equal as keys
pub one_key : (a : View) → KeysOnce a.held → (k : Value) → Owns a k → IsKey (value_of a k) → OneKey a k
one_key a once k o key v w h = one_value a once v k w o key (same_value _ _ h)

-- and the keys of an owned dict that are equal to an owned key are it
pub identified : (a : View) (c : Contents) (k : Value) → OneKey a k → IsKey (value_of a k) → OwnsContents a c → Identified a.held k (pairs_of c)
identified a (contents.List vs) k one key o = (key, tt)
identified a (contents.Dict m) k one key o = (key, each_as (OwnsPair a) (λ (p : Value × Value). IsTrue (same_key (value_in a.held p.0) (value_in a.held k)) → p.0 ≡ k) m.entries (λ p h t. one p.0 h.0 t) o)
identified a (contents.Lent (lent.List vs) more) k one key o = (key, tt)
identified a (contents.Lent (lent.Dict m) more) k one key o = (key, each_as (OwnsPair a) (λ (p : Value × Value). IsTrue (same_key (value_in a.held p.0) (value_in a.held k)) → p.0 ≡ k) m.value.entries (λ p h t. one p.0 h.0 t) o)
identified a (contents.Box v) k one key o = (key, tt)
identified a (contents.Func f) k one key o = (key, tt)

-- ---- held things that are keys

one_each : (a : View) → KeysOnce a.held → (vs ks : List Value) → OwnsAll a vs → OwnsAll a ks → AreKeys (values_from (values_of a ks)) → values_from (values_of a vs) ≡ values_from (values_of a ks) → vs ≡ ks
one_each a once [] [] o w key e = refl
one_each a once (v ∷ vs) (k ∷ ks) o w key e =
    let first : value_of a v ≡ value_of a k = search (rules, e) in
    let more : values_from (values_of a vs) ≡ values_from (values_of a ks) = search (rules, e) in
    λ n. one_value a once v k o.0 w.0 key.0 first n ∷ one_each a once vs ks o.1 w.1 key.1 more n
one_each a once [] (k ∷ ks) o w key e = absurd (search (rules, e))
one_each a once (v ∷ vs) [] o w key e = absurd (search (rules, e))

-- where two are one key, they are the same
pub same_if_key : (a : View) → KeysOnce a.held → (g h : Held) → OwnsHeld a g → OwnsHeld a h → IsKey (held_value a.held h) → held_value a.held g ≡ held_value a.held h → SameHeld g h
same_if_key a once (held.Text v) (held.Text w) o p key e = ap text_in e
same_if_key a once (held.Tuple vs) (held.Tuple ws) o p key e = one_each a once vs.items ws.items o p key (ap members_in e)
same_if_key a once (held.Text v) (held.Tuple ws) o p key e = absurd (search (rules, e))
same_if_key a once (held.Tuple vs) (held.Text w) o p key e = absurd (search (rules, e))
same_if_key a once g (held.Other n) o p key e = absurd ((thing_known a.held n.thing).1 key)
same_if_key a once (held.Other n) h o p key e = absurd ((thing_known a.held n.thing).1 (subst IsKey (sym e) key))
