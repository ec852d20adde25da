-- No number that a value is in JSON is a float.
use Rattle.std.proofs.Common.{◌≡◌, ℕ, zero, suc, ℤ, pos, negsuc, Bool, true, false, List, [], ◌∷◌, Some, None, Ordering, Less, Equal, Greater, if◌then◌else◌, Result, length, true≢false, refl, subst}
use Rattle.std.specs.Ordering.{match_ordering, nat_cmp}
use Rattle.std.specs.Cmp.Lexicographic.{slice_cmp}
use Rattle.std.specs.Prelude.{nat_lt, ◌^◌, ◌||◌}
use Rattle.ytt_base.specs.declared.fault.Fault.{Fault}
use Rattle.ytt_base.specs.declared.fault.FaultKind.TheVariants as kind
use Rattle.ytt_base.specs.declared.fault.Place.{Place}
use Rattle.ytt_base.specs.Trees.{Scalar, null, boolean, integer, string, Tree, scalar, list, map, Trees, no_trees, tree, Pairs, no_pairs, pair}
use Rattle.code_spec.specs.Code.{Name}
use Rattle.code_spec.specs.Program.{document_item, element_item, pair_item}
use Rattle.serde_json.specs.Data as json
use Rattle.serde_json.specs.Data.{Data, Num, Items, no_items, item, Members, no_members, member, put}
use Rattle.serde_json.specs.Find.{is_float}
use Rattle.serde_json.specs.Written.{has_float, items_have_float, members_have_float}
use Rattle.module_spec.specs.JsonCodec.{body_data, deeper_data, elements_data, inner_data, items_by, members_by, members_data, number_data, outer_data, pairs_data, scalar_data, text_data, tree_data, trees_data}
use Rattle.template_meaning.specs.Take.{with_text_keys}
use Rattle.value_spec.specs.Built.{below}
use Rattle.value_spec.specs.Keys.{text_cost}
use Rattle.value_spec.specs.Outcomes.{Ending, Reply, State, asks, bad, done, give, or_fail, paid, reads, take_steps, then_do, ◌>>=◌}
use Rattle.value_spec.specs.Store.{list_at, pairs_at}
use Rattle.value_spec.specs.Values.{Body, Children, Value, a_child, bool_value, child, dict_value, fields_in, fragment_value, function_value, int_value, list_of, list_value, map_of, module_value, native_value, no_children, none_value, one, range_value, struct_value, text_value, tuple_value, values_in}
use Rattle.mod_json.specs.Walk.{Gives, value_data}

-- ---- what holds of each value that may be given

abbrev Holds : {A : Type 0} → (A → Type 0) → Ending (Unit {0}) A → Type 0
Holds P (done a s) = P a
Holds P (bad f s) = Unit {0}
Holds P (asks q s k) = (got : Result Reply Fault) (t : State (Unit {0})) → Holds P (k got t)

abbrev Always : {A : Type 0} → (A → Type 0) → Gives A → Type 0
Always P m = (s : State (Unit {0})) → Holds P (m s)

then_holds : {A B : Type 0} (Q : B → Type 0) (P : A → Type 0) (o : Ending (Unit {0}) A) (k : A → Gives B) → Holds P o → ((a : A) → P a → Always Q (k a)) → Holds Q (then_do o k)
then_holds Q P (done a s) k h f = f a h s
then_holds Q P (bad x s) k h f = tt
then_holds Q P (asks q s m) k h f = λ got t. then_holds Q P (m got t) k (h got t) f

bind : {A B : Type 0} (Q : B → Type 0) (P : A → Type 0) (m : Gives A) (k : A → Gives B) → Always P m → ((a : A) → P a → Always Q (k a)) → Always Q (m >>= k)
bind Q P m k h f = λ s. then_holds Q P (m s) k (h s) f

after_any : {A B : Type 0} (Q : B → Type 0) (k : A → Gives B) → ((a : A) → Always Q (k a)) → (o : Ending (Unit {0}) A) → Holds Q (then_do o k)
after_any Q k f (done a s) = f a s
after_any Q k f (bad x s) = tt
after_any Q k f (asks q s m) = λ got t. after_any Q k f (m got t)

-- whatever comes before
behind : {A B : Type 0} (Q : B → Type 0) (m : Gives A) (k : A → Gives B) → ((a : A) → Always Q (k a)) → Always Q (m >>= k)
behind Q m k f = λ s. after_any Q k f (m s)

deeper : {A : Type 0} (P : A → Type 0) (p : Place) (n : ℕ) (f : ℕ → Gives A) → ((m : ℕ) → Always P (f m)) → Always P (below p n f)
deeper P p zero f h = λ s. tt
deeper P p (suc n) f h = h n

-- ---- none is a float

abbrev PlainData : Data → Type 0
PlainData d = has_float d ≡ false

abbrev PlainItems : Items → Type 0
PlainItems ds = items_have_float ds ≡ false

abbrev PlainMembers : Members → Type 0
PlainMembers ms = members_have_float ms ≡ false

neither : (a b : Bool) → a ≡ false → b ≡ false → (a || b) ≡ false
neither a b e f = λ i. e i || f i

first_not : (a b : Bool) → (a || b) ≡ false → a ≡ false
first_not true b e = e
first_not false b e = refl

second_not : (a b : Bool) → (a || b) ≡ false → b ≡ false
second_not true b e = absurd (true≢false e)
second_not false b e = e

put_by : (o : Ordering) (k l : Name) (d e : Data) (ms more : Members) → PlainData d → PlainMembers (member l e ms) → PlainMembers more → PlainMembers (match_ordering o (member k d (member l e ms)) (member l d ms) (member l e more))
put_by Less k l d e ms more h g t = neither _ _ h g
put_by Equal k l d e ms more h g t = neither _ _ h (second_not (has_float e) _ g)
put_by Greater k l d e ms more h g t = neither _ _ (first_not (has_float e) _ g) t

put_plain : (k : Name) (d : Data) (ms : Members) → PlainData d → PlainMembers ms → PlainMembers (put k d ms)
put_plain k d no_members h g = neither _ _ h refl
put_plain k d (member l e ms) h g = put_by (slice_cmp nat_cmp k l) k l d e ms (put k d ms) h g (put_plain k d ms h (second_not (has_float e) _ g))

-- an item, and an entry, before others
item_plain : (m : Gives Data) (rest : Gives Items) → Always PlainData m → Always PlainItems rest → Always PlainItems (m >>= λ d. rest >>= λ ds. give (item d ds))
item_plain m rest h g = bind PlainItems PlainData m _ h (λ d e. bind PlainItems PlainItems rest _ g (λ ds f s. neither _ _ e f))

member_plain : (key : Gives Name) (m : Gives Data) (rest : Gives Members) → Always PlainData m → Always PlainMembers rest → Always PlainMembers (key >>= λ k. m >>= λ d. rest >>= λ ms. give (put k d ms))
member_plain key m rest h g = behind PlainMembers key _ (λ k. bind PlainMembers PlainData m _ h (λ d e. bind PlainMembers PlainMembers rest _ g (λ ms f s. put_plain k d ms e f)))

array_plain : (m : Gives Items) → Always PlainItems m → Always PlainData (m >>= λ ds. give (json.array ds))
array_plain m h = bind PlainData PlainItems m _ h (λ ds e s. e)

object_plain : (m : Gives Members) → Always PlainMembers m → Always PlainData (m >>= λ ms. give (json.object ms))
object_plain m h = bind PlainData PlainMembers m _ h (λ ms e s. e)

paid_plain : (p : Place) (m : Gives Data) → Always PlainData m → Always PlainData (paid p m)
paid_plain p m h = behind PlainData (take_steps 1 p) _ (λ u. h)

-- ---- scalars

number_by : (p : Place) (b : Bool) (n : Num) → is_float n ≡ false → Always PlainData (or_fail kind.CodecForm p (if b then Some n else None) >>= λ n. give (json.number n))
number_by p true n e = λ s. e
number_by p false n e = λ s. tt

number_plain : (p : Place) (z : ℤ) → Always PlainData (number_data p z)
number_plain p (pos n) = number_by p (nat_lt n (2 ^ 64)) (json.unsigned n) refl
number_plain p (negsuc n) = number_by p (nat_lt n (2 ^ 63)) (json.negative (negsuc n)) refl

text_plain : (p : Place) (t : List ℕ) → Always PlainData (text_data p t)
text_plain p t = behind PlainData (take_steps (text_cost (length t)) p) _ (λ u s. refl)

scalar_plain : (p : Place) (x : Scalar) → Always PlainData (scalar_data p x)
scalar_plain p null = λ s. refl
scalar_plain p (boolean b) = λ s. refl
scalar_plain p (integer z) = number_plain p z
scalar_plain p (string t) = text_plain p t

-- ---- trees

mutual
  tree_plain : (p : Place) (n : ℕ) (t : Tree) → Always PlainData (tree_data p n t)
  tree_plain p n (scalar x) = scalar_plain p x
  tree_plain p n (list ts) = array_plain _ (deeper PlainItems p n _ (λ m. trees_plain p m ts))
  tree_plain p n (map ps) = object_plain _ (deeper PlainMembers p n _ (λ m. pairs_plain p m ps))

  trees_plain : (p : Place) (n : ℕ) (ts : Trees) → Always PlainItems (trees_data p n ts)
  trees_plain p n no_trees = λ s. refl
  trees_plain p n (tree t ts) = item_plain _ _ (paid_plain p _ (tree_plain p n t)) (trees_plain p n ts)

  pairs_plain : (p : Place) (n : ℕ) (ps : Pairs) → Always PlainMembers (pairs_data p n ps)
  pairs_plain p n no_pairs = λ s. refl
  pairs_plain p n (pair x t ps) = member_plain _ _ _ (tree_plain p n t) (pairs_plain p n ps)

-- ---- items

mutual
  body_plain : (p : Place) (n : ℕ) (b : Body) → Always PlainData (body_data p n b)
  body_plain p n (one t) = tree_plain p n t
  body_plain p n (map_of cs) = object_plain _ (deeper PlainMembers p n _ (λ m. built_plain p m cs))
  body_plain p n (list_of cs) = array_plain _ (deeper PlainItems p n _ (λ m. elements_plain p m cs))

  built_plain : (p : Place) (n : ℕ) (cs : Children) → Always PlainMembers (members_data p n cs)
  built_plain p n no_children = λ s. refl
  built_plain p n (a_child (child q ns x b) cs) = member_plain _ _ _ (body_plain p n b) (built_plain p n cs)

  elements_plain : (p : Place) (n : ℕ) (cs : Children) → Always PlainItems (elements_data p n cs)
  elements_plain p n no_children = λ s. refl
  elements_plain p n (a_child (child q ns x b) cs) = item_plain _ _ (paid_plain p _ (body_plain p n b)) (elements_plain p n cs)

-- ---- values

module _ (convert : Value → Gives Data) (h : (v : Value) → Always PlainData (convert v)) (p : Place) where
  items_plain : (vs : List Value) → Always PlainItems (items_by convert p vs)
  items_plain [] = λ s. refl
  items_plain (v ∷ vs) = item_plain _ _ (paid_plain p _ (h v)) (items_plain vs)

  members_plain : (ms : List (Value × Value)) → Always PlainMembers (members_by convert p ms)
  members_plain [] = λ s. refl
  members_plain (m ∷ ms) = member_plain _ _ _ (h m.1) (members_plain ms)

  inner_plain : (n : ℕ) (v : Value) → Always PlainData (inner_data convert n p v)
  inner_plain n (list_value r) = array_plain _ (behind PlainItems (reads (list_at r)) _ items_plain)
  inner_plain n (tuple_value vs) = array_plain _ (items_plain (values_in vs))
  inner_plain n (dict_value r) = object_plain _ (behind PlainMembers (reads (pairs_at r)) _ members_plain)
  inner_plain n (struct_value fs) = object_plain _ (members_plain (with_text_keys (fields_in fs)))
  inner_plain n (fragment_value pair_item cs) = object_plain _ (built_plain p n cs)
  inner_plain n (fragment_value element_item cs) = array_plain _ (elements_plain p n cs)
  inner_plain n (fragment_value document_item cs) = λ s. tt
  inner_plain n none_value = λ s. tt
  inner_plain n (bool_value b) = λ s. tt
  inner_plain n (int_value z) = λ s. tt
  inner_plain n (text_value t) = λ s. tt
  inner_plain n (range_value a b c) = λ s. tt
  inner_plain n (function_value r) = λ s. tt
  inner_plain n (module_value x fs) = λ s. tt
  inner_plain n (native_value x) = λ s. tt

outer_plain : (m : Gives Data) → Always PlainData m → (p : Place) (v : Value) → Always PlainData (outer_data m p v)
outer_plain m h p none_value = λ s. refl
outer_plain m h p (bool_value b) = λ s. refl
outer_plain m h p (int_value z) = number_plain p z
outer_plain m h p (text_value t) = text_plain p t
outer_plain m h p (list_value r) = h
outer_plain m h p (tuple_value vs) = h
outer_plain m h p (dict_value r) = h
outer_plain m h p (struct_value fs) = h
outer_plain m h p (fragment_value pair_item cs) = h
outer_plain m h p (fragment_value element_item cs) = h
outer_plain m h p (fragment_value document_item cs) = λ s. tt
outer_plain m h p (range_value a b c) = λ s. tt
outer_plain m h p (function_value r) = λ s. tt
outer_plain m h p (module_value x fs) = λ s. tt
outer_plain m h p (native_value x) = λ s. tt

deeper_plain : (n : ℕ) (p : Place) (v : Value) → Always PlainData (deeper_data n p v)
deeper_plain zero p v = λ s. tt
deeper_plain (suc n) p v = inner_plain (λ w. outer_data (deeper_data n p w) p w) (λ w. outer_plain (deeper_data n p w) (deeper_plain n p w) p w) p n v

value_plain : (n : ℕ) (p : Place) (v : Value) → Always PlainData (value_data n p v)
value_plain n p v = outer_plain (deeper_data n p v) (deeper_plain n p v) p v

-- what was given
pub given_plain : (n : ℕ) (p : Place) (v : Value) (d : Data) (s t : State (Unit {0})) → value_data n p v s ≡ done d t → has_float d ≡ false
given_plain n p v d s t e = subst (Holds PlainData) e (value_plain n p v s)
