-- Members that are converted one after another, and computations that go on from others.
use Rattle.std.proofs.Common.{◌≡◌, ◌+◌, ℕ, zero, suc, List, [], ◌∷◌, ◌++◌, drop, Result, Err, Some, Global, String, string_bytes, refl, sym, ap, subst, ◌∙◌, rules, arith}
use Rattle.std.specs.Prelude.{slice_get}
use Rattle.ytt_base.specs.declared.fault.Stop.{Stop}
use Rattle.ytt_base.specs.declared.fault.Place.{Place}
use Rattle.code_spec.specs.Code.{Name}
use Rattle.serde_json.specs.Data as json
use Rattle.serde_json.specs.Data.{Data, Items, item, no_items, Members, no_members, put}
use Rattle.serde_json.specs.View.{items_view, view}
use Rattle.serde_json.specs.declared.value.Value.{Value as Json}
use Rattle.value_spec.specs.Outcomes.{Ending, State, done, asks, bad, give, paid, then_do, ◌>>=◌}
use Rattle.star_steps.proofs.Meeting.{meets_same, meets_stop}
use Rattle.star_steps.specs.Meets.{Meets}
use Rattle.mod_json.specs.Walk.{Entry, Gives, array_of, each_item, each_member, member_seen, object_of, put_each, under}

-- ---- computations that go on

-- a value is what follows goes on from
pub meets_then : {B C D : Type 0} (onto : C → D) (s t : State (Unit {0})) (o : Ending (Unit {0}) B) (b : B) (k : B → Gives D) (r : Result C Stop) → o ≡ done b t → Meets onto r s (k b t) → Meets onto r s (then_do o k)
meets_then onto s t o b k r e h = subst (λ o. Meets onto r s (then_do o k)) (sym e) h

-- a value, and what follows from it
pub done_then : {A B : Type 0} (o : Ending (Unit {0}) A) (a : A) (s : State (Unit {0})) (k : A → Gives B) (x : Ending (Unit {0}) B) → o ≡ done a s → k a s ≡ x → then_do o k ≡ x
done_then o a s k x e h = ap (λ o. then_do o k) e ∙ h

-- nothing follows
pub then_none : {A : Type 0} (k : A → A) (r : Ending (Unit {0}) A) → ((a : A) → k a ≡ a) → r ≡ then_do r (λ a. give (k a))
then_none k (done a s) h = ap (λ b. done b s) (sym (h a))
then_none k (bad f s) h = refl
then_none k (asks q s m) h = λ i. asks q s (λ got t. then_none k (m got t) h i)

-- what is given twice over
pub given_twice : {A B C : Type 0} (f : A → B) (g : B → C) (h : A → C) (o : Ending (Unit {0}) A) → ((a : A) → g (f a) ≡ h a) → then_do (then_do o (λ a. give (f a))) (λ b. give (g b)) ≡ then_do o (λ a. give (h a))
given_twice f g h (done a s) e = ap (λ c. done c s) (e a)
given_twice f g h (bad x s) e = refl
given_twice f g h (asks q s m) e = λ i. asks q s (λ got t. given_twice f g h (m got t) e i)

-- ---- a key, and what stands under it

data_between : {D : Type 0} (x : Name) (o : Ending (Unit {0}) Data) (h : Name × Data → Gives D) → then_do o (λ d. h (x, d)) ≡ then_do (then_do o (λ d. give (x, d))) h
data_between x (done d s) h = refl
data_between x (bad f s) h = refl
data_between x (asks q s k) h = λ i. asks q s (λ got t. data_between x (k got t) h i)

pub under_then : {D : Type 0} (o : Ending (Unit {0}) Name) (m : Gives Data) (h : Name × Data → Gives D) → then_do o (λ x. m >>= λ d. h (x, d)) ≡ then_do (then_do o (λ x. m >>= λ d. give (x, d))) h
under_then (done x s) m h = data_between x (m s) h
under_then (bad f s) m h = refl
under_then (asks q s k) m h = λ i. asks q s (λ got t. under_then (k got t) m h i)

module _ (key : Gives Name) (m : Gives Data) (s : State (Unit {0})) where
  pub under_done : (e : Entry) (t u : State (Unit {0})) → key s ≡ done (string_bytes e.0) t → m t ≡ done (view e.1) u → under key m s ≡ done (member_seen e) u
  under_done e t u k h = done_then _ _ _ _ _ k (done_then _ _ _ _ _ h refl)

  pub under_key : {K : Type 0} (of : K → Name) (x : Stop) (u : State (Unit {0})) (r : Result Entry Stop) → Meets of (Err x) u (key s) → r ≡ Err x → Meets member_seen r u (under key m s)
  under_key of x u r h e = meets_stop of member_seen x u (key s) (λ k. m >>= λ d. give (k, d)) r h e

  pub under_data : (k : Name) (x : Stop) (t u : State (Unit {0})) (r : Result Entry Stop) → key s ≡ done k t → Meets view (Err x) u (m t) → r ≡ Err x → Meets member_seen r u (under key m s)
  under_data k x t u r h d e = meets_then member_seen u t (key s) k (λ k. m >>= λ d. give (k, d)) r h (meets_stop view member_seen x u (m t) (λ d. give (k, d)) r d e)

-- the same by another key, which is paid for
module _ (p : Place) (key other : Gives Name) (m : Gives Data) (s : State (Unit {0})) (is : key ≡ other) where
  pub done_under : (e : Entry) (t u : State (Unit {0})) → paid p key s ≡ done (string_bytes e.0) t → m t ≡ done (view e.1) u → under (paid p other) m s ≡ done (member_seen e) u
  done_under e t u k h = under_done (paid p other) m s e t u (ap (λ k. paid p k s) (sym is) ∙ k) h

  pub key_under : (x : Stop) (u : State (Unit {0})) (r : Result Entry Stop) → Meets {A = String Global} (λ y. string_bytes {Z = Global} y) (Err x) u (paid p key s) → r ≡ Err x → Meets member_seen r u (under (paid p other) m s)
  key_under x u r h e = under_key (paid p other) m s (λ (y : String Global). string_bytes {Z = Global} y) x u r (subst (λ k. Meets {A = String Global} (λ y. string_bytes {Z = Global} y) (Err x) u (paid p k s)) is h) e

  pub data_under : (k : Name) (x : Stop) (t u : State (Unit {0})) (r : Result Entry Stop) → paid p key s ≡ done k t → Meets view (Err x) u (m t) → r ≡ Err x → Meets member_seen r u (under (paid p other) m s)
  data_under k x t u r h d e = under_data (paid p other) m s k x t u r (ap (λ k. paid p k s) (sym is) ∙ h) d e

-- ---- what was converted, before what is left

abbrev pub and_items : List Json → Items → Items
and_items [] ds = ds
and_items (v ∷ vs) ds = item (view v) (and_items vs ds)

items-last : (vs : List Json) (v : Json) (ds : Items) → and_items vs (item (view v) ds) ≡ and_items (vs ++ v ∷ []) ds
items-last [] v ds = refl
items-last (w ∷ vs) v ds = ap (item (view w)) (items-last vs v ds)

items-none : (vs : List Json) → and_items vs no_items ≡ items_view vs
items-none [] = refl
items-none (w ∷ vs) = ap (item (view w)) (items-none vs)

pub entries-last : (es : List Entry) (e : Entry) (ms : Members) → put_each es (put (string_bytes e.0) (view e.1) ms) ≡ put_each (es ++ e ∷ []) ms
entries-last [] e ms = refl
entries-last (f ∷ es) e ms = ap (put (string_bytes f.0) (view f.1)) (entries-last es e ms)

-- ---- items in turn

abbrev before_items : List Json → Items → Gives Items
before_items front ds = give (and_items front ds)

module _ {X : Type 0} (f : X → Gives Data) where
  -- what all members give, where those before these gave this and left this state
  abbrev pub ItemsSoFar : Ending (Unit {0}) Items → List Json → List X → State (Unit {0}) → Type 0
  ItemsSoFar all front xs s = all ≡ then_do (each_item f xs s) (before_items front)

  -- none is converted yet
  pub items_begin : (front : List Json) (xs : List X) (s : State (Unit {0})) → front ≡ [] → ItemsSoFar (each_item f xs s) front xs s
  items_begin front xs s e = then_none (and_items []) (each_item f xs s) (λ ds. refl) ∙ ap (λ l. then_do (each_item f xs s) (before_items l)) (sym e)

  -- the same of as many members that are left
  pub items_left : (all : Ending (Unit {0}) Items) (front : List Json) (xs ys : List X) (s : State (Unit {0})) → xs ≡ ys → ItemsSoFar all front xs s → ItemsSoFar all front ys s
  items_left all front xs ys s e h = subst (λ xs. ItemsSoFar all front xs s) e h

  module _ (all : Ending (Unit {0}) Items) (front : List Json) (x : X) (xs : List X) (s : State (Unit {0})) (h : ItemsSoFar all front (x ∷ xs) s) where
    -- one more
    pub items_next : (v : Json) (u : State (Unit {0})) → f x s ≡ done (view v) u → ItemsSoFar all (front ++ v ∷ []) xs u
    items_next v u e =
        h ∙ ap (λ o. then_do (then_do o (λ d. each_item f xs >>= λ ds. give (item d ds))) (before_items front)) e
        ∙ given_twice (item (view v)) (and_items front) (and_items (front ++ v ∷ [])) (each_item f xs u) (items-last front v)

    -- one is refused
    pub items_stop : {V : Type 0} (of : V → Items) (y : Stop) (u : State (Unit {0})) (r : Result V Stop) → Meets view (Err y) u (f x s) → r ≡ Err y → Meets of r u all
    items_stop of y u r m e =
        meets_same of r u _ all h
        (meets_stop of of y u (each_item f (x ∷ xs) s) (before_items front) r (meets_stop view of y u (f x s) (λ d. each_item f xs >>= λ ds. give (item d ds)) (Err y) m refl) e)

  -- all are converted
  pub items_all : (all : Ending (Unit {0}) Items) (front : List Json) (s : State (Unit {0})) → ItemsSoFar all front [] s → all ≡ done (items_view front) s
  items_all all front s h = h ∙ ap (λ ds. done ds s) (items-none front)

-- ---- entries in turn

abbrev before_members : List Entry → Members → Gives Members
before_members front ms = give (put_each front ms)

module _ {X : Type 0} (f : X → Gives (Name × Data)) where
  abbrev pub MembersSoFar : Ending (Unit {0}) Members → List Entry → List X → State (Unit {0}) → Type 0
  MembersSoFar all front xs s = all ≡ then_do (each_member f xs s) (before_members front)

  pub members_begin : (front : List Entry) (xs : List X) (s : State (Unit {0})) → front ≡ [] → MembersSoFar (each_member f xs s) front xs s
  members_begin front xs s e = then_none (put_each []) (each_member f xs s) (λ ms. refl) ∙ ap (λ l. then_do (each_member f xs s) (before_members l)) (sym e)

  pub members_left : (all : Ending (Unit {0}) Members) (front : List Entry) (xs ys : List X) (s : State (Unit {0})) → xs ≡ ys → MembersSoFar all front xs s → MembersSoFar all front ys s
  members_left all front xs ys s e h = subst (λ xs. MembersSoFar all front xs s) e h

  module _ (all : Ending (Unit {0}) Members) (front : List Entry) (x : X) (xs : List X) (s : State (Unit {0})) (h : MembersSoFar all front (x ∷ xs) s) where
    pub members_next : (v : Entry) (u : State (Unit {0})) → f x s ≡ done (member_seen v) u → MembersSoFar all (front ++ v ∷ []) xs u
    members_next v u e =
        h ∙ ap (λ o. then_do (then_do o (λ m. each_member f xs >>= λ ms. give (put m.0 m.1 ms))) (before_members front)) e
        ∙ given_twice (put (string_bytes v.0) (view v.1)) (put_each front) (put_each (front ++ v ∷ [])) (each_member f xs u) (entries-last front v)

    pub members_stop : {V : Type 0} (of : V → Members) (y : Stop) (u : State (Unit {0})) (r : Result V Stop) → Meets member_seen (Err y) u (f x s) → r ≡ Err y → Meets of r u all
    members_stop of y u r m e =
        meets_same of r u _ all h
        (meets_stop of of y u (each_member f (x ∷ xs) s) (before_members front) r (meets_stop member_seen of y u (f x s) (λ m. each_member f xs >>= λ ms. give (put m.0 m.1 ms)) (Err y) m refl) e)

  pub members_all : (all : Ending (Unit {0}) Members) (front : List Entry) (s : State (Unit {0})) → MembersSoFar all front [] s → all ≡ done (put_each front no_members) s
  members_all all front s h = h

-- ---- one level

pub array_form : {X : Type 0} (f : ℕ → X → Gives Data) (n k : ℕ) (p : Place) (xs : List X) → n ≡ suc k → array_of f n p xs ≡ (each_item (f k) xs >>= λ ds. give (json.array ds))
array_form f n k p xs e = ap (λ m. array_of f m p xs) e

pub object_form : {X : Type 0} (f : ℕ → X → Gives (Name × Data)) (n k : ℕ) (p : Place) (xs : List X) → n ≡ suc k → object_of f n p xs ≡ (each_member (f k) xs >>= λ ms. give (json.object ms))
object_form f n k p xs e = ap (λ m. object_of f m p xs) e

-- ---- those that are left

pub drop_get : {X : Type 0} (xs : List X) (i : ℕ) (x : X) → slice_get xs i ≡ Some x → drop i xs ≡ x ∷ drop (i + 1) xs
drop_get [] i x e = absurd (search (rules, e))
drop_get (y ∷ ys) zero x e = let same : y ≡ x = search (rules, e) in ap (λ z. z ∷ ys) same
drop_get (y ∷ ys) (suc i) x e =
    let next : suc (i + 1) ≡ suc i + 1 = omega arith in
    drop_get ys i x e ∙ ap (λ j. x ∷ drop j (y ∷ ys)) next
