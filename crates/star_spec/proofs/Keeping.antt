-- Computations that keep what the program holds: where the store holds such values, what one gives is such, and so is
-- the store that it leaves, whichever way it ends.
use Rattle.std.proofs.Common.{◌≡◌, ℕ, zero, suc, nat_le, ◌==◌, Bool, true, false, if◌then◌else◌, List, [], ◌∷◌, ◌++◌, take, drop, map, slice_set, Option, Some, None, Result, IsUtf8, refl, subst}
use Rattle.ytt_base.specs.declared.fault.Fault.{Fault}
use Rattle.ytt_base.specs.declared.fault.FaultKind.{FaultKind}
use Rattle.ytt_base.specs.declared.fault.FaultKind.TheVariants as kind
use Rattle.ytt_base.specs.declared.fault.Place.{Place}
use Rattle.star_spec.specs.Held.{HeldList, HeldPairs, HeldIfAny, HeldContents, HeldStore, HeldAnswer, HeldQuestion}
use Rattle.value_spec.specs.Outcomes.{State, Reply, Ending, done, bad, asks, then_do, Computation, ◌>>=◌, give, fail_with, or_fail, need, or_ill_formed, ill_formed, take_if, take_steps, paid_by, on_store, reads, new_object, finally, after_act, acting}
use Rattle.value_spec.specs.Built.{below}
use Rattle.value_spec.specs.Store.{list_of_contents, pairs_of_contents, object_at, list_in, pairs_in, box_in, function_in, object, changed, change, Answer, did, refused, Act, frozen, iterating, unlocked, put_back, on_found, at_object, may_change_object, may_change, as_frozen, freeze_since, walked, change_loops}
use Rattle.value_spec.specs.Values.{Function, Contents, of_list, of_dict, of_box, of_function, Object, Store}

abbrev pub Kept : {H A : Type 0} → (A → Type 0) → Ending H A → Type 0
Kept P (done a s) = P a × HeldStore s.store
Kept P (bad f s) = HeldStore s.store
Kept {H = H} P (asks q s k) = HeldQuestion q × HeldStore s.store × ((got : Result Reply Fault) (t : State H) → HeldAnswer got → HeldStore t.store → Kept P (k got t))

pub record Keeps {H A : Type 0} (P : A → Type 0) (m : Computation H A) : Type 0 where
  pub by : (s : State H) → HeldStore s.store → Kept P (m s)

abbrev pub Anything : {A : Type 0} → A → Type 0
Anything a = Unit {0}

-- ---- what is found, if anything is

abbrev pub IfFound : {A : Type 0} → (A → Type 0) → Option A → Type 0
IfFound P None = Unit {0}
IfFound P (Some a) = P a

pub found_one : {A : Type 0} (P : A → Type 0) (o : Option A) (a : A) → IfFound P o → o ≡ Some a → P a
found_one P None a h e = cc
found_one P (Some b) a h e = let same : b ≡ a = cc in subst P same h

pub found_if : {A : Type 0} (P : A → Type 0) (b : Bool) (o q : Option A) → IfFound P o → IfFound P q → IfFound P (if b then o else q)
found_if P true o q h k = h
found_if P false o q h k = k

-- ---- computations

pub kept_then : {H A B : Type 0} (P : A → Type 0) (Q : B → Type 0) (e : Ending H A) (f : A → Computation H B) → Kept P e → ((a : A) → P a → Keeps Q (f a)) → Kept Q (then_do e f)
kept_then P Q (done a s) f h k = (k a h.0).by s h.1
kept_then P Q (bad e s) f h k = h
kept_then P Q (asks q s n) f h k = (h.0, h.1, λ got t g held. kept_then P Q (n got t) f (h.2 got t g held) k)

pub keeps_then : {H A B : Type 0} {P : A → Type 0} {Q : B → Type 0} {m : Computation H A} {f : A → Computation H B} → Keeps P m → ((a : A) → P a → Keeps Q (f a)) → Keeps Q (m >>= f)
keeps_then {P = P} {Q = Q} {m = m} {f = f} h k = record { by = λ s held. kept_then P Q (m s) f (h.by s held) k }

pub keeps_give : {H A : Type 0} {P : A → Type 0} (a : A) → P a → Keeps {H = H} P (give a)
keeps_give a h = record { by = λ s held. (h, held) }

pub keeps_fail : {H A : Type 0} {P : A → Type 0} (k : FaultKind) (p : Place) (d : List ℕ) → Keeps {H = H} P (fail_with k p d)
keeps_fail k p d = record { by = λ s held. held }

pub keeps_or_fail : {H A : Type 0} {P : A → Type 0} (k : FaultKind) (p : Place) (o : Option A) → ((a : A) → o ≡ Some a → P a) → Keeps {H = H} P (or_fail k p o)
keeps_or_fail k p None h = keeps_fail k p []
keeps_or_fail k p (Some a) h = keeps_give a (h a refl)

pub keeps_ill_formed : {H A : Type 0} {P : A → Type 0} → Keeps {H = H} P ill_formed
keeps_ill_formed = record { by = λ s held. held }

pub keeps_or_ill_formed : {H A : Type 0} {P : A → Type 0} (o : Option A) → ((a : A) → o ≡ Some a → P a) → Keeps {H = H} P (or_ill_formed o)
keeps_or_ill_formed None h = keeps_ill_formed
keeps_or_ill_formed (Some a) h = keeps_give a (h a refl)

pub keeps_need : {H : Type 0} (k : FaultKind) (p : Place) (b : Bool) → Keeps {H = H} Anything (need k p b)
keeps_need k p true = keeps_give tt tt
keeps_need k p false = keeps_fail k p []

-- what is needed holds then
pub needed : {H : Type 0} (k : FaultKind) (p : Place) (b : Bool) → Keeps {H = H} (λ u. b ≡ true) (need k p b)
needed k p true = keeps_give tt refl
needed k p false = keeps_fail k p []

kept_taken : {H : Type 0} (b : Bool) (n : ℕ) (p : Place) (s : State H) → HeldStore s.store → Kept Anything (take_if b n p s)
kept_taken true n p s h = (tt, h)
kept_taken false n p s h = h

pub keeps_steps : {H : Type 0} (n : ℕ) (p : Place) → Keeps {H = H} Anything (take_steps n p)
keeps_steps n p = record { by = λ s held. kept_taken (nat_le n s.steps) n p s held }

pub keeps_paid : {H A : Type 0} {P : A → Type 0} {m : Computation H A} (n : ℕ) (p : Place) → Keeps P m → Keeps P (paid_by n p m)
keeps_paid n p h = keeps_then (keeps_steps n p) (λ u g. h)

pub keeps_if : {H A : Type 0} {P : A → Type 0} {x y : Computation H A} (b : Bool) → (b ≡ true → Keeps P x) → (b ≡ false → Keeps P y) → Keeps P (if b then x else y)
keeps_if true h k = h refl
keeps_if false h k = k refl

pub keeps_below : {H A : Type 0} {P : A → Type 0} (p : Place) (n : ℕ) (f : ℕ → Computation H A) → ((m : ℕ) → n ≡ suc m → Keeps P (f m)) → Keeps P (below p n f)
keeps_below p zero f h = keeps_fail kind.TooDeep p []
keeps_below p (suc n) f h = h n refl

-- what holds where more does
kept_weaker : {H A : Type 0} (P Q : A → Type 0) (e : Ending H A) → ((a : A) → P a → Q a) → Kept P e → Kept Q e
kept_weaker P Q (done a s) k h = (k a h.0, h.1)
kept_weaker P Q (bad e s) k h = h
kept_weaker P Q (asks q s n) k h = (h.0, h.1, λ got t g held. kept_weaker P Q (n got t) k (h.2 got t g held))

pub keeps_weaker : {H A : Type 0} {P Q : A → Type 0} {m : Computation H A} → ((a : A) → P a → Q a) → Keeps P m → Keeps Q m
keeps_weaker {P = P} {Q = Q} {m = m} k h = record { by = λ s held. kept_weaker P Q (m s) k (h.by s held) }

-- ---- the store

pub keeps_reads : {H A : Type 0} {P : A → Type 0} (f : Store → A) → ((store : Store) → HeldStore store → P (f store)) → Keeps {H = H} P (reads f)
keeps_reads f h = record { by = λ s held. (h s.store held, held) }

-- an object that is held, if there is one
abbrev pub HeldIfThere : Option Object → Type 0
HeldIfThere None = Unit {0}
HeldIfThere (Some o) = HeldContents o.contents

pub object_held : (store : Store) (r : ℕ) → HeldStore store → HeldIfThere (object_at r store)
object_held [] r h = tt
object_held (o ∷ os) zero h = h.0
object_held (o ∷ os) (suc r) h = object_held os r h.1

pub contents_list : (c : Contents) → HeldContents c → HeldList (list_of_contents c)
contents_list (of_list vs) h = h
contents_list (of_dict ps) h = tt
contents_list (of_box None) h = tt
contents_list (of_box (Some v)) h = (h, tt)
contents_list (of_function f) h = tt

pub list_held : (o : Option Object) → HeldIfThere o → HeldList (list_in o)
list_held None h = tt
list_held (Some o) h = contents_list o.contents h

pub contents_pairs : (c : Contents) → HeldContents c → HeldPairs (pairs_of_contents c)
contents_pairs (of_list vs) h = tt
contents_pairs (of_dict ps) h = h
contents_pairs (of_box v) h = tt
contents_pairs (of_function f) h = tt

pub pairs_held : (o : Option Object) → HeldIfThere o → HeldPairs (pairs_in o)
pairs_held None h = tt
pairs_held (Some o) h = contents_pairs o.contents h

pub box_held : (o : Option Object) → HeldIfThere o → HeldIfAny (box_in o)
box_held None h = tt
box_held (Some o) h = held_box o.contents h
  where
    held_box : (c : Contents) → HeldContents c → HeldIfAny (elim c [ of_list vs ↦ None | of_dict ps ↦ None | of_box v ↦ v | of_function f ↦ None ])
    held_box (of_list vs) h = tt
    held_box (of_dict ps) h = tt
    held_box (of_box v) h = h
    held_box (of_function f) h = tt

abbrev pub HeldFunction : Option Function → Type 0
HeldFunction None = Unit {0}
HeldFunction (Some f) = IsUtf8 f.name × HeldList f.defaults

pub function_held : (o : Option Object) → HeldIfThere o → HeldFunction (function_in o)
function_held None h = tt
function_held (Some o) h = held_function o.contents h
  where
    held_function : (c : Contents) → HeldContents c → HeldFunction (elim c [ of_list vs ↦ None | of_dict ps ↦ None | of_box v ↦ None | of_function f ↦ Some f ])
    held_function (of_list vs) h = tt
    held_function (of_dict ps) h = tt
    held_function (of_box v) h = tt
    held_function (of_function f) h = h

-- ---- changes

behind : (store more : Store) → HeldStore store → HeldStore more → HeldStore (store ++ more)
behind [] more h k = k
behind (o ∷ os) more h k = (h.0, behind os more h.1 k)

pub keeps_new_object : {H : Type 0} (c : Contents) → HeldContents c → Keeps {H = H} Anything (new_object c)
keeps_new_object c h = record { by = λ s held. (tt, behind s.store (object c ∷ []) held (h, tt)) }

set_held : (store : Store) (r : ℕ) (o : Object) → HeldStore store → HeldContents o.contents → HeldStore (slice_set store r o)
set_held [] r o h k = tt
set_held (x ∷ xs) zero o h k = (k, h.1)
set_held (x ∷ xs) (suc r) o h k = (h.0, set_held xs r o h.1 k)

changed_held : (f : Object → Object) (store : Store) (r : ℕ) (o : Option Object) → ((x : Object) → HeldContents x.contents → HeldContents (f x).contents) → HeldIfThere o → HeldStore store → HeldStore (changed f store r o)
changed_held f store r None k h held = held
changed_held f store r (Some o) k h held = set_held store r (f o) held (k o h)

pub change_held : (f : Object → Object) (r : ℕ) (store : Store) → ((x : Object) → HeldContents x.contents → HeldContents (f x).contents) → HeldStore store → HeldStore (change f r store)
change_held f r store k h = changed_held f store r (object_at r store) k (object_held store r h) h

pub loops_held : (f : ℕ → ℕ) (walk : Option ℕ) (store : Store) → HeldStore store → HeldStore (change_loops f walk store)
loops_held f None store h = h
loops_held f (Some r) store h = change_held (walked f) r store (λ x k. k) h

-- what an act gives and what it leaves, if it is done
abbrev pub IfDid : {S A : Type 0} → (A → Type 0) → (S → Type 0) → Answer S A → Type 0
IfDid P Q (did a s) = P a × Q s
IfDid P Q (refused why) = Unit {0}

keeps_acting : {H A : Type 0} (P : A → Type 0) (p : Place) (act : Act Store A) → ((store : Store) → HeldStore store → IfDid P HeldStore (act store)) → Keeps {H = H} P (acting p act)
keeps_acting {H = H} {A = A} P p act k = record { by = λ s held. kept_act (act s.store) s (k s.store held) held }
  where
    kept_act : (answer : Answer Store A) (s : State H) → IfDid P HeldStore answer → HeldStore s.store → Kept P (after_act p answer s)
    kept_act (did a store) s h held = h
    kept_act (refused why) s h held = held

did_unlocked : {S A : Type 0} (P : A → Type 0) (Q : S → Type 0) (o : Object) (answer : Answer S A) → IfDid P Q answer → IfDid P Q (unlocked o answer)
did_unlocked {S = S} {A = A} P Q o answer h = by_tests o.frozen (o.loops == 0)
  where
    by_tests : (a b : Bool) → IfDid P Q (if a then refused frozen else if b then answer else refused iterating)
    by_tests true b = tt
    by_tests false true = h
    by_tests false false = tt

-- an object as an act on it leaves it
abbrev pub ObjectHeld : Object → Type 0
ObjectHeld o = HeldContents o.contents

put_back_held : {A : Type 0} (P : A → Type 0) (r : ℕ) (store : Store) (answer : Answer Object A) → HeldStore store → IfDid P ObjectHeld answer → IfDid P HeldStore (put_back r store answer)
put_back_held P r store (did a o) h k = (k.0, set_held store r o h k.1)
put_back_held P r store (refused why) h k = tt

-- an act on what an object holds, where it may be changed now
pub keeps_at_object : {H A : Type 0} (P : A → Type 0) (p : Place) (r : ℕ) (answer : Object → Answer Object A) → ((x : Object) → ObjectHeld x → IfDid P ObjectHeld (answer x)) → Keeps {H = H} P (acting p (at_object r (λ o. unlocked o (answer o))))
keeps_at_object {A = A} P p r answer k = keeps_acting P p _ (λ store h. found_held store (object_at r store) h (object_held store r h))
  where
    found_held : (store : Store) (o : Option Object) → HeldStore store → HeldIfThere o → IfDid P HeldStore (on_found r store (λ x. unlocked x (answer x)) o)
    found_held store None h g = tt
    found_held store (Some o) h g = put_back_held P r store (unlocked o (answer o)) h (did_unlocked P ObjectHeld o (answer o) (k o g))

pub may_change_keeps : {H : Type 0} (p : Place) (r : ℕ) → Keeps {H = H} Anything (acting p (may_change r))
may_change_keeps p r = keeps_acting Anything p (may_change r) (λ store h. may_held store (object_at r store) h)
  where
    may_held : (store : Store) (o : Option Object) → HeldStore store → IfDid Anything HeldStore (may_change_object store o)
    may_held store None h = tt
    may_held store (Some o) h = did_unlocked Anything HeldStore o (did tt store) (tt, h)

first_held : (n : ℕ) (store : Store) → HeldStore store → HeldStore (take n store)
first_held zero store h = tt
first_held (suc n) [] h = tt
first_held (suc n) (o ∷ os) h = (h.0, first_held n os h.1)

rest_held : (n : ℕ) (store : Store) → HeldStore store → HeldStore (drop n store)
rest_held zero store h = h
rest_held (suc n) [] h = tt
rest_held (suc n) (o ∷ os) h = rest_held n os h.1

frozen_held : (store : Store) → HeldStore store → HeldStore (map as_frozen store)
frozen_held [] h = tt
frozen_held (o ∷ os) h = (h.0, frozen_held os h.1)

pub freeze_held : (n : ℕ) (store : Store) → HeldStore store → HeldStore (freeze_since n store)
freeze_held n store h = behind (take n store) (map as_frozen (drop n store)) (first_held n store h) (frozen_held (drop n store) (rest_held n store h))

pub kept_finally : {H A : Type 0} (P : A → Type 0) (e : Ending H A) (f : Store → Store) → ((store : Store) → HeldStore store → HeldStore (f store)) → Kept P e → Kept P (finally e (on_store f))
kept_finally P (done a s) f k h = (h.0, k s.store h.1)
kept_finally P (bad e s) f k h = k s.store h
kept_finally P (asks q s n) f k h = (h.0, h.1, λ got t g held. kept_finally P (n got t) f k (h.2 got t g held))
