-- What stands in an arena: held things, each made of those before it, and objects; and more of them, or others of the same kinds.
use Rattle.std.proofs.Common.{◌≡◌, ◌⊎◌, ◌+◌, ◌<◌, ◌∷◌, ◌++◌}
use Rattle.star_values.proofs.Names.{inl, inr, ℕ, zero, suc, List, [], length, Option, Some, None, IsSome, slice_get, slice_set, refl, sym, ap, subst, ◌∙◌, rules, arith, common_steps, map-append, length-map, map-set, slice_get_cases, IsKey, Store, Sort, Thing, Held, Lent, Contents, Object, contents_kind, lent_kind, thing_value, held_value, held_from, held_of, lent_in, contents_in, object_in, store_in, view_of, Grows, held_sort, held_at, object_sort, contents_sort, object_at, OwnsHeld, OwnsContents, OwnsObject, Each, NumberedAt, InOrder, KeysOnce, Sound, View}
use Rattle.value_spec.specs.Values as plain
use Rattle.star_values.specs.declared.held.Answerer.TheVariants as answerer
use Rattle.star_values.specs.declared.held.Thing.TheVariants as thing
use Rattle.star_values.specs.declared.held.Held.TheVariants as held
use Rattle.star_values.specs.declared.lent.Lent.TheVariants as lent
use Rattle.star_values.specs.declared.object.Contents.TheVariants as contents
use Rattle.star_values.proofs.Growing.{each_joined, each_at, each_set, held_kept, owns_contents_kept, objects_kept}
use Rattle.star_values.proofs.Acts.{map_at}

-- ---- places

-- what stands at a place stands there still
pub at_front : {A : Type 0} (xs ys : List A) (i : ℕ) (x : A) → slice_get xs i ≡ Some x → slice_get (xs ++ ys) i ≡ Some x
at_front [] ys i x e = absurd (search (rules, e))
at_front (y ∷ xs) ys zero x e = e
at_front (y ∷ xs) ys (suc i) x e = at_front xs ys i x e

pub at_end : {A : Type 0} (xs : List A) (x : A) → slice_get (xs ++ x ∷ []) (length xs) ≡ Some x
at_end [] x = refl
at_end (y ∷ xs) x = at_end xs x

longer : (i : ℕ) (xs : List plain.Value) (x : plain.Value) → suc i + length xs ≡ i + length (xs ++ x ∷ [])
longer i xs x = grind (arith, common_steps)

-- ---- what is held, from the things

pub held_last : (before : List plain.Value) (hs : List Held) (h : Held) → held_from before (hs ++ h ∷ []) ≡ held_from before hs ++ held_value (held_from before hs) h ∷ []
held_last before [] h = refl
held_last before (g ∷ hs) h = held_last (before ++ held_value before g ∷ []) hs h

-- those before are in front
pub held_before : (before : List plain.Value) (hs : List Held) (i : ℕ) (x : plain.Value) → slice_get before i ≡ Some x → slice_get (held_from before hs) i ≡ Some x
held_before before [] i x e = e
held_before before (h ∷ hs) i x e = held_before (before ++ held_value before h ∷ []) hs i x (at_front before (held_value before h ∷ []) i x e)

held_length_from : (before : List plain.Value) (hs : List Held) → length (held_from before hs) ≡ length hs + length before
held_length_from before [] = omega arith
held_length_from before (h ∷ hs) = held_length_from (before ++ held_value before h ∷ []) hs ∙ sym (longer (length hs) before (held_value before h))

-- there are as many as things
pub held_length : (hs : List Held) → length (held_of hs) ≡ length hs
held_length hs = let e = held_length_from [] hs in omega (arith, e)

-- ---- in order

-- the same held things, and objects of the same kinds
pub grows_store : (held : List plain.Value) (st ts : Store) → ((i : ℕ) (k : Sort) → object_at (record { held = held; store = st }) i ≡ Some k → object_at (record { held = held; store = ts }) i ≡ Some k) → Grows (record { held = held; store = st }) (record { held = held; store = ts })
grows_store held st ts f = record { held = λ i x e. e; objects = f }

-- one more at the end
pub in_order_last : (st : Store) (before : List plain.Value) (hs : List Held) (h : Held) → InOrder st before hs → OwnsHeld (record { held = held_from before hs; store = st }) h → NumberedAt (length (held_from before hs)) h → InOrder st before (hs ++ h ∷ [])
in_order_last st before [] h o k n = (k, n, tt)
in_order_last st before (g ∷ hs) h o k n = (o.0, o.1, in_order_last st (before ++ held_value before g ∷ []) hs h o.2 k n)

-- other objects of the same kinds
pub in_order_kept : (st ts : Store) (before : List plain.Value) (hs : List Held) → ((vs : List plain.Value) → Grows (record { held = vs; store = st }) (record { held = vs; store = ts })) → InOrder st before hs → InOrder ts before hs
in_order_kept st ts before [] g o = tt
in_order_kept st ts before (h ∷ hs) g o = ((held_kept _ _ h (g before) o.0).0, o.1, in_order_kept st ts (before ++ held_value before h ∷ []) hs g o.2)

-- ---- what stands at a place

-- what a held thing at a place is, by all of them; a thing's number is its place
abbrev pub HeldAs : Store → List plain.Value → ℕ → Held → Type 0
HeldAs st all n h = (slice_get all n ≡ Some (held_value all h)) × OwnsHeld (record { held = all; store = st }) h × NumberedAt n h

held_found : (st : Store) (before : List plain.Value) (hs : List Held) (i : ℕ) (h : Held) (n : ℕ) → n ≡ i + length before → InOrder st before hs → slice_get hs i ≡ Some h → HeldAs st (held_from before hs) n h
held_found st before [] i h n at o e = absurd (search (rules, e))
held_found st before (g ∷ hs) zero h n at o e =
    let s : g ≡ h = search (rules, e) in
    let m : length before ≡ n = omega (arith, at) in
    let all : List plain.Value = held_from before (g ∷ hs) in
    let grown : Grows (record { held = before; store = st }) (record { held = all; store = st }) = record { held = λ i x. held_before before (g ∷ hs) i x; objects = λ i k e. e } in
    let k = held_kept _ _ g grown o.0 in
    let here : slice_get all (length before) ≡ Some (held_value before g) = held_before (before ++ held_value before g ∷ []) hs (length before) (held_value before g) (at_end before (held_value before g)) in
    subst (HeldAs st all n) s (ap (slice_get all) (sym m) ∙ here ∙ ap Some (sym k.1), k.0, subst (λ n. NumberedAt n g) m o.1)
held_found st before (g ∷ hs) (suc i) h n at o e = held_found st (before ++ held_value before g ∷ []) hs i h n (at ∙ longer i before (held_value before g)) o.2 e

-- ---- kinds

-- a thing is of a kind, and no key
pub thing_known : (before : List plain.Value) (t : Thing) → IsSome (held_sort (Some (thing_value before t))) × (IsKey (thing_value before t) → ⊥)
thing_known before (thing.Range start stop step) = (refl, λ k. k)
thing_known before (thing.Struct fs) = (refl, λ k. k)
thing_known before (thing.Module x fs) = (refl, λ k. k)
thing_known before (thing.Native answerer.Language x None) = (refl, λ k. k)
thing_known before (thing.Native answerer.Language x (Some v)) = (refl, λ k. k)
thing_known before (thing.Native answerer.Host x on) = (refl, λ k. k)
thing_known before (thing.Replacement v) = (refl, λ k. k)
thing_known before (thing.Fragment k is) = (refl, λ k. k)

held_kind : (before : List plain.Value) (h : Held) → IsSome (held_sort (Some (held_value before h)))
held_kind before (held.Text w) = refl
held_kind before (held.Tuple vs) = refl
held_kind before (held.Other n) = (thing_known before n.thing).0

lent_seen : (held : List plain.Value) (l : Lent) → contents_sort (lent_in held l) ≡ lent_kind l
lent_seen held (lent.List vs) = refl
lent_seen held (lent.Dict m) = refl

pub contents_seen : (held : List plain.Value) (c : Contents) → contents_sort (contents_in held c) ≡ contents_kind c
contents_seen held (contents.List vs) = refl
contents_seen held (contents.Dict m) = refl
contents_seen held (contents.Lent l more) = lent_seen held l
contents_seen held (contents.Box v) = refl
contents_seen held (contents.Func f) = refl

-- ---- one more held thing

abbrev with_held : Held → View → View
with_held h a = record { held = a.held ++ held_value a.held h ∷ []; store = a.store }

grows_with_held : (h : Held) (a : View) → Grows a (with_held h a)
grows_with_held h a = record { held = λ i x e. at_front a.held (held_value a.held h ∷ []) i x e; objects = λ i k e. e }

pub view_more_held : (hs : List Held) (os : List Object) (h : Held) → Sound (record { held = hs; objects = os }) → view_of (hs ++ h ∷ []) os ≡ with_held h (view_of hs os)
view_more_held hs os h s =
    (λ i. record { held = held_last [] hs h i; store = store_in (held_last [] hs h i) os })
    ∙ (λ i. record { held = held_of hs ++ held_value (held_of hs) h ∷ []; store = (objects_kept (view_of hs os) (with_held h (view_of hs os)) os (grows_with_held h (view_of hs os)) s.objects).1 i })

pub grows_more_held : (hs : List Held) (os : List Object) (h : Held) → Sound (record { held = hs; objects = os }) → Grows (view_of hs os) (view_of (hs ++ h ∷ []) os)
grows_more_held hs os h s = subst (Grows (view_of hs os)) (sym (view_more_held hs os h s)) (grows_with_held h (view_of hs os))

-- what stands in a list with one more is that one, or stood there before
pub front_or_last : {A : Type 0} (xs : List A) (x : A) (i : ℕ) (y : A) → slice_get (xs ++ x ∷ []) i ≡ Some y → (slice_get xs i ≡ Some y) ⊎ ((i ≡ length xs) × (y ≡ x))
front_or_last [] x zero y e = inr (refl, search (rules, e))
front_or_last [] x (suc i) y e = absurd (search (rules, e))
front_or_last (z ∷ xs) x zero y e = inl e
front_or_last (z ∷ xs) x (suc i) y e = elim (front_or_last xs x i y e) [ inl h ↦ inl h | inr h ↦ inr (ap suc h.0, h.1) ]

-- this key, if it is one, stands nowhere
abbrev pub IsNew : List plain.Value → plain.Value → Type 0
IsNew held x = (i : ℕ) → IsKey x → slice_get held i ≡ Some x → ⊥

once_more : (held : List plain.Value) (x : plain.Value) → KeysOnce held → IsNew held x → KeysOnce (held ++ x ∷ [])
once_more held x once new i j y k at_i at_j =
    let was = λ (l : y ≡ x) (n : ℕ) (first : slice_get held n ≡ Some y). new n (subst IsKey l k) (first ∙ ap Some l) in
    elim (front_or_last held x i y at_i) [ inl first ↦ elim (front_or_last held x j y at_j) [ inl second ↦ once i j y k first second | inr last ↦ absurd (was last.1 i first) ] | inr last ↦ elim (front_or_last held x j y at_j) [ inl second ↦ absurd (was last.1 j second) | inr other ↦ last.0 ∙ sym other.0 ] ]

pub sound_more_held : (hs : List Held) (os : List Object) (h : Held) → Sound (record { held = hs; objects = os }) → OwnsHeld (view_of hs os) h → NumberedAt (length (held_of hs)) h → IsNew (held_of hs) (held_value (held_of hs) h) → Sound (record { held = hs ++ h ∷ []; objects = os })
sound_more_held hs os h s o n new = record {
  held = subst (λ (v : View). InOrder v.store [] (hs ++ h ∷ [])) (sym (view_more_held hs os h s)) (in_order_last (store_in (held_of hs) os) [] hs h s.held o n);
  once = subst KeysOnce (sym (held_last [] hs h)) (once_more (held_of hs) (held_value (held_of hs) h) s.once new);
  objects = (objects_kept (view_of hs os) (view_of (hs ++ h ∷ []) os) os (grows_more_held hs os h s) s.objects).0;
}

-- ---- other objects

some_object : (o : Option plain.Object) (k : Sort) → object_sort o ≡ Some k → (x : plain.Object) × (o ≡ Some x)
some_object None k e = absurd (search (rules, e))
some_object (Some x) k e = (x, refl)

-- other objects that are sound, of the same kinds
sound_objects : (hs : List Held) (os ps : List Object) → Sound (record { held = hs; objects = os }) → Grows (view_of hs os) (view_of hs ps) → Each (OwnsObject (view_of hs ps)) ps → Sound (record { held = hs; objects = ps })
sound_objects hs os ps s g o = record {
  held = in_order_kept (store_in (held_of hs) os) (store_in (held_of hs) ps) [] hs (λ vs. grows_store vs (store_in (held_of hs) os) (store_in (held_of hs) ps) g.objects) s.held;
  once = s.once;
  objects = o;
}

-- ---- one more object

pub view_more_objects : (hs : List Held) (os : List Object) (o : Object) → view_of hs (os ++ o ∷ []) ≡ record { held = held_of hs; store = store_in (held_of hs) os ++ object_in (held_of hs) o ∷ [] }
view_more_objects hs os o = λ i. record { held = held_of hs; store = map-append (object_in (held_of hs)) os (o ∷ []) i }

pub grows_more_objects : (hs : List Held) (os : List Object) (o : Object) → Grows (view_of hs os) (view_of hs (os ++ o ∷ []))
grows_more_objects hs os o = subst (Grows (view_of hs os)) (sym (view_more_objects hs os o)) (grows_store (held_of hs) (store_in (held_of hs) os) (store_in (held_of hs) os ++ object_in (held_of hs) o ∷ []) (λ i k e.
    let x = some_object (slice_get (store_in (held_of hs) os) i) k e in
    ap object_sort (at_front (store_in (held_of hs) os) (object_in (held_of hs) o ∷ []) i x.0 x.1) ∙ sym (ap object_sort x.1) ∙ e))

pub sound_more_objects : (hs : List Held) (os : List Object) (o : Object) → Sound (record { held = hs; objects = os }) → OwnsContents (view_of hs os) o.contents → Sound (record { held = hs; objects = os ++ o ∷ [] })
sound_more_objects hs os o s k =
    let g = grows_more_objects hs os o in
    sound_objects hs os (os ++ o ∷ []) s g (each_joined (OwnsObject (view_of hs (os ++ o ∷ []))) os (o ∷ []) (objects_kept _ _ os g s.objects).0 (owns_contents_kept _ _ o.contents g k, tt))

-- ---- one object in the place of another

sorts_set : (st : Store) (i : ℕ) (old new : plain.Object) → slice_get st i ≡ Some old → contents_sort new.contents ≡ contents_sort old.contents → (j : ℕ) (k : Sort) → object_sort (slice_get st j) ≡ Some k → object_sort (slice_get (slice_set st i new) j) ≡ Some k
sorts_set [] i old new e s j k h = h
sorts_set (o ∷ st) zero old new e s zero k h = let w : o ≡ old = search (rules, e) in ap Some (s ∙ ap (λ (x : plain.Object). contents_sort x.contents) (sym w)) ∙ h
sorts_set (o ∷ st) zero old new e s (suc j) k h = h
sorts_set (o ∷ st) (suc i) old new e s zero k h = h
sorts_set (o ∷ st) (suc i) old new e s (suc j) k h = sorts_set st i old new e s j k h

pub view_other_object : (hs : List Held) (os : List Object) (i : ℕ) (o : Object) → view_of hs (slice_set os i o) ≡ record { held = held_of hs; store = slice_set (store_in (held_of hs) os) i (object_in (held_of hs) o) }
view_other_object hs os i o = λ j. record { held = held_of hs; store = map-set (object_in (held_of hs)) os i o j }

-- objects of one kind
abbrev pub SameSort : Object → Object → Type 0
SameSort old new = contents_kind new.contents ≡ contents_kind old.contents

pub grows_other_object : (hs : List Held) (os : List Object) (i : ℕ) (old new : Object) → slice_get os i ≡ Some old → SameSort old new → Grows (view_of hs os) (view_of hs (slice_set os i new))
grows_other_object hs os i old new e s =
    let kinds = contents_seen (held_of hs) new.contents ∙ s ∙ sym (contents_seen (held_of hs) old.contents) in
    subst (Grows (view_of hs os)) (sym (view_other_object hs os i new)) (grows_store (held_of hs) (store_in (held_of hs) os) (slice_set (store_in (held_of hs) os) i (object_in (held_of hs) new)) (sorts_set (store_in (held_of hs) os) i (object_in (held_of hs) old) (object_in (held_of hs) new) (map_at (object_in (held_of hs)) os i old e) kinds))

pub sound_other_object : (hs : List Held) (os : List Object) (i : ℕ) (old new : Object) → slice_get os i ≡ Some old → SameSort old new → Sound (record { held = hs; objects = os }) → OwnsContents (view_of hs os) new.contents → Sound (record { held = hs; objects = slice_set os i new })
sound_other_object hs os i old new e t s k =
    let g = grows_other_object hs os i old new e t in
    sound_objects hs os (slice_set os i new) s g (each_set (OwnsObject (view_of hs (slice_set os i new))) os i new (objects_kept _ _ os g s.objects).0 (owns_contents_kept _ _ new.contents g k))

-- ---- reading

-- what is of a kind stands there
kind_within : {A : Type 0} (kind : Option A → Option Sort) (xs : List A) (i : ℕ) → kind None ≡ None → IsSome (kind (slice_get xs i)) → i < length xs
kind_within kind xs i none h = elim (slice_get_cases xs i).1 [ inl x ↦ x.1 | inr past ↦ let n = subst IsSome (ap kind past.1 ∙ none) h in absurd (search (rules, n)) ]

pub stands_within : (hs : List Held) (os : List Object) (i : ℕ) → IsSome (object_at (view_of hs os) i) → i < length os
stands_within hs os i h = let k = kind_within object_sort (store_in (held_of hs) os) i refl h in omega (arith, k, length-map os (object_in (held_of hs)))

pub seen_here : (hs : List Held) (os : List Object) (i : ℕ) (o : Object) → slice_get os i ≡ Some o → slice_get (store_in (held_of hs) os) i ≡ Some (object_in (held_of hs) o)
seen_here hs os i o e = map_at (object_in (held_of hs)) os i o e

pub owns_here : (hs : List Held) (os : List Object) (i : ℕ) (o : Object) → slice_get os i ≡ Some o → Sound (record { held = hs; objects = os }) → OwnsContents (view_of hs os) o.contents
owns_here hs os i o e s = each_at (OwnsObject (view_of hs os)) os i o s.objects e

pub some_same : {A : Type 0} (x y : A) → Some x ≡ Some y → x ≡ y
some_same x y e = search (rules, e)

pub same_sort : (hs : List Held) (os : List Object) (i : ℕ) (old new : Object) → slice_get os i ≡ Some old → object_at (view_of hs os) i ≡ Some (contents_kind new.contents) → SameSort old new
same_sort hs os i old new e k = some_same _ _ (sym k ∙ ap object_sort (seen_here hs os i old e) ∙ ap Some (contents_seen (held_of hs) old.contents))

pub held_within : (hs : List Held) (os : List Object) (i : ℕ) → IsSome (held_at (view_of hs os) i) → i < length hs
held_within hs os i h = let k = kind_within held_sort (held_of hs) i refl h in omega (arith, k, held_length hs)

-- what is held at a place
pub held_here : (hs : List Held) (os : List Object) (i : ℕ) (h : Held) → Sound (record { held = hs; objects = os }) → slice_get hs i ≡ Some h → HeldAs (store_in (held_of hs) os) (held_of hs) i h
held_here hs os i h s e = held_found (store_in (held_of hs) os) [] hs i h i (omega arith) s.held e

-- each held thing is of a kind
pub held_known : (hs : List Held) (os : List Object) (i : ℕ) → Sound (record { held = hs; objects = os }) → i < length (held_of hs) → IsSome (held_at (view_of hs os) i)
held_known hs os i s lt = elim (slice_get_cases hs i).1 [ inl x ↦ subst IsSome (sym (ap held_sort (held_here hs os i x.0 s x.2).0)) (held_kind (held_of hs) x.0) | inr past ↦ absurd (omega (arith, lt, past.0, held_length hs)) ]
