-- Changes of objects, as the acts see them.
use Rattle.std.proofs.Common.{◌≡◌, ◌<◌, ◌==◌, ◌∷◌, if◌then◌else◌}
use Rattle.star_values.proofs.Names.{ℕ, is_some, suc, nat_le, true, false, List, [], map, length, get_or, Some, Result, Ok, Err, IfOk, slice_get, sym, ap, subst, rules, Bool, cond, Option, None, refl, ◌∙◌, slice_set, eqb-true, le-leb, length-map, map-set, set-set, set-get_or, get_or_from_slice_get, slice_get_past, slice_get-get_or, slice_get-map, remove, option_map, lookup, remove_entry, map-insert, map-remove, insert_entry, of_list, of_dict, Answer, set_member, insert_member, remove_member, did, refused, key_missing, value_at_place, value_of_key, with_value, with_pair, put_pair, with_contents, with_pairs, put_key, cut_by, cut_key, Act, at_object, on_found, put_back, change, changed, IsKey, same_key, further, place_of_key, same_key_alike, ArenaStop, Value, Object, Answers, SetsAt, InsertsAt, RemovesAt, DecidesOne, Identified, Owns, OwnsAll, Each, OwnsPair, Grows, View, value_in, value_of, pair_in, pairs_in, object_in, IsBack, IsOut}
use Rattle.std.specs.Prelude.{IsTrue}
use Rattle.value_spec.specs.Values as plain
use Rattle.star_values.specs.declared.object.ArenaStop.TheVariants as stop
use Rattle.star_values.proofs.Growing.{each_at, grows_then}

pub map_at : {A B : Type 0} (f : A → B) (xs : List A) (i : ℕ) (x : A) → slice_get xs i ≡ Some x → slice_get (map f xs) i ≡ Some (f x)
map_at f xs i x e = slice_get-map f xs i ∙ ap (option_map f) e

-- ---- an object that may be changed

-- with these contents
abbrev pub free : plain.Contents → plain.Object
free c = record { contents = c; frozen = false; loops = 0 }

pub is_free : (o : plain.Object) (c : plain.Contents) → o.frozen ≡ false → (o.loops == 0) ≡ true → o.contents ≡ c → o ≡ free c
is_free o c f l e = λ i. record { contents = e i; frozen = f i; loops = eqb-true o.loops 0 l i }

-- what an act on it answers, where the members come to be others
abbrev ListActs : {B C : Type 0} → (f : Value → plain.Value) → (B → C) → Result B ArenaStop → (old new : List Value) → plain.Object → (plain.Object → Answer plain.Object C) → Type 0
ListActs f view r old new o act = Answers view r o (record o { contents = of_list (map f new); loops = 0 }) (act o)

at_free : {B C : Type 0} (f : Value → plain.Value) (view : B → C) (r : Result B ArenaStop) (old new : List Value) (o : plain.Object) (act : plain.Object → Answer plain.Object C) → o.frozen ≡ false → (o.loops == 0) ≡ true → o.contents ≡ of_list (map f old) → ListActs f view r old new (free (of_list (map f old))) act → ListActs f view r old new o act
at_free f view r old new o act z l e h = subst (λ o. ListActs f view r old new o act) (sym (is_free o (of_list (map f old)) z l e)) h

same_members : (f : Value → plain.Value) (old new : List Value) → new ≡ old → free (of_list (map f new)) ≡ free (of_list (map f old))
same_members f old new e = ap (λ (vs : List Value). free (of_list (map f vs))) e

-- ---- a member in front of another

not_within : (i n : ℕ) → n < i → nat_le i n ≡ false
not_within i n h = search (rules, h)

insertion : (f : Value → plain.Value) (r : Result (Unit {0}) ArenaStop) (i : ℕ) (v : Value) (old new : List Value) → InsertsAt r old i v new → ListActs f (λ u. u) r old new (free (of_list (map f old))) (insert_member i (f v))
insertion f (Ok u) i v old new h = rw (h.1, map-insert, length-map, le-leb i (length old) h.0)
insertion f (Err stop.IndexRange) i v old new h = (rw (length-map, not_within i (length old) h.0), same_members f old new h.1)
insertion f (Err stop.Memory) i v old new h = same_members f old new h
insertion f (Err _) i v old new h = absurd h

pub inserted : (f : Value → plain.Value) (r : Result (Unit {0}) ArenaStop) (i : ℕ) (v : Value) (old new : List Value) (o : plain.Object) → o.frozen ≡ false → (o.loops == 0) ≡ true → o.contents ≡ of_list (map f old) → InsertsAt r old i v new → Answers (λ u. u) r o (record o { contents = of_list (map f new); loops = 0 }) (insert_member i (f v) o)
inserted f r i v old new o z l e h = at_free f (λ u. u) r old new o (insert_member i (f v)) z l e (insertion f r i v old new h)

-- ---- a member that goes

removal : (f : Value → plain.Value) (r : Result Value ArenaStop) (i : ℕ) (old new : List Value) → RemovesAt r old i new → ListActs f f r old new (free (of_list (map f old))) (remove_member i)
removal f (Ok v) i old new h = rw (h.1, map-remove, map_at f old i v h.0)
removal f (Err stop.IndexRange) i old new h = (rw (slice_get_past (map f old) i (rw length-map h.0)), same_members f old new h.1)
removal f (Err _) i old new h = absurd h

pub removed : (f : Value → plain.Value) (r : Result Value ArenaStop) (i : ℕ) (old new : List Value) (o : plain.Object) → o.frozen ≡ false → (o.loops == 0) ≡ true → o.contents ≡ of_list (map f old) → RemovesAt r old i new → Answers f r o (record o { contents = of_list (map f new); loops = 0 }) (remove_member i o)
removed f r i old new o z l e h = at_free f f r old new o (remove_member i) z l e (removal f r i old new h)

pub given_owned : (a : View) (r : Result Value ArenaStop) (i : ℕ) (old new : List Value) → RemovesAt r old i new → OwnsAll a old → IfOk r (Owns a)
given_owned a (Ok v) i old new h o = each_at (Owns a) old i v o h.0
given_owned a (Err e) i old new h o = tt

-- ---- a member in the place of another

setting : (f : Value → plain.Value) (r : Result (Unit {0}) ArenaStop) (i : ℕ) (v : Value) (old new : List Value) → SetsAt r old i v new → ListActs f (λ u. u) r old new (free (of_list (map f old))) (set_member i (f v))
setting f (Ok u) i v old new h = rw (h.1, map-set, map_at f old i (get_or old i v) (slice_get-get_or old i v h.0))
setting f (Err stop.IndexRange) i v old new h = (rw (slice_get_past (map f old) i (rw length-map h.0)), same_members f old new h.1)
setting f (Err _) i v old new h = absurd h

pub set : (f : Value → plain.Value) (r : Result (Unit {0}) ArenaStop) (i : ℕ) (v : Value) (old new : List Value) (o : plain.Object) → o.frozen ≡ false → (o.loops == 0) ≡ true → o.contents ≡ of_list (map f old) → SetsAt r old i v new → Answers (λ u. u) r o (record o { contents = of_list (map f new); loops = 0 }) (set_member i (f v) o)
set f r i v old new o z l e h = at_free f (λ u. u) r old new o (set_member i (f v)) z l e (setting f r i v old new h)

-- ---- two tests of one key

as_true : (b c : Bool) → (IsTrue b → IsTrue c) → (IsTrue c → IsTrue b) → b ≡ c
as_true true c f g = sym (f refl)
as_true false true f g = g refl
as_true false false f g = refl

-- a key of a dict is equal to this one where it is it
key_tested : (eq : Value → Value → Bool) (held : List plain.Value) (k l : Value) → DecidesOne eq → IsKey (value_in held k) → (IsTrue (same_key (value_in held l) (value_in held k)) → l ≡ k) → same_key (value_in held l) (value_in held k) ≡ eq k l
key_tested eq held k l d key one =
    as_true (same_key (value_in held l) (value_in held k)) (eq k l)
    (λ t. (d k l).1 (sym (one t)))
    (λ t. subst (λ l. IsTrue (same_key (value_in held l) (value_in held k))) ((d k l).0 t) (same_key_alike (value_in held k) key))

-- where the key of the first pair stands
abbrev place_here : Bool → Option ℕ → Option ℕ
place_here here place = if here then Some 0 else further place

-- ---- a value under a key

with_pair_further : (k v : plain.Value) (p : plain.Value × plain.Value) (ps : List (plain.Value × plain.Value)) (place : Option ℕ) → with_pair k v (p ∷ ps) (further place) ≡ p ∷ with_pair k v ps place
with_pair_further k v p ps None = refl
with_pair_further k v p ps (Some i) = elim (slice_get ps i) as (λ found. with_value v (p ∷ ps) (suc i) found ≡ p ∷ with_value v ps i found) [ None ↦ refl | Some q ↦ refl ]

pub put_seen : (eq : Value → Value → Bool) (held : List plain.Value) (k v : Value) (es : List (Value × Value)) → DecidesOne eq → Identified held k es → pairs_in held (insert_entry eq es k v) ≡ put_pair (value_in held k) (value_in held v) (pairs_in held es)
put_seen eq held k v [] d known = refl
put_seen eq held k v (e ∷ es) d known =
    let place = place_of_key (value_in held k) (pairs_in held es) in
    let more = put_seen eq held k v es d (known.0, known.1.1) in
    rw (key_tested eq held k e.0 d known.0 known.1.0) (elim (eq k e.0) as (λ b. pairs_in held (if b then (e.0, v) ∷ es else e ∷ insert_entry eq es k v) ≡ with_pair (value_in held k) (value_in held v) (pairs_in held (e ∷ es)) (place_here b place)) [ true ↦ refl | false ↦ ap (λ ps. pair_in held e ∷ ps) more ∙ sym (with_pair_further (value_in held k) (value_in held v) (pair_in held e) (pairs_in held es) place) ])

-- the act puts what was put
pub put_act : (eq : Value → Value → Bool) (held : List plain.Value) (k v : Value) (es new : List (Value × Value)) (o : plain.Object) → DecidesOne eq → o.frozen ≡ false → (o.loops == 0) ≡ true → o.contents ≡ of_dict (pairs_in held es) → Identified held k es → new ≡ insert_entry eq es k v → put_key (value_in held k) (value_in held v) o ≡ did tt (record o { contents = of_dict (pairs_in held new); loops = 0 })
put_act eq held k v es new o d f l c known n =
    let e : put_key (value_in held k) (value_in held v) o ≡ did tt (record o { contents = of_dict (put_pair (value_in held k) (value_in held v) (pairs_in held es)); loops = 0 }) = rw (is_free o (of_dict (pairs_in held es)) f l c) in
    e ∙ ap (λ ps. did tt (record o { contents = of_dict ps; loops = 0 })) (sym (put_seen eq held k v es d known) ∙ ap (pairs_in held) (sym n))

pub put_owned : (a : View) (eq : Value → Value → Bool) (k v : Value) (es : List (Value × Value)) → Each (OwnsPair a) es → Owns a k → Owns a v → IsKey (value_of a k) → Each (OwnsPair a) (insert_entry eq es k v)
put_owned a eq k v [] h o w key = ((o, w, key), tt)
put_owned a eq k v (e ∷ es) h o w key = elim (eq k e.0) as (λ b. Each (OwnsPair a) (if b then (e.0, v) ∷ es else e ∷ insert_entry eq es k v)) [ true ↦ ((h.0.0, w, h.0.2), h.1) | false ↦ (h.0, put_owned a eq k v es h.1 o w key) ]

-- ---- a pair that goes

abbrev without_place : List (plain.Value × plain.Value) → Option ℕ → List (plain.Value × plain.Value)
without_place ps None = ps
without_place ps (Some i) = remove ps i

-- what is left, and the value that goes, where the place is behind the first pair
gone_further : (p : plain.Value × plain.Value) (ps : List (plain.Value × plain.Value)) (place : Option ℕ) → (without_place (p ∷ ps) (further place) ≡ p ∷ without_place ps place) × (value_at_place (p ∷ ps) (further place) ≡ value_at_place ps place)
gone_further p ps None = (refl, refl)
gone_further p ps (Some i) = (refl, refl)

cut_seen : (eq : Value → Value → Bool) (held : List plain.Value) (k : Value) (es : List (Value × Value)) → DecidesOne eq → Identified held k es → pairs_in held (remove_entry (eq k) es) ≡ without_place (pairs_in held es) (place_of_key (value_in held k) (pairs_in held es))
cut_seen eq held k [] d known = refl
cut_seen eq held k (e ∷ es) d known =
    let place = place_of_key (value_in held k) (pairs_in held es) in
    let more = cut_seen eq held k es d (known.0, known.1.1) in
    rw (key_tested eq held k e.0 d known.0 known.1.0) (elim (eq k e.0) as (λ b. pairs_in held (cond b es (e ∷ remove_entry (eq k) es)) ≡ without_place (pairs_in held (e ∷ es)) (place_here b place)) [ true ↦ refl | false ↦ ap (λ ps. pair_in held e ∷ ps) more ∙ sym (gone_further (pair_in held e) (pairs_in held es) place).0 ])

-- the value of a key
pub value_seen : (eq : Value → Value → Bool) (held : List plain.Value) (k : Value) (es : List (Value × Value)) → DecidesOne eq → Identified held k es → option_map (value_in held) (lookup (eq k) es) ≡ value_of_key (value_in held k) (pairs_in held es)
value_seen eq held k [] d known = refl
value_seen eq held k (e ∷ es) d known =
    let place = place_of_key (value_in held k) (pairs_in held es) in
    let more = value_seen eq held k es d (known.0, known.1.1) in
    rw (key_tested eq held k e.0 d known.0 known.1.0) (elim (eq k e.0) as (λ b. option_map (value_in held) (cond b (Some e.1) (lookup (eq k) es)) ≡ value_at_place (pairs_in held (e ∷ es)) (place_here b place)) [ true ↦ refl | false ↦ more ∙ sym (gone_further (pair_in held e) (pairs_in held es) place).1 ])

some_further : (o : Option ℕ) → is_some (further o) ≡ is_some o
some_further None = refl
some_further (Some i) = refl

-- a key stands among pairs where a value stands under it
pub key_seen : (eq : Value → Value → Bool) (held : List plain.Value) (k : Value) (es : List (Value × Value)) → DecidesOne eq → Identified held k es → is_some (lookup (eq k) es) ≡ is_some (place_of_key (value_in held k) (pairs_in held es))
key_seen eq held k [] d known = refl
key_seen eq held k (e ∷ es) d known =
    let place = place_of_key (value_in held k) (pairs_in held es) in
    let more = key_seen eq held k es d (known.0, known.1.1) in
    rw (key_tested eq held k e.0 d known.0 known.1.0) (elim (eq k e.0) as (λ b. is_some (cond b (Some e.1) (lookup (eq k) es)) ≡ is_some (place_here b place)) [ true ↦ refl | false ↦ more ∙ sym (some_further place) ])

-- what cutting answers, by the value that was found
abbrev pub cut_answer : Option plain.Value → plain.Object → Answer plain.Object plain.Value
cut_answer None o = refused key_missing
cut_answer (Some v) o = did v o

cut_place : (o : plain.Object) (ps : List (plain.Value × plain.Value)) (place : Option ℕ) → cut_by o ps place (value_at_place ps place) ≡ cut_answer (value_at_place ps place) (with_contents (with_pairs (without_place ps place) o.contents) o)
cut_place o ps None = refl
cut_place o ps (Some i) = elim (value_at_place ps (Some i)) as (λ found. cut_by o ps (Some i) found ≡ cut_answer found (with_contents (with_pairs (remove ps i) o.contents) o)) [ None ↦ refl | Some v ↦ refl ]

-- the act cuts what was cut
pub cut_act : (eq : Value → Value → Bool) (held : List plain.Value) (k : Value) (found : Option Value) (es new : List (Value × Value)) (o : plain.Object) → DecidesOne eq → o.frozen ≡ false → (o.loops == 0) ≡ true → o.contents ≡ of_dict (pairs_in held es) → Identified held k es → found ≡ lookup (eq k) es → new ≡ remove_entry (eq k) es → cut_key (value_in held k) o ≡ cut_answer (option_map (value_in held) found) (record o { contents = of_dict (pairs_in held new); loops = 0 })
cut_act eq held k found es new o d f l c known value n =
    let ps = pairs_in held es in
    let freely : cut_key (value_in held k) o ≡ cut_by (record o { contents = of_dict ps; loops = 0 }) ps (place_of_key (value_in held k) ps) (value_of_key (value_in held k) ps) = rw (is_free o (of_dict ps) f l c) in
    freely
    ∙ cut_place (record o { contents = of_dict ps; loops = 0 }) ps (place_of_key (value_in held k) ps)
    ∙ (λ i. cut_answer ((sym (value_seen eq held k es d known) ∙ ap (option_map (value_in held)) (sym value)) i) (record o { contents = of_dict ((sym (cut_seen eq held k es d known) ∙ ap (pairs_in held) (sym n)) i); loops = 0 }))

pub cut_owned : (a : View) (test : Value → Bool) (es : List (Value × Value)) → Each (OwnsPair a) es → Each (OwnsPair a) (remove_entry test es)
cut_owned a test [] h = tt
cut_owned a test (e ∷ es) h = elim (test e.0) as (λ b. Each (OwnsPair a) (cond b es (e ∷ remove_entry test es))) [ true ↦ h.1 | false ↦ (h.0, cut_owned a test es h.1) ]

pub found_owned : (a : View) (test : Value → Bool) (es : List (Value × Value)) (v : Value) → Each (OwnsPair a) es → Some v ≡ lookup test es → Owns a v
found_owned a test [] v h f = absurd (search (rules, f))
found_owned a test (e ∷ es) v h f =
    let case = elim (test e.0) as (λ b. Some v ≡ cond b (Some e.1) (lookup test es) → Owns a v) [ true ↦ λ f. let s : e.1 ≡ v = search (rules, f) in subst (Owns a) s h.0.1 | false ↦ λ f. found_owned a test es v h.1 f ] in
    case f

-- ---- putting back

-- what was taken out of a is put back
pub back_again : (i : ℕ) (object : Object) (a b c : View) → IsOut i a b → c.store ≡ slice_set b.store i (object_in b.held object) → c.held ≡ b.held → Grows b c → IsBack i object a c
back_again i object a b c out s h g = record {
  store = s ∙ (λ j. slice_set (out.store j) i (object_in (out.held j) object)) ∙ set-set a.store i out.other (object_in a.held object);
  held = h ∙ out.held;
  grows = grows_then a b c out.grows g;
}

-- the object that stood there is back: nothing has changed
back_same : (i : ℕ) (old new : Object) (a b : View) → slice_get a.store i ≡ Some (object_in a.held old) → object_in a.held new ≡ object_in a.held old → IsBack i new a b → b.store ≡ a.store
back_same i old new a b here same back = back.store ∙ ap (slice_set a.store i) same ∙ ap (slice_set a.store i) (sym (get_or_from_slice_get a.store i (object_in a.held old) (object_in a.held old) here)) ∙ set-get_or a.store i (object_in a.held old)

-- ---- acts

-- what the object's act answers, the store's act at its place answers
pub acted : {A B : Type 0} (view : A → B) (r : Result A ArenaStop) (a b : View) (i : ℕ) (old new : Object) (act : Act plain.Object B) → slice_get a.store i ≡ Some (object_in a.held old) → Answers view r (object_in a.held old) (object_in a.held new) (act (object_in a.held old)) → IsBack i new a b → Answers view r a.store b.store (at_object i act a.store)
acted view (Ok x) a b i old new act here h back = ap (on_found i a.store act) here ∙ ap (put_back i a.store) h ∙ ap (did (view x)) (sym back.store)
acted view (Err stop.Memory) a b i old new act here h back = back_same i old new a b here h back
acted view (Err _) a b i old new act here h back = (ap (on_found i a.store act) here ∙ ap (put_back i a.store) h.0, back_same i old new a b here h.1 back)

-- what nothing refuses
pub changed_as : (f : plain.Object → plain.Object) (a b : View) (i : ℕ) (old new : Object) → slice_get a.store i ≡ Some (object_in a.held old) → object_in a.held new ≡ f (object_in a.held old) → IsBack i new a b → b.store ≡ change f i a.store
changed_as f a b i old new here same back = back.store ∙ ap (slice_set a.store i) same ∙ sym (ap (changed f a.store i) here)
