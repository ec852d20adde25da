-- What is done one after another while the arena grows, and what stops it.
use Rattle.std.proofs.Common.{◌≡◌, ℕ, zero, suc, arith, ◌+◌, ◌<◌, List, [], ◌∷◌, ◌++◌, drop, get_or, length, map as each, Result, Ok, Err, IfOk, Bool, false, IsTrue, rules, append-nil, append_assoc, refl, sym, ap, subst, ◌∙◌}
use Rattle.std.proofs.lemmas.List.{drop_more, map-append}
use Rattle.ytt_base.specs.Outcomes.{fault_at}
use Rattle.ytt_base.specs.declared.fault.FaultKind.TheVariants as kind
use Rattle.ytt_base.specs.declared.fault.Stop.{Stop}
use Rattle.ytt_base.specs.declared.fault.Stop.TheVariants as stop
use Rattle.ytt_base.specs.declared.fault.Place.{Place}
use Rattle.module_spec.specs.Structs.{make, name_of_key}
use Rattle.object_arena.specs.Made.{Makes, MakesObject}
use Rattle.star_index.proofs.Ends.{gives_made, gives_object, gives_value}
use Rattle.star_steps.proofs.Meeting.{meets_stop}
use Rattle.star_steps.specs.Meets.{Gives, Meets, as_is, state_in}
use Rattle.star_steps.specs.declared.steps.Depth.{Depth}
use Rattle.star_values.proofs.Growing.{each_joined, grows_same, grows_then, owns_kept, value_kept}
use Rattle.star_values.specs.Objects.{pair_in, pairs_in}
use Rattle.star_values.specs.Owns.{Each, Grows, Owns, OwnsAll, OwnsPair}
use Rattle.star_values.specs.View.{View, fields_in, text_in, value_of, values_of}
use Rattle.star_values.specs.declared.value.NamedValue.{NamedValue}
use Rattle.star_values.specs.declared.value.Ref.{Ref}
use Rattle.star_values.specs.declared.value.Value.TheVariants as value
use Rattle.star_values.specs.declared.value.Value.{Value as Held}
use Rattle.value_spec.proofs.Computations.{then_give}
use Rattle.value_spec.specs.Keys.{IsKey, text_cost}
use Rattle.value_spec.specs.Outcomes.{Computation, Ending, State, asks, bad, done, give, new_dict, new_list, paid, take_steps, then_do, ◌>>=◌}
use Rattle.value_spec.specs.Values.{Value, arguments, dict_value, list_value, none_value, of_dict, of_list, struct_value, text_value, tuple_value, values_from}
use Rattle.mod_basic.proofs.Forms.{as_struct, as_tuple, both_stay, dict_stays, pair_form, struct_stays, text_form}
use Rattle.mod_basic.specs.Walks.{GivesSeen, Here, OwnsPairs, converted, fields_from, in_turn, name_in, pair_converted, pairs_of}
use Rattle.mod_basic.specs.declared.walks.Way.{Way}
use Rattle.mod_basic.specs.declared.walks.Way.TheVariants as way

-- ---- refusals

-- a refusal is the end of all that would follow
pub gives_err : {A B : Type 0} (view : A → B) (e : Stop) (a b : View) (k : ℕ) (o : Ending Here B) (f : B → Computation Here Value) (r : Result Held Stop) (p : Ending Here Value) →
    p ≡ then_do o f → Meets view (Err e) (state_in b k) o → r ≡ Err e → Grows a b → Gives p r a b k
gives_err view e a b k o f r p same m is g = subst (λ p. Gives p r a b k) (sym same) (record {
  meaning = meets_stop view (value_of b) e (state_in b k) o f r m is;
  owns = subst (λ r. IfOk r (Owns b)) (sym is) tt;
  grows = g;
})

pub seen_err : {A B C D : Type 0} (view : A → B) (onto : View → C → D) (Owned : View → C → Type 0) (e : Stop) (a b : View) (k : ℕ) (o : Ending Here B) (f : B → Computation Here D) (r : Result C Stop) (p : Ending Here D) →
    p ≡ then_do o f → Meets view (Err e) (state_in b k) o → r ≡ Err e → Grows a b → GivesSeen onto Owned p r a b k
seen_err view onto Owned e a b k o f r p same m is g = subst (λ p. GivesSeen onto Owned p r a b k) (sym same) (record {
  meaning = meets_stop view (onto b) e (state_in b k) o f r m is;
  owns = subst (λ r. IfOk r (Owned b)) (sym is) tt;
  grows = g;
})

-- the same ending
pub seen_same : {C D : Type 0} {onto : View → C → D} {Owned : View → C → Type 0} {p o : Ending Here D} {r : Result C Stop} {a b : View} {k : ℕ} → p ≡ o → GivesSeen onto Owned o r a b k → GivesSeen onto Owned p r a b k
seen_same {onto = onto} {Owned = Owned} {r = r} {a = a} {b = b} {k = k} e h = subst (λ p. GivesSeen onto Owned p r a b k) (sym e) h

-- want of memory says nothing
pub gives_memory : (p : Ending Here Value) (r : Result Held Stop) (a b : View) (k : ℕ) → r ≡ Err stop.Memory → Grows a b → Gives p r a b k
gives_memory p r a b k is g = subst (λ r. Gives p r a b k) (sym is) (record { meaning = tt; owns = tt; grows = g })

pub seen_memory : {C D : Type 0} (onto : View → C → D) (Owned : View → C → Type 0) (p : Ending Here D) (r : Result C Stop) (a b : View) (k : ℕ) → r ≡ Err stop.Memory → Grows a b → GivesSeen onto Owned p r a b k
seen_memory onto Owned p r a b k is g = subst (λ r. GivesSeen onto Owned p r a b k) (sym is) (record { meaning = tt; owns = tt; grows = g })

-- what comes first is done, and the rest gives this
pub gives_after : {B : Type 0} (p : Ending Here Value) (o : Ending Here B) (x : B) (f : B → Computation Here Value) (r : Result Held Stop) (a b c : View) (m k : ℕ) →
    p ≡ then_do o f → o ≡ done x (state_in b m) → Grows a b → Gives (f x (state_in b m)) r b c k → Gives p r a c k
gives_after p o x f r a b c m k same is g h =
    subst (λ p. Gives p r a c k) (sym (same ∙ ap (λ o. then_do o f) is)) (record { meaning = h.meaning; owns = h.owns; grows = grows_then a b c g h.grows })

-- ---- one after another

-- so many are done, and these are left
pub record InTurn {T V A : Type 0} (one : View → V → A) (Owned : View → V → Type 0) (f : T → Computation Here A) (whole : Ending Here (List A)) (left : List T) (made : List V) (a b : View) (k : ℕ) : Type 0 where
  pub meaning : whole ≡ then_do (in_turn f left (state_in b k)) (λ xs. give (each (one b) made ++ xs))
  pub owns : Each (Owned b) made
  pub grows : Grows a b

-- what is owned stays so, and is the same
abbrev pub Keeps : {V A : Type 0} → (View → V → A) → (View → V → Type 0) → Type 0
Keeps {V = V} one Owned = (a b : View) (v : V) → Grows a b → Owned a v → Owned b v × (one b v ≡ one a v)

pub keeps_value : Keeps value_of Owns
keeps_value a b v g o = (owns_kept a b v g o, value_kept a b v g o)

abbrev pub pair_of : View → Held × Held → Value × Value
pair_of a p = pair_in a.held p

pub keeps_pair : Keeps pair_of OwnsPair
keeps_pair a b p g o =
    let k = value_kept a b p.0 g o.0 in
    ((owns_kept a b p.0 g o.0, owns_kept a b p.1 g o.1, subst IsKey (sym k) o.2), λ i. (k i, value_kept a b p.1 g o.1 i))

joined : {A : Type 0} (o : Ending Here (List A)) (ys zs : List A) (x : A) → zs ≡ ys ++ x ∷ [] → then_do (then_do o (λ xs. give (x ∷ xs))) (λ xs. give (ys ++ xs)) ≡ then_do o (λ xs. give (zs ++ xs))
joined (done xs s) ys zs x e = ap (λ l. done l s) (sym (ap (λ z. z ++ xs) e ∙ append_assoc ys (x ∷ []) xs))
joined (bad f s) ys zs x e = refl
joined (asks q s k) ys zs x e = λ i. asks q s (λ got t. joined (k got t) ys zs x e i)

module _ {T V A : Type 0} (one : View → V → A) (Owned : View → V → Type 0) (f : T → Computation Here A) where
  all_kept : (a b : View) (vs : List V) → Keeps one Owned → Grows a b → Each (Owned a) vs → Each (Owned b) vs × (each (one b) vs ≡ each (one a) vs)
  all_kept a b [] keeps g o = (tt, refl)
  all_kept a b (v ∷ vs) keeps g o =
      let k = keeps a b v g o.0 in
      let more = all_kept a b vs keeps g o.1 in
      ((k.0, more.0), λ i. k.1 i ∷ more.1 i)

  -- none is done yet
  pub turns_begin : (all : List T) (vs : List V) (a : View) (k : ℕ) → vs ≡ [] → InTurn one Owned f (in_turn f all (state_in a k)) all vs a a k
  turns_begin all vs a k e =
      subst (λ vs. InTurn one Owned f (in_turn f all (state_in a k)) all vs a a k) (sym e) (record { meaning = then_give (in_turn f all (state_in a k)); owns = tt; grows = grows_same a })

  -- one more is done
  pub turns_next : (whole : Ending Here (List A)) (all more : List T) (t : T) (vs ws : List V) (v : V) (a b c : View) (k m : ℕ) → Keeps one Owned → all ≡ t ∷ more → ws ≡ vs ++ v ∷ []
      → InTurn one Owned f whole all vs a b k → f t (state_in b k) ≡ done (one c v) (state_in c m) → Owned c v → Grows b c → InTurn one Owned f whole more ws a c m
  turns_next whole all more t vs ws v a b c k m keeps next is h turned owned grown =
      let kept = all_kept b c vs keeps grown h.owns in
      subst (λ ws. InTurn one Owned f whole more ws a c m) (sym is) (record {
        meaning = h.meaning
            ∙ ap (λ l. then_do (in_turn f l (state_in b k)) (λ xs. give (each (one b) vs ++ xs))) next
            ∙ ap (λ o. then_do (then_do o (λ x. in_turn f more >>= λ xs. give (x ∷ xs))) (λ xs. give (each (one b) vs ++ xs))) turned
            ∙ joined (in_turn f more (state_in c m)) (each (one b) vs) (each (one c) (vs ++ v ∷ [])) (one c v) (map-append (one c) vs (v ∷ []) ∙ ap (λ l. l ++ one c v ∷ []) kept.1);
        owns = each_joined (Owned c) vs (v ∷ []) kept.0 (owned, tt);
        grows = grows_then a b c h.grows grown;
      })

  -- one is refused
  pub turns_stop : {B : Type 0} (view : B → A) (whole : Ending Here (List A)) (all more : List T) (t : T) (vs : List V) (e : Stop) (r : Result (List V) Stop) (a b c : View) (k m : ℕ) → all ≡ t ∷ more
      → InTurn one Owned f whole all vs a b k → Meets view (Err e) (state_in c m) (f t (state_in b k)) → r ≡ Err e → Grows b c → GivesSeen (λ a. each (one a)) (λ a. Each (Owned a)) whole r a c m
  turns_stop view whole all more t vs e r a b c k m next h stopped is grown =
      seen_err (each (one c)) (λ a. each (one a)) (λ a. Each (Owned a)) e a c m (then_do (f t (state_in b k)) (λ x. in_turn f more >>= λ xs. give (x ∷ xs))) (λ xs. give (each (one b) vs ++ xs)) r whole
      (h.meaning ∙ ap (λ l. then_do (in_turn f l (state_in b k)) (λ xs. give (each (one b) vs ++ xs))) next)
      (meets_stop view (each (one c)) e (state_in c m) (f t (state_in b k)) (λ x. in_turn f more >>= λ xs. give (x ∷ xs)) (Err e) stopped refl)
      is (grows_then a b c h.grows grown)

  -- all are done
  pub turns_end : (whole : Ending Here (List A)) (left : List T) (vs : List V) (a b : View) (k : ℕ) → left ≡ [] → InTurn one Owned f whole left vs a b k → GivesSeen (λ a. each (one a)) (λ a. Each (Owned a)) whole (Ok vs) a b k
  turns_end whole left vs a b k none h = record {
    meaning = h.meaning ∙ ap (λ l. then_do (in_turn f l (state_in b k)) (λ xs. give (each (one b) vs ++ xs))) none ∙ ap (λ xs. done xs (state_in b k)) (append-nil (each (one b) vs));
    owns = h.owns;
    grows = h.grows;
  }

-- what is left begins with the next one
pub left_next : {V A : Type 0} (one : V → A) (vs : List V) (i : ℕ) (d : V) → i < length vs → each one (drop i vs) ≡ one (get_or vs i d) ∷ each one (drop (i + 1) vs)
left_next one vs i d h = ap (each one) (drop_more vs i d h)

-- it is owned, as all are
pub owned_at : {V : Type 0} (Owned : V → Type 0) (vs : List V) (i : ℕ) (d : V) → Each Owned vs → i < length vs → Owned (get_or vs i d)
owned_at Owned [] i d o h = absurd (omega (arith, h))
owned_at Owned (v ∷ vs) zero d o h = o.0
owned_at Owned (v ∷ vs) (suc i) d o h = owned_at Owned vs i d o.1 (omega (arith, h))

-- ---- a turn of a loop over what stood there before it

module _ {V A : Type 0} (one : View → V → A) (Owned : View → V → Type 0) (keeps : Keeps one Owned) (f : A → Computation Here A) (whole : Ending Here (List A)) (vs made : List V) (i : ℕ) (d : V) (was b : View) (k : ℕ)
    (h : i < length vs) (owned : Each (Owned was) vs) (so_far : InTurn one Owned f whole (each (one was) (drop i vs)) made was b k) where
  kept_item : Owned b (get_or vs i d) × (one b (get_or vs i d) ≡ one was (get_or vs i d))
  kept_item = keeps was b (get_or vs i d) so_far.grows (owned_at (Owned was) vs i d owned h)

  pub turn_owned : Owned b (get_or vs i d)
  turn_owned = kept_item.0

  pub turn_done : (ws : List V) (v : V) (c : View) (m : ℕ) → ws ≡ made ++ v ∷ [] → f (one b (get_or vs i d)) (state_in b k) ≡ done (one c v) (state_in c m) → Owned c v → Grows b c → InTurn one Owned f whole (each (one was) (drop (i + 1) vs)) ws was c m
  turn_done ws v c m pushed turned own grown =
      turns_next one Owned f whole (each (one was) (drop i vs)) (each (one was) (drop (i + 1) vs)) (one was (get_or vs i d)) made ws v was b c k m keeps (left_next (one was) vs i d h) pushed so_far
      (subst (λ t. f t (state_in b k) ≡ done (one c v) (state_in c m)) kept_item.1 turned) own grown

  pub turn_stopped : {B : Type 0} (view : B → A) (e : Stop) (r : Result (List V) Stop) (c : View) (m : ℕ) → Meets view (Err e) (state_in c m) (f (one b (get_or vs i d)) (state_in b k)) → r ≡ Err e → Grows b c → GivesSeen (λ a. each (one a)) (λ a. Each (Owned a)) whole r was c m
  turn_stopped view e r c m stopped refused grown =
      turns_stop one Owned f view whole (each (one was) (drop i vs)) (each (one was) (drop (i + 1) vs)) (one was (get_or vs i d)) made e r was b c k m (left_next (one was) vs i d h) so_far
      (subst (λ t. Meets view (Err e) (state_in c m) (f t (state_in b k))) kept_item.1 stopped) refused grown

-- ---- what is made of the parts

module _ (p : Ending Here Value) (v : Held) (a b c : View) (k : ℕ) where
  pub list_given : (o : Ending Here (List Value)) (vs : List Held) → p ≡ then_do o new_list → GivesSeen values_of OwnsAll o (Ok vs) a b k → MakesObject (list_value (length b.store)) (of_list (values_of b vs)) (Ok v) b c → Gives p (Ok v) a c k
  list_given o vs form h made = gives_after p o (values_of b vs) new_list (Ok v) a b c k k form h.meaning h.grows (gives_object _ _ v b c k _ refl made)

  pub tuple_given : (o : Ending Here (List Value)) (vs : List Held) → p ≡ then_do o as_tuple → GivesSeen values_of OwnsAll o (Ok vs) a b k → Makes (tuple_value (values_from (values_of b vs))) (Ok v) b c → Gives p (Ok v) a c k
  tuple_given o vs form h made = gives_after p o (values_of b vs) as_tuple (Ok v) a b c k k form h.meaning h.grows (gives_made _ v b c k _ refl made)

  pub struct_given : (o : Ending Here (List (Value × Value))) (ps : List (Held × Held)) (fs : List NamedValue) → p ≡ then_do o as_struct → GivesSeen pairs_of OwnsPairs o (Ok ps) a b k → fields_in b.held fs ≡ fields_from (pairs_of b ps)
      → Makes (struct_value (fields_in b.held fs)) (Ok v) b c → Gives p (Ok v) a c k
  struct_given o ps fs form h same made =
      gives_after p o (pairs_of b ps) as_struct (Ok v) a b c k k form h.meaning h.grows (gives_made _ v b c k _ (ap (λ fs. done (struct_value fs) (state_in b k)) (sym same)) made)

  pub dict_given : (o : Ending Here (List (Value × Value))) (ps qs : List (Held × Held)) → p ≡ then_do o new_dict → GivesSeen pairs_of OwnsPairs o (Ok ps) a b k → pairs_in b.held qs ≡ pairs_of b ps
      → MakesObject (dict_value (length b.store)) (of_dict (pairs_in b.held qs)) (Ok v) b c → Gives p (Ok v) a c k
  dict_given o ps qs form h same made =
      gives_after p o (pairs_of b ps) new_dict (Ok v) a b c k k form h.meaning h.grows (gives_object _ _ v b c k _ (ap (λ qs. new_dict qs (state_in b k)) (sym same)) made)

-- ---- a pair

module _ (w : Way) (l : ℕ) (p : Place) (q : Held × Held) (a b : View) (n m k : ℕ) where
  abbrev pair_before : Ending Here (Value × Value)
  pair_before = pair_converted w l p (pair_in a.held q) (state_in a n)

  abbrev behind_name : List ℕ → Computation Here (Value × Value)
  behind_name x = converted w l p (value_of a q.1) >>= λ v. give (text_value x, v)

  -- its name can't be paid
  pub name_err : (e : Stop) (r : Result (Held × Held) Stop) → Meets (λ (u : Unit {0}). name_in (value_of a q.0)) (Err e) (state_in a m) (paid p (name_of_key p (value_of a q.0)) (state_in a n)) → r ≡ Err e → GivesSeen pair_of OwnsPair pair_before r a a m
  name_err e r stopped is =
      seen_err (λ (u : Unit {0}). name_in (value_of a q.0)) pair_of OwnsPair e a a m (paid p (name_of_key p (value_of a q.0)) (state_in a n)) behind_name r pair_before (pair_form w l p (pair_in a.held q) (state_in a n)) stopped is (grows_same a)

  module _ (named : paid p (name_of_key p (value_of a q.0)) (state_in a n) ≡ done (name_in (value_of a q.0)) (state_in a m)) where
    goes : pair_before ≡ then_do (converted w l p (value_of a q.1) (state_in a m)) (λ v. give (text_value (name_in (value_of a q.0)), v))
    goes = pair_form w l p (pair_in a.held q) (state_in a n) ∙ ap (λ o. then_do o behind_name) named

    -- its value is refused
    pub value_err : (e : Stop) (r : Result (Held × Held) Stop) → Gives (converted w l p (value_of a q.1) (state_in a m)) (Err e) a b k → r ≡ Err e → GivesSeen pair_of OwnsPair pair_before r a b k
    value_err e r h is = seen_err (value_of b) pair_of OwnsPair e a b k _ (λ v. give (text_value (name_in (value_of a q.0)), v)) r pair_before goes h.meaning is h.grows

    -- it is converted
    pub pair_given : (v : Held) → value_of a q.0 ≡ text_value (name_in (value_of a q.0)) → OwnsPair a q → Gives (converted w l p (value_of a q.1) (state_in a m)) (Ok v) a b k → GivesSeen pair_of OwnsPair pair_before (Ok (q.0, v)) a b k
    pair_given v text owned h =
        let kept = keeps_pair a b q h.grows owned in
        let key = value_kept a b q.0 h.grows owned.0 in
        record {
          meaning = goes ∙ ap (λ o. then_do o (λ v. give (text_value (name_in (value_of a q.0)), v))) h.meaning ∙ ap (λ x. done (x, value_of b v) (state_in b k)) (sym text ∙ sym key);
          owns = (kept.0.0, h.owns, kept.0.2);
          grows = h.grows;
        }

-- ---- what stays

module _ (w : Way) (at : Depth) (a : View) (v : Held) (r : Ref) (is : v ≡ value.Text r) (n m : ℕ) where
  abbrev pub text_there : List ℕ
  text_there = text_in (get_or a.held r.at none_value)

  abbrev pub text_paid : Ending Here (Unit {0})
  text_paid = take_steps (text_cost (length text_there)) at.place (state_in a n)

  text_before : converted w at.levels at.place (value_of a v) (state_in a n) ≡ then_do text_paid (λ u. give (text_value text_there))
  text_before = ap (λ v. converted w at.levels at.place (value_of a v) (state_in a n)) is ∙ text_form w at.levels at.place text_there (state_in a n)

  -- its size can't be paid
  pub text_err : (e : Stop) (given : Result Held Stop) → Meets as_is (Err e) (state_in a m) text_paid → given ≡ Err e → Gives (converted w at.levels at.place (value_of a v) (state_in a n)) given a a m
  text_err e given stopped same = gives_err as_is e a a m text_paid (λ u. give (text_value text_there)) given _ text_before stopped same (grows_same a)

  pub text_stays : text_paid ≡ done tt (state_in a m) → Owns a v → Gives (converted w at.levels at.place (value_of a v) (state_in a n)) (Ok v) a a m
  text_stays enough owned =
      gives_value v a m _ (text_before ∙ ap (λ o. then_do o (λ u. give (text_value text_there))) enough ∙ ap (λ v. done (value_of a v) (state_in a m)) (sym is)) owned

plain_stays : (w : Way) (n : ℕ) (p : Place) (a : View) (v : Held) (s : State Here) → ((r : Ref) → v ≡ value.Text r → ⊥) → ((r : Ref) → v ≡ value.List r → ⊥) → ((r : Ref) → v ≡ value.Dict r → ⊥)
    → ((r : Ref) → v ≡ value.Tuple r → ⊥) → ((r : Ref) → v ≡ value.Struct r → ⊥) → converted w n p (value_of a v) s ≡ done (value_of a v) s
plain_stays w n p a value.None s text list dict tuple struct = both_stay w n p _ s (λ m. refl) (λ m. refl)
plain_stays w n p a (value.Bool b) s text list dict tuple struct = both_stay w n p _ s (λ m. refl) (λ m. refl)
plain_stays w n p a (value.Int z) s text list dict tuple struct = both_stay w n p _ s (λ m. refl) (λ m. refl)
plain_stays w n p a (value.Text r) s text list dict tuple struct = absurd (text r refl)
plain_stays w n p a (value.List r) s text list dict tuple struct = absurd (list r refl)
plain_stays w n p a (value.Dict r) s text list dict tuple struct = absurd (dict r refl)
plain_stays w n p a (value.Tuple r) s text list dict tuple struct = absurd (tuple r refl)
plain_stays w n p a (value.Range r) s text list dict tuple struct = both_stay w n p _ s (λ m. refl) (λ m. refl)
plain_stays w n p a (value.Struct r) s text list dict tuple struct = absurd (struct r refl)
plain_stays w n p a (value.Fragment r) s text list dict tuple struct = both_stay w n p _ s (λ m. refl) (λ m. refl)
plain_stays w n p a (value.Func r) s text list dict tuple struct = both_stay w n p _ s (λ m. refl) (λ m. refl)
plain_stays w n p a (value.Native r) s text list dict tuple struct = both_stay w n p _ s (λ m. refl) (λ m. refl)
plain_stays w n p a (value.Module r) s text list dict tuple struct = both_stay w n p _ s (λ m. refl) (λ m. refl)

module _ (w : Way) (at : Depth) (a : View) (v : Held) (k : ℕ) (owned : Owns a v) where
  -- a dict stays where structs are sought, and a struct where dicts are
  pub dict_kept : (r : Ref) → v ≡ value.Dict r → w ≡ way.Decode → Gives (converted w at.levels at.place (value_of a v) (state_in a k)) (Ok v) a a k
  dict_kept r is decode =
      gives_value v a k _ ((λ i. converted (decode i) at.levels at.place (value_of a (is i)) (state_in a k)) ∙ dict_stays at.levels at.place r.at (state_in a k) ∙ ap (λ v. done (value_of a v) (state_in a k)) (sym is)) owned

  pub struct_kept : (r : Ref) → v ≡ value.Struct r → w ≡ way.Encode → Gives (converted w at.levels at.place (value_of a v) (state_in a k)) (Ok v) a a k
  struct_kept r is encode =
      gives_value v a k _ ((λ i. converted (encode i) at.levels at.place (value_of a (is i)) (state_in a k)) ∙ struct_stays at.levels at.place _ (state_in a k) ∙ ap (λ v. done (value_of a v) (state_in a k)) (sym is)) owned

  -- what no way goes through
  pub plain_kept : ((r : Ref) → v ≡ value.Text r → ⊥) → ((r : Ref) → v ≡ value.List r → ⊥) → ((r : Ref) → v ≡ value.Dict r → ⊥) → ((r : Ref) → v ≡ value.Tuple r → ⊥) → ((r : Ref) → v ≡ value.Struct r → ⊥)
      → Gives (converted w at.levels at.place (value_of a v) (state_in a k)) (Ok v) a a k
  plain_kept text list dict tuple struct = gives_value v a k _ (plain_stays w at.levels at.place a v (state_in a k) text list dict tuple struct) owned

-- ---- what is made of arguments

-- one stands by its position
pub refused_first : (a : View) (p : Place) (vs : List Held) (fs : List NamedValue) (k : ℕ) (e : Stop) (none : Bool) → (vs ≡ [] → IsTrue none) → none ≡ false → e ≡ stop.Fault (fault_at kind.ArgBind p)
    → Gives (make p (arguments (values_from (values_of a vs)) (fields_in a.held fs)) (state_in a k)) (Err e) a a k
refused_first a p [] fs k e none empty some is = absurd (search (rules, empty refl, some))
refused_first a p (v ∷ vs) fs k e none empty some is =
    subst (λ e. Gives (make p (arguments (values_from (values_of a (v ∷ vs))) (fields_in a.held fs)) (state_in a k)) (Err e) a a k) (sym is) (record { meaning = refl; owns = tt; grows = grows_same a })
