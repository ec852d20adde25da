-- Rows that make a dict, or change a list.
use Rattle.star_steps.proofs.Names.{◌≡◌, ℕ, suc, ◌+◌, true, List, [], ◌∷◌, ◌++◌, length, Some, Result, Ok, Err, refl, sym, ap, subst, ◌∙◌, rules, length-map, Place, Stop, count_in, keys_in, members_in, Computation, done, then_do, acting, after_act, give, new_dict, take_steps, ◌>>=◌, did, list_at, list_extend, may_change, pairs_at, put_pairs, extend_row, join_pairs, new_keys, Grows, Owns, View, value_of, values_of, Ref, Value, grows_same, owns_kept, some_same, Gives, Meets, as_is, state_in, meets_same, meets_stop}
use Rattle.value_spec.specs.Values as plain
use Rattle.star_values.specs.declared.value.Value.TheVariants as value
use Rattle.star_fragments.specs.Fresh.{Builds}
use Rattle.star_integers.proofs.Progressions.{progression_length}
use Rattle.star_ops.specs.Acts.{is_iterable}
use Rattle.star_ops.proofs.Members.{put_both}

-- ---- unions

-- the steps were taken, and the dict was made
pub dicts_joined : (p : Place) (ps qs : List (plain.Value × plain.Value)) (v : Value) (a b : View) (n m cost : ℕ) → cost ≡ length ps + length qs + (length ps + new_keys ps qs) → take_steps cost p (state_in a n) ≡ done tt (state_in a m) →
    Builds value_of Owns (new_dict (put_pairs [] (ps ++ qs))) (Ok v) a b → Gives (join_pairs p ps qs (state_in a n)) (Ok v) a b m
dicts_joined p ps qs v a b n m cost e taken built = record {
  meaning =
      ap (λ k. then_do (take_steps k p (state_in a n)) (λ u. new_dict (put_pairs (put_pairs [] ps) qs))) (sym e)
      ∙ ap (λ o. then_do o (λ u. new_dict (put_pairs (put_pairs [] ps) qs))) taken
      ∙ ap (λ ms. new_dict ms (state_in a m)) (sym (put_both [] ps qs))
      ∙ built.meaning m;
  owns = built.owns;
  grows = built.grows;
}

-- ---- a list in place

keys_count : (ps : List (plain.Value × plain.Value)) → length (keys_in ps) ≡ length ps
keys_count [] = refl
keys_count (p ∷ ps) = ap suc (keys_count ps)

-- the members of a value that has some are as many as are counted
pub members_there : (a : View) (v : Value) → is_iterable v ≡ true → (ws : List plain.Value) × (members_in a.store (value_of a v) ≡ Some ws) × (length ws ≡ count_in a.store (value_of a v))
members_there a (value.Tuple r) h = (_, refl, refl)
members_there a (value.List r) h = (_, refl, refl)
members_there a (value.Dict r) h = (_, refl, keys_count (pairs_at r.at a.store))
members_there a (value.Range r) h = (_, refl, length-map _ _ ∙ progression_length _ _ _)
members_there a _ h = absurd (search (rules, h))

-- what the row comes to where the list may be changed and the value has members
abbrev extending : Place → ℕ → List plain.Value → Computation (Unit {0}) plain.Value
extending p r ws = acting p (list_extend r ws) >>= λ u. give (plain.list_value r)

pub extended_row : (p : Place) (r : ℕ) (v : plain.Value) (a : View) (n : ℕ) (ws : List plain.Value) → may_change r a.store ≡ did tt a.store → members_in a.store v ≡ Some ws →
    extend_row p r v (state_in a n) ≡ then_do (take_steps (length (list_at r a.store) + length ws) p (state_in a n)) (λ u. extending p r ws)
extended_row p r v a n ws may there = rw (may, there) refl

extended : (p : Place) (r : ℕ) (v : plain.Value) (a : View) (n k : ℕ) (ws : List plain.Value) → may_change r a.store ≡ did tt a.store → members_in a.store v ≡ Some ws → k ≡ length (list_at r a.store) + length ws →
    extend_row p r v (state_in a n) ≡ then_do (take_steps k p (state_in a n)) (λ u. extending p r ws)
extended p r v a n k ws may there e = extended_row p r v a n ws may there ∙ ap (λ k. then_do (take_steps k p (state_in a n)) (λ u. extending p r ws)) (sym e)

-- the steps were refused
pub extend_stopped : (p : Place) (r : ℕ) (v : plain.Value) (a : View) (n m k : ℕ) (ws : List plain.Value) (e : Stop) (result : Result Value Stop) → may_change r a.store ≡ did tt a.store → members_in a.store v ≡ Some ws → k ≡ length (list_at r a.store) + length ws →
    Meets as_is (Err e) (state_in a m) (take_steps k p (state_in a n)) → result ≡ Err e → Gives (extend_row p r v (state_in a n)) result a a m
extend_stopped p r v a n m k ws e result may there cost stop is =
    subst (λ x. Gives (extend_row p r v (state_in a n)) x a a m) (sym is)
    (record {
      meaning =
          meets_same (value_of a) (Err e) (state_in a m) _ _ (extended p r v a n k ws may there cost)
          (meets_stop as_is (value_of a) e (state_in a m) (take_steps k p (state_in a n)) (λ u. extending p r ws) (Err e) stop refl);
      owns = tt;
      grows = grows_same a;
    })

-- they were taken, and the list was extended
pub extend_done : (p : Place) (list : Ref) (v : plain.Value) (a b : View) (n m k : ℕ) (ws : List plain.Value) → may_change list.at a.store ≡ did tt a.store → members_in a.store v ≡ Some ws → k ≡ length (list_at list.at a.store) + length ws →
    take_steps k p (state_in a n) ≡ done tt (state_in a m) → list_extend list.at ws a.store ≡ did tt b.store → Grows a b → Owns a (value.List list) → Gives (extend_row p list.at v (state_in a n)) (Ok (value.List list)) a b m
extend_done p list v a b n m k ws may there cost taken act grows owned = record {
  meaning =
      extended p list.at v a n k ws may there cost
      ∙ ap (λ o. then_do o (λ u. extending p list.at ws)) taken
      ∙ ap (λ x. then_do (after_act p x (state_in a m)) (λ u. give (plain.list_value list.at))) act;
  owns = owns_kept a b (value.List list) grows owned;
  grows = grows;
}

-- what is paid is the members of both
pub both_counted : (a : View) (v : Value) (now ws ms : List plain.Value) (vs : List Value) (count : ℕ) → members_in a.store (value_of a v) ≡ Some ws → length ws ≡ count_in a.store (value_of a v) → members_in a.store (value_of a v) ≡ Some ms → now ≡ values_of a vs → count ≡ count_in a.store (value_of a v) →
    length vs + count ≡ length now + length ms
both_counted a v now ws ms vs count there many given seen e =
    let same : ws ≡ ms = some_same ws ms (sym there ∙ given) in
    (λ i. sym (length-map vs (value_of a)) i + e i) ∙ (λ i. length (sym seen i) + sym many i) ∙ ap (λ l. length now + length l) same
