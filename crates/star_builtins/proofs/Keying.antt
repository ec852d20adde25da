-- Rows of a dict whose key's size was taken.
use Rattle.std.proofs.Common.{◌≡◌, ℕ, Bool, List, ◌∷◌, Option, Result, Ok, Err, refl, sym, ap, subst, ◌∙◌}
use Rattle.ytt_base.specs.declared.fault.Place.{Place}
use Rattle.ytt_base.specs.declared.fault.Stop.{Stop}
use Rattle.ytt_base.specs.declared.fault.Stop.TheVariants as stop
use Rattle.ytt_base.specs.declared.text.Memory.{Memory}
use Rattle.builtin_spec.specs.Dicts.{first_taken, pair_value, pop_key_row, popitem_row, taken_or, value_in}
use Rattle.object_arena.specs.Made.{Makes}
use Rattle.operator_spec.specs.Order.{key_sized}
use Rattle.star_steps.specs.Meets.{Gives, state_in}
use Rattle.star_steps.proofs.Meeting.{meets_same, meets_stop}
use Rattle.star_values.proofs.Growing.{grows_then}
use Rattle.star_values.specs.Owns.{Grows}
use Rattle.star_values.specs.View.{View, value_of}
use Rattle.star_values.specs.declared.value.Value.{Value}
use Rattle.value_spec.specs.Outcomes.{Ending, acting, after_act, done, give, then_do, ◌>>=◌}
use Rattle.value_spec.specs.Store.{dict_remove, did, may_change, pairs_at, value_of_key}
use Rattle.value_spec.specs.Values as plain

-- memory is wanting for what is given at last
pub unmade : (x : plain.Value) (o : Ending (Unit {0}) plain.Value) (e : Memory) (result : Result Value Stop) (a b c : View) (n : ℕ) → Grows a b → Makes x (Err e) b c → result ≡ Err stop.Memory → Gives o result a c n
unmade x o e result a b c n grows made is = subst (λ r. Gives o r a c n) (sym is) (record { meaning = tt; owns = tt; grows = grows_then a b c grows made.grows })

-- the dict can be changed, and the key's size was taken
pub key_found : (p : Place) (r : ℕ) (k d : plain.Value) (given : Bool) (a : View) (n m : ℕ) (found : Option plain.Value) → may_change r a.store ≡ did tt a.store → key_sized p k (state_in a n) ≡ done tt (state_in a m) → found ≡ value_of_key k (pairs_at r a.store) →
    pop_key_row p r k given d (state_in a n) ≡ taken_or p r k given d found (state_in a m)
key_found p r k d given a n m found may sized is =
    ap (λ x. then_do (after_act p x (state_in a n)) (λ u. key_sized p k >>= λ u. value_in r k >>= taken_or p r k given d)) may
    ∙ ap (λ o. then_do o (λ u. value_in r k >>= taken_or p r k given d)) sized
    ∙ ap (λ o. taken_or p r k given d o (state_in a m)) (sym is)

-- the same of the key of the first pair
module _ (p : Place) (r : ℕ) (a b : View) (n m : ℕ) (q : plain.Value × plain.Value) (qs : List (plain.Value × plain.Value)) (may : may_change r a.store ≡ did tt a.store) (pairs : pairs_at r a.store ≡ q ∷ qs) (sized : key_sized p q.0 (state_in a n) ≡ done tt (state_in a m)) where
  goes_on : popitem_row p r (state_in a n) ≡ then_do (acting p (dict_remove r q.0) (state_in a m)) (λ v. give (pair_value q))
  goes_on =
      ap (λ x. then_do (after_act p x (state_in a n)) (λ u s. first_taken p r (pairs_at r s.store) s)) may
      ∙ ap (λ ps. first_taken p r ps (state_in a n)) pairs
      ∙ ap (λ o. then_do o (λ u. acting p (dict_remove r q.0) >>= λ v. give (pair_value q))) sized

  -- it isn't taken
  pub untaken : (e : Stop) (result : Result Value Stop) → Gives (acting p (dict_remove r q.0) (state_in a m)) (Err e) a b m → result ≡ Err e → Gives (popitem_row p r (state_in a n)) result a b m
  untaken e result g is = subst (λ x. Gives (popitem_row p r (state_in a n)) x a b m) (sym is) (record {
    meaning = meets_same (value_of b) (Err e) (state_in b m) _ _ goes_on (meets_stop (value_of b) (value_of b) e (state_in b m) (acting p (dict_remove r q.0) (state_in a m)) (λ v. give (pair_value q)) (Err e) g.meaning refl);
    owns = tt;
    grows = g.grows;
  })

  -- it is, and the tuple is made
  pub pair_taken : (c : View) (v w : Value) → Gives (acting p (dict_remove r q.0) (state_in a m)) (Ok v) a b m → Makes (pair_value q) (Ok w) b c → Gives (popitem_row p r (state_in a n)) (Ok w) a c m
  pair_taken c v w taken made = record {
    meaning = goes_on ∙ ap (λ o. then_do o (λ v. give (pair_value q))) taken.meaning ∙ (λ i. done (sym made.value i) (record { store = sym made.store i; steps = m; host = tt }));
    owns = made.owns;
    grows = grows_then a b c taken.grows made.grows;
  }
