-- Tuples and lists so many times, as their members are paid for and copied.
use Rattle.star_steps.proofs.Names.{◌≡◌, ◌+◌, ◌*◌, ◌∙◌, ℕ, ℤ, List, Stop, Place, Result, Ok, Err, Value, View, Gives, Makes, MakesObject, Meets, as_is, state_in, State, done, give, new_list, then_do, take_steps, length, list_at, ap, sym, at_least_zero, repeated, gives_stop}
use Rattle.value_spec.specs.Values as plain
use Rattle.operator_spec.specs.Operators.{repeat_list, repeat_tuple, tuple_of}
use Rattle.star_index.proofs.Ends.{gives_made, gives_object}

-- the copies of a tuple's members, of which the code counted so many
tuple_copies : (p : Place) (vs ws : List plain.Value) (z y : ℤ) (k : ℕ) (s : State (Unit {0})) → vs ≡ ws → y ≡ z → k ≡ length ws →
    repeat_tuple p vs z s ≡ then_do (take_steps (k * (1 + at_least_zero y)) p s) (λ u. give (tuple_of (repeated (at_least_zero z) ws)))
tuple_copies p vs ws z y k s same as_int counted = ap (λ vs. repeat_tuple p vs z s) same ∙ (λ i. then_do (take_steps (sym counted i * (1 + at_least_zero (sym as_int i))) p s) (λ u. give (tuple_of (repeated (at_least_zero z) ws))))

list_copies : (p : Place) (r : ℕ) (ws : List plain.Value) (z y : ℤ) (k : ℕ) (s : State (Unit {0})) → list_at r s.store ≡ ws → y ≡ z → k ≡ length ws →
    repeat_list p r z s ≡ then_do (take_steps (k * (1 + at_least_zero y)) p s) (λ u. new_list (repeated (at_least_zero z) ws))
list_copies p r ws z y k s same as_int counted =
    ap (λ vs. then_do (take_steps (length vs * (1 + at_least_zero z)) p s) (λ u. new_list (repeated (at_least_zero z) vs))) same
    ∙ (λ i. then_do (take_steps (sym counted i * (1 + at_least_zero (sym as_int i))) p s) (λ u. new_list (repeated (at_least_zero z) ws)))

-- the steps were refused
pub tuple_stopped : (p : Place) (vs ws : List plain.Value) (z y : ℤ) (k : ℕ) (a : View) (n m : ℕ) (e : Stop) (r : Result Value Stop) → vs ≡ ws → y ≡ z → k ≡ length ws →
    Meets as_is (Err e) (state_in a m) (take_steps (k * (1 + at_least_zero y)) p (state_in a n)) → r ≡ Err e → Gives (repeat_tuple p vs z (state_in a n)) r a a m
tuple_stopped p vs ws z y k a n m e r same as_int counted h is =
    gives_stop as_is e a m _ (λ u. give (tuple_of (repeated (at_least_zero z) ws))) r _ (tuple_copies p vs ws z y k (state_in a n) same as_int counted) h is

pub list_stopped : (p : Place) (at : ℕ) (ws : List plain.Value) (z y : ℤ) (k : ℕ) (a : View) (n m : ℕ) (e : Stop) (r : Result Value Stop) → list_at at a.store ≡ ws → y ≡ z → k ≡ length ws →
    Meets as_is (Err e) (state_in a m) (take_steps (k * (1 + at_least_zero y)) p (state_in a n)) → r ≡ Err e → Gives (repeat_list p at z (state_in a n)) r a a m
list_stopped p at ws z y k a n m e r same as_int counted h is =
    gives_stop as_is e a m _ (λ u. new_list (repeated (at_least_zero z) ws)) r _ (list_copies p at ws z y k (state_in a n) same as_int counted) h is

-- the members that were copied
copied : (ws all : List plain.Value) (z y : ℤ) (c : ℕ) → y ≡ z → c ≡ at_least_zero y → all ≡ repeated c ws → all ≡ repeated (at_least_zero z) ws
copied ws all z y c as_int times is = is ∙ ap (λ c. repeated c ws) (times ∙ ap at_least_zero as_int)

-- they were paid for, and copied
pub tuple_repeated : (p : Place) (vs ws all : List plain.Value) (z y : ℤ) (k c : ℕ) (a b : View) (n m : ℕ) (v : Value) → vs ≡ ws → y ≡ z → k ≡ length ws → take_steps (k * (1 + at_least_zero y)) p (state_in a n) ≡ done tt (state_in a m) →
    c ≡ at_least_zero y → all ≡ repeated c ws → Makes (tuple_of all) (Ok v) a b → Gives (repeat_tuple p vs z (state_in a n)) (Ok v) a b m
tuple_repeated p vs ws all z y k c a b n m v same as_int counted paid times is made =
    gives_made _ v a b m _
    (tuple_copies p vs ws z y k (state_in a n) same as_int counted
    ∙ ap (λ o. then_do o (λ u. give (tuple_of (repeated (at_least_zero z) ws)))) paid
    ∙ ap (λ ms. done (tuple_of ms) (state_in a m)) (sym (copied ws all z y c as_int times is)))
    made

pub list_repeated : (p : Place) (at : ℕ) (ws all : List plain.Value) (z y : ℤ) (k c : ℕ) (a b : View) (n m : ℕ) (v : Value) → list_at at a.store ≡ ws → y ≡ z → k ≡ length ws → take_steps (k * (1 + at_least_zero y)) p (state_in a n) ≡ done tt (state_in a m) →
    c ≡ at_least_zero y → all ≡ repeated c ws → MakesObject (plain.list_value (length a.store)) (plain.of_list all) (Ok v) a b → Gives (repeat_list p at z (state_in a n)) (Ok v) a b m
list_repeated p at ws all z y k c a b n m v same as_int counted paid times is made =
    gives_object _ _ v a b m _
    (list_copies p at ws z y k (state_in a n) same as_int counted
    ∙ ap (λ o. then_do o (λ u. new_list (repeated (at_least_zero z) ws))) paid
    ∙ ap (λ ms. new_list ms (state_in a m)) (sym (copied ws all z y c as_int times is)))
    made
