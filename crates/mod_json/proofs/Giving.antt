-- Texts that are given, and fresh values after the cost of a text and of what it stands for.
use Rattle.std.proofs.Common.{◌≡◌, ◌+◌, ◌/◌, ℕ, suc, List, [], ◌∷◌, length, Result, Ok, Err, if◌then◌else◌, nat_le, Bool, true, false, refl, sym, ap, subst, ◌∙◌, arith}
use Rattle.std.specs.Str.{is_utf8}
use Rattle.ytt_base.specs.declared.fault.FaultKind.TheVariants as kind
use Rattle.ytt_base.specs.declared.fault.Place.{Place}
use Rattle.ytt_base.specs.declared.fault.Stop.{Stop}
use Rattle.ytt_base.specs.declared.fault.Stop.TheVariants as stop
use Rattle.ytt_base.proofs.Views.{tree_of-List, tree_of-Map}
use Rattle.ytt_base.specs.Trees.{Tree, depth, max_depth}
use Rattle.ytt_base.specs.View.{pairs_of, tree_of, trees_of}
use Rattle.ytt_base.specs.declared.tree.Key.{Key}
use Rattle.ytt_base.specs.declared.tree.Tree as code
use Rattle.ytt_base.specs.declared.tree.Tree.{Tree as Built}
use Rattle.index_spec.specs.FreshValues.{fresh_value}
use Rattle.module_spec.specs.JsonCodec.{decode, encode, tree_read}
use Rattle.ytt_base.specs.Outcomes.{fault_at}
use Rattle.module_spec.specs.Rows.{give_text}
use Rattle.module_spec.specs.YamlCodec.{count_pairs, count_trees, given_tree, tree_bytes, tree_members}
use Rattle.object_arena.specs.Made.{Makes}
use Rattle.serde_json.specs.Data.{Data}
use Rattle.serde_json.specs.Written.{compact_text}
use Rattle.star_fragments.specs.Fresh.{Builds}
use Rattle.star_steps.proofs.Meeting.{gives_same, gives_stop}
use Rattle.star_steps.specs.Meets.{Gives, Meets, as_is, state_in}
use Rattle.star_values.proofs.Growing.{grows_same}
use Rattle.star_values.specs.Owns.{Owns}
use Rattle.star_values.specs.View.{View, value_of}
use Rattle.star_values.specs.declared.value.Value.{Value}
use Rattle.text_spec.specs.Answers.{operation_cost, paid_operation}
use Rattle.value_spec.specs.Outcomes.{Computation, Ending, State, bad, done, fail, give, need, or_fail, take_steps, then_do, ◌>>=◌}
use Rattle.value_spec.specs.Values as plain
use Rattle.value_spec.specs.Values.{Store, text_value}
use Rattle.mod_json.specs.Walk.{value_data}
use Rattle.mod_json.proofs.InTurn.{done_then}

cost_is : (t : List ℕ) (b m : ℕ) (store : Store) → operation_cost (text_value t ∷ []) b m store ≡ (length t + b) / 16 + m
cost_is t b m store =
    let bytes : length t + 0 + b ≡ length t + b = omega arith in
    let members : 0 + 0 + m ≡ m = omega arith in
    λ i. bytes i / 16 + members i

-- the cost of a text and of what it stands for is taken at once
pub paid_for_text : {A : Type 0} (p : Place) (t : List ℕ) (b m : ℕ) (k : Computation (Unit {0}) A) (s : State (Unit {0})) → paid_operation p (text_value t ∷ []) b m k s ≡ then_do (take_steps ((length t + b) / 16 + m) p s) (λ u. k)
paid_for_text p t b m k s = ap (λ n. then_do (take_steps n p s) (λ u. k)) (cost_is t b m s.store)

module _ (p : Place) (t : List ℕ) (x : Tree) (a : View) (n k : ℕ) where
  abbrev cost : ℕ
  cost = (length t + tree_bytes x) / 16 + tree_members x

  pub given_stop : (y : Stop) (r : Result Value Stop) → Meets {A = Unit {0}} as_is (Err y) (state_in a k) (take_steps cost p (state_in a n)) → r ≡ Err y → Gives (given_tree p t x (state_in a n)) r a a k
  given_stop y r m e = gives_stop {A = Unit {0}} as_is y a k (take_steps cost p (state_in a n)) (λ u. fresh_value x) r _ (paid_for_text p t (tree_bytes x) (tree_members x) (fresh_value x) (state_in a n)) m e

  pub given_done : (v : Value) (b : View) → take_steps cost p (state_in a n) ≡ done tt (state_in a k) → Builds value_of Owns (fresh_value x) (Ok v) a b → Gives (given_tree p t x (state_in a n)) (Ok v) a b k
  given_done v b e h = record {
    meaning = paid_for_text p t (tree_bytes x) (tree_members x) (fresh_value x) (state_in a n) ∙ done_then _ tt (state_in a k) (λ u. fresh_value x) _ e (h.meaning k);
    owns = h.owns;
    grows = h.grows;
  }

-- ---- texts

-- a value that was made
pub made : (o : Ending (Unit {0}) plain.Value) (x : plain.Value) (v : Value) (a b : View) (k : ℕ) → o ≡ done x (state_in a k) → Makes x (Ok v) a b → Gives o (Ok v) a b k
made o x v a b k e h = record {
  meaning = e ∙ (λ i. done (sym h.value i) (record { store = sym h.store i; steps = k; host = tt }));
  owns = h.owns;
  grows = h.grows;
}

-- a text that is UTF-8
pub text_known : (p : Place) (t : List ℕ) (s : State (Unit {0})) → is_utf8 t ≡ true → give_text p t s ≡ done (text_value t) s
text_known p t s e = ap (λ (b : Bool). (if b then give (text_value t) else fail kind.CodecForm p) s) e

pub encoded : (p : Place) (v : plain.Value) (d : Data) (t : List ℕ) (s u : State (Unit {0})) → value_data 100 p v s ≡ done d u → is_utf8 t ≡ true → t ≡ compact_text d → encode p v s ≡ done (text_value t) u
encoded p v d t s u e utf8 is = done_then _ d u (λ d. give_text p (compact_text d)) _ e (ap (λ t. give_text p t u) (sym is) ∙ text_known p t u utf8)

pub unencoded : {K : Type 0} (of : K → Data) (p : Place) (v : plain.Value) (x : Stop) (a : View) (n k : ℕ) (r : Result Value Stop) → Meets of (Err x) (state_in a k) (value_data 100 p v (state_in a n)) → r ≡ Err x → Gives (encode p v (state_in a n)) r a a k
unencoded of p v x a n k r m e = gives_stop of x a k (value_data 100 p v (state_in a n)) (λ d. give_text p (compact_text d)) r _ refl m e

-- ---- what a text is read as

module _ (p : Place) (t : List ℕ) (a : View) (n : ℕ) where
  pub unread : {K : Type 0} (of : K → Tree) (x : Stop) (r : Result Value Stop) → Meets of (Err x) (state_in a n) (or_fail kind.CodecForm p (tree_read t) (state_in a n)) → r ≡ Err x → Gives (decode p t (state_in a n)) r a a n
  unread of x r m e = gives_stop of x a n (or_fail kind.CodecForm p (tree_read t) (state_in a n)) (λ x. need kind.TooDeep p (nat_le (depth x) max_depth) >>= λ u. given_tree p t x) r _ refl m e

  module _ (x : Tree) (is : or_fail kind.CodecForm p (tree_read t) (state_in a n) ≡ done x (state_in a n)) where
    by_depth : decode p t (state_in a n) ≡ then_do (need kind.TooDeep p (nat_le (depth x) max_depth) (state_in a n)) (λ u. given_tree p t x)
    by_depth = done_then _ x (state_in a n) (λ x. need kind.TooDeep p (nat_le (depth x) max_depth) >>= λ u. given_tree p t x) _ is refl

    pub read_within : (r : Result Value Stop) (b : View) (k : ℕ) → nat_le (depth x) 100 ≡ true → Gives (given_tree p t x (state_in a n)) r a b k → Gives (decode p t (state_in a n)) r a b k
    read_within r b k e g = gives_same _ _ r a b k (by_depth ∙ ap (λ (w : Bool). then_do (need kind.TooDeep p w (state_in a n)) (λ u. given_tree p t x)) e) g

    pub read_beyond : (y : Stop) (r : Result Value Stop) → nat_le (depth x) 100 ≡ false → y ≡ stop.Fault (fault_at kind.TooDeep p) → r ≡ Err y → Gives (decode p t (state_in a n)) r a a n
    read_beyond y r e is_fault is_err = gives_same _ _ r a a n
        (by_depth ∙ ap (λ (w : Bool). then_do (need kind.TooDeep p w (state_in a n)) (λ u. given_tree p t x)) e)
        (subst (λ r. Gives (bad (fault_at kind.TooDeep p) (state_in a n)) r a a n) (sym (is_err ∙ ap Err is_fault)) (record { meaning = refl; owns = tt; grows = grows_same a }))

-- ---- members

trees_counted : (ts : List Built) → count_trees (trees_of ts) ≡ length ts
trees_counted [] = refl
trees_counted (t ∷ ts) = ap suc (trees_counted ts)

pairs_counted : (ps : List (Key × Built)) → count_pairs (pairs_of ps) ≡ length ps
pairs_counted [] = refl
pairs_counted (p ∷ ps) = ap suc (pairs_counted ps)

pub members_of_list : (t : Built) (ts : List Built) → t ≡ code.List ts → tree_members (tree_of t) ≡ length ts
members_of_list t ts e = ap (λ t. tree_members (tree_of t)) e ∙ ap tree_members (tree_of-List ts) ∙ trees_counted ts

pub members_of_map : (t : Built) (ps : List (Key × Built)) → t ≡ code.Map ps → tree_members (tree_of t) ≡ length ps
members_of_map t ps e = ap (λ t. tree_members (tree_of t)) e ∙ ap tree_members (tree_of-Map ps) ∙ pairs_counted ps
