-- Natives by their names, and calls of them from the values of their parameters.
use Rattle.std.proofs.Common.{◌≡◌, ℕ, Bool, true, false, if◌then◌else◌, bytes_eq, codes, List, [], ◌∷◌, ◌++◌, MatchOption, Option, None, Some, option_map, Result, Err, IfOk, rules, refl, sym, ap, subst, ◌∙◌}
use Rattle.ytt_base.specs.Trees.{max_depth}
use Rattle.ytt_base.specs.declared.fault.Place.{Place}
use Rattle.ytt_base.specs.declared.fault.Stop.{Stop}
use Rattle.ytt_base.specs.declared.fault.Stop.TheVariants as stop
use Rattle.builtin_spec.specs.Binding.{taking}
use Rattle.code_spec.specs.Code.{Name}
use Rattle.module_spec.specs.Answering.{row_in}
use Rattle.module_spec.specs.Rows.{Row}
use Rattle.star_steps.proofs.Meeting.{meets_stop}
use Rattle.star_steps.specs.Meets.{Gives, Meets, state_in}
use Rattle.star_steps.specs.Replies.{GivesReply, OwnsReply, reply_of}
use Rattle.star_steps.specs.declared.steps.Depth.{Depth}
use Rattle.star_values.proofs.Growing.{grows_same, grows_then}
use Rattle.star_values.specs.Owns.{Grows}
use Rattle.star_values.specs.View.{View, value_of}
use Rattle.star_values.specs.declared.value.Reply as held_reply
use Rattle.star_values.specs.declared.value.Value.{Value as Held}
use Rattle.text_spec.specs.Signatures.{value_at}
use Rattle.value_spec.specs.Binding.{bound_values, none_for_each, parameters_named}
use Rattle.value_spec.specs.Outcomes.{Computation, Ending, Reply, State, done, then_do}
use Rattle.value_spec.specs.Values.{Arguments, Value}
use Rattle.mod_basic.specs.View.{bound_of, gives_of, replied, row_of, value_row}
use Rattle.mod_basic.specs.Walks.{Here, converted}
use Rattle.mod_basic.specs.declared.table.Basic.{Basic}
use Rattle.mod_basic.specs.declared.table.Basic.TheVariants as basic
use Rattle.mod_basic.specs.declared.walks.Way.{Way}
use Rattle.mod_basic.specs.declared.walks.Way.TheVariants as way

-- ---- names

abbrev Rows : Type 0
Rows = List (Name × Row Here)

behind_rows : (x : Name) (rs ms : Rows) → row_in x rs ≡ None → row_in x (rs ++ ms) ≡ row_in x ms
behind_rows x [] ms e = refl
behind_rows x (r ∷ rs) ms e = by (bytes_eq x r.0) e (λ k. behind_rows x rs ms k) where
  by : (b : Bool) → (if b then Some r.1 else row_in x rs) ≡ None → (row_in x rs ≡ None → row_in x (rs ++ ms) ≡ row_in x ms) → (if b then Some r.1 else row_in x (rs ++ ms)) ≡ row_in x ms
  by true e more = absurd (search (rules, e))
  by false e more = more e

among_rows : (x : Name) (rs ms : Rows) (row : Row Here) → row_in x rs ≡ Some row → row_in x (rs ++ ms) ≡ Some row
among_rows x [] ms row e = absurd (search (rules, e))
among_rows x (r ∷ rs) ms row e = by (bytes_eq x r.0) e (λ k. among_rows x rs ms row k) where
  by : (b : Bool) → (if b then Some r.1 else row_in x rs) ≡ Some row → (row_in x rs ≡ Some row → row_in x (rs ++ ms) ≡ Some row) → (if b then Some r.1 else row_in x (rs ++ ms)) ≡ Some row
  by true e more = e
  by false e more = more e

-- the rows of the code's natives
abbrev pub basic_rows : Rows
basic_rows =
    (codes "struct.make", row_of basic.Make) ∷ (codes "struct.encode", row_of basic.Encode) ∷ (codes "struct.decode", row_of basic.Decode)
    ∷ (codes "assert.fail", row_of basic.Fail) ∷ (codes "assert.equals", row_of basic.Equals) ∷ (codes "assert.try_to", row_of basic.TryTo)
    ∷ (codes "assert.min", row_of basic.Min) ∷ (codes "assert.max", row_of basic.Max) ∷ (codes "assert.min_len", row_of basic.MinLen) ∷ (codes "assert.max_len", row_of basic.MaxLen)
    ∷ (codes "assert.not_null", row_of basic.NotNull) ∷ (codes "assert.check", row_of basic.Check)
    ∷ (codes "template.replace", row_of basic.Replace)
    ∷ []

-- one of the first rows, or one of those behind them
pub named_row : (x : Name) (rs ms : Rows) (b : Option Basic) → option_map row_of b ≡ row_in x rs → MatchOption b (row_in x (rs ++ ms) ≡ row_in x ms) (λ b. row_in x (rs ++ ms) ≡ Some (row_of b))
named_row x rs ms None e = behind_rows x rs ms (sym e)
named_row x rs ms (Some b) e = among_rows x rs ms (row_of b) (sym e)

-- ---- replies

-- a row is a value, and what comes of it
pub row_parts : (b : Basic) (held : List Value) (p : Place) (args : Arguments) (s : State Here) → row_of b p held args s ≡ then_do (value_row b held p args s) (replied b p)
row_parts basic.Make held p args s = refl
row_parts basic.Encode held p args s = refl
row_parts basic.Decode held p args s = refl
row_parts basic.Fail held p args s = refl
row_parts basic.Equals held p args s = refl
row_parts basic.TryTo held p args s = refl
row_parts basic.Min held p args s = refl
row_parts basic.Max held p args s = refl
row_parts basic.MinLen held p args s = refl
row_parts basic.MaxLen held p args s = refl
row_parts basic.NotNull held p args s = refl
row_parts basic.Check held p args s = refl
row_parts basic.Replace held p args s = refl

module _ (p : Ending Here Reply) (o : Ending Here Value) (f : Value → Computation Here Reply) (same : p ≡ then_do o f) where
  -- the value is refused
  pub reply_err : (view : View → Held → Value) (e : Stop) (r : Result held_reply.Reply Stop) (a b : View) (k : ℕ) → Meets (view b) (Err e) (state_in b k) o → r ≡ Err e → Grows a b → GivesReply p r a b k
  reply_err view e r a b k m is g = subst (λ p. GivesReply p r a b k) (sym same) (record {
    meaning = meets_stop (view b) (reply_of b) e (state_in b k) o f r m is;
    owns = subst (λ r. IfOk r (OwnsReply b)) (sym is) tt;
    grows = g;
  })

  -- it is there, and this comes of it
  pub reply_after : (v : Held) (r : Result held_reply.Reply Stop) (a b c : View) (m k : ℕ) → o ≡ done (value_of b v) (state_in b m) → Grows a b → GivesReply (f (value_of b v) (state_in b m)) r b c k → GivesReply p r a c k
  reply_after v r a b c m k is g h =
      subst (λ p. GivesReply p r a c k) (sym (same ∙ ap (λ o. then_do o f) is)) (record { meaning = h.meaning; owns = h.owns; grows = grows_then a b c g h.grows })

-- ---- bound arguments

module _ (p : Place) (f : Place → List Value → Computation Here Value) (args : Arguments) (a : View) (n : ℕ) (xs us : List Name) (needed : us ≡ xs) where
  abbrev given : Ending Here (List Value)
  given = bound_values p (parameters_named us []) (none_for_each []) args (state_in a n)

  begins : taking xs [] f p args (state_in a n) ≡ then_do given (f p)
  begins = λ i. then_do (bound_values p (parameters_named (sym needed i) []) (none_for_each []) args (state_in a n)) (f p)

  -- the arguments can't be bound
  pub unbound : (view : List Held → List Value) (x : Stop) → Meets view (Err x) (state_in a n) given → Gives (taking xs [] f p args (state_in a n)) (Err x) a a n
  unbound view (stop.Fault d) e = record { meaning = begins ∙ ap (λ o. then_do o (f p)) e; owns = tt; grows = grows_same a }
  unbound view stop.Memory e = record { meaning = tt; owns = tt; grows = grows_same a }

  -- it goes on with their values
  pub goes_on : (ws : List Value) (b : View) (k : ℕ) (result : Result Held Stop) → given ≡ done ws (state_in a n) → Gives (f p ws (state_in a n)) result a b k → Gives (taking xs [] f p args (state_in a n)) result a b k
  goes_on ws b k result is g = subst (λ o. Gives o result a b k) (sym (begins ∙ ap (λ o. then_do o (f p)) is)) g

-- all but `make` bind their arguments to parameters
bound_row : (b : Basic) (held : List Value) (p : Place) (args : Arguments) (s : State Here) → (b ≡ basic.Make → ⊥) → value_row b held p args s ≡ bound_of b held p args s
bound_row basic.Make held p args s h = absurd (h refl)
bound_row basic.Encode held p args s h = refl
bound_row basic.Decode held p args s h = refl
bound_row basic.Fail held p args s h = refl
bound_row basic.Equals held p args s h = refl
bound_row basic.TryTo held p args s h = refl
bound_row basic.Min held p args s h = refl
bound_row basic.Max held p args s h = refl
bound_row basic.MinLen held p args s h = refl
bound_row basic.MaxLen held p args s h = refl
bound_row basic.NotNull held p args s h = refl
bound_row basic.Check held p args s h = refl
bound_row basic.Replace held p args s h = refl

pub gives_bound : (b : Basic) (held : List Value) (p : Place) (args : Arguments) (r : Result Held Stop) (a c : View) (n k : ℕ) → (b ≡ basic.Make → ⊥)
    → Gives (bound_of b held p args (state_in a n)) r a c k → Gives (value_row b held p args (state_in a n)) r a c k
gives_bound b held p args r a c n k h g = subst (λ o. Gives o r a c k) (sym (bound_row b held p args (state_in a n) h)) g

-- ---- walks

abbrev walk_of : Way → Basic
walk_of way.Encode = basic.Encode
walk_of way.Decode = basic.Decode

walk_form : (w : Way) (held : List Value) (p : Place) (vs : List Value) (s : State Here) → converted w max_depth p (value_at 0 vs) s ≡ gives_of (walk_of w) held p vs s
unfolding converted
walk_form way.Encode held p vs s = refl
walk_form way.Decode held p vs s = refl

pub gives_walk : (w : Way) (b : Basic) (held : List Value) (p : Place) (at : Depth) (vs : List Value) (v : Held) (r : Result Held Stop) (a c : View) (n k : ℕ) → b ≡ walk_of w
    → at ≡ record { place = p; levels = max_depth } → value_of a v ≡ value_at 0 vs → Gives (converted w at.levels at.place (value_of a v) (state_in a n)) r a c k → Gives (gives_of b held p vs (state_in a n)) r a c k
gives_walk w b held p at vs v r a c n k is here first g =
    subst (λ o. Gives o r a c k)
    ((λ i. converted w (here i).levels (here i).place (first i) (state_in a n)) ∙ walk_form w held p vs (state_in a n) ∙ ap (λ b. gives_of b held p vs (state_in a n)) (sym is)) g
