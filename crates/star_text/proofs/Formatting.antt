-- Fields and braces of `format`.
use Rattle.std.proofs.Common.{◌≡◌, ◌∙◌, ◌++◌, ◌+◌, ◌<◌, ◌==◌, ◌||◌, ℕ, Bool, true, not, take, drop, get_or, append-nil, List, None, Some, [], ◌∷◌, zero, suc, slice_get, ap, length, subst, false, if◌then◌else◌, refl, sym, arith, rules, Result, Err}
use Rattle.std.specs.Prelude.{bytes_eq}
use Rattle.ytt_base.specs.Outcomes.{fault_at}
use Rattle.ytt_base.specs.declared.fault.FaultKind.TheVariants as kind
use Rattle.ytt_base.specs.declared.fault.Stop.{Stop}
use Rattle.ytt_base.specs.declared.fault.Stop.TheVariants as stop
use Rattle.star_steps.specs.Meets.{Meets}
use Rattle.ytt_base.specs.declared.fault.Place.{Place}
use Rattle.star_values.specs.Owns.{OwnsAll, OwnsFields, OwnsOption}
use Rattle.star_values.specs.View.{View, arguments_in, fields_in, value_of, values_of}
use Rattle.star_values.specs.declared.value.Value.{Value}
use Rattle.value_spec.specs.Outcomes.{Computation, Ending, State, asks, bad, done, fail, give, need, then_do, ◌>>=◌}
use Rattle.std.specs.List.{after_first, before_first, position_or_len}
use Rattle.std.proofs.Math.Seq.{split_at}
use Rattle.std.proofs.lemmas.Bool.{eqb-true}
use Rattle.memchr.specs.Find.{Nowhere, Passes, is_byte2}
use Rattle.text_spec.proofs.Filling.{AllPass, cut_none, cut_some, is_it, is_no_brace, onto_before, run_formatted}
use Rattle.star_text.proofs.Converting.{split_at_first}
use Rattle.text_spec.specs.Fields.{Field, Met, Which, at_place, begins, cut_at, field_filled, format, formatted, none_met, opened, values_of_fields, by_number, by_turn, field_by, field_in, next_one, numbered}
use Rattle.text_spec.specs.Percent.{converted, text_before}
use Rattle.value_spec.specs.Values as plain
use Rattle.value_spec.specs.Values.{Fields, Values, text_value, values_from, values_in}
use Rattle.star_values.specs.declared.value.CallArgs.{CallArgs}
use Rattle.star_values.specs.declared.value.NamedValue.{NamedValue}
use Rattle.value_spec.specs.Binding.{field_of, has_twice}
use Rattle.text_spec.specs.Answers.{paid_operation}
use Rattle.star_text.proofs.Paying.{after_cost}
use Rattle.ytt_base.specs.declared.fault.Fault.{Fault}
use Rattle.star_shown.specs.Pushes.{behind}
use Rattle.star_text.specs.Filling.{GoesOn, conversion_in}
use Rattle.star_text.specs.Formatting.{HasNoBrace, IsCut, IsShownAs, IsWhich, argument_here, behind_made, brace, filled_here, formatted_here, met_in, unless_twice, value_and_met}
use Rattle.star_text.specs.declared.percent.Conversion.{Conversion}
use Rattle.star_text.specs.declared.fields.Which.{Which as Asked}
use Rattle.star_text.specs.declared.fields.Which.TheVariants as which
use Rattle.star_text.specs.declared.format.Met.{Met as Held}
use Rattle.star_text.specs.declared.format.Met.TheVariants as met

-- ---- a field

pub without_shown : (t : List ℕ) → position_or_len (is_it 33) t ≡ length t → field_in t ≡ field_by t None
without_shown t e = ap (field_by t) (cut_none 33 t e)

pub with_shown : (t name shown : List ℕ) → position_or_len (is_it 33) t < length t → name ≡ before_first (is_it 33) t → shown ≡ after_first (is_it 33) t → field_in t ≡ field_by t (Some (name, shown))
with_shown t name shown l front rest = ap (field_by t) (cut_some 33 t l ∙ (λ i. Some (sym front i, sym rest i)))

-- ---- the argument at a place

pub none_there : (a : View) (p : Place) (m : Met) (xs : List Value) (k : ℕ) (s : State (Unit {0})) → None ≡ slice_get xs k → at_place p k m (values_of a xs) s ≡ bad (fault_at kind.IndexRange p) s
none_there a p m [] k s e = refl
none_there a p m (x ∷ xs) zero s e = absurd (search (rules, e))
none_there a p m (x ∷ xs) (suc k) s e = none_there a p m xs k s e

pub one_there : (a : View) (p : Place) (m : Met) (v : Value) (xs : List Value) (k : ℕ) (s : State (Unit {0})) → Some v ≡ slice_get xs k → at_place p k m (values_of a xs) s ≡ done (value_of a v, m) s
one_there a p m v [] k s e = absurd (search (rules, e))
one_there a p m v (x ∷ xs) zero s e = let same : v ≡ x = cc in ap (λ w. done (value_of a w, m) s) (sym same)
one_there a p m v (x ∷ xs) (suc k) s e = one_there a p m v xs k s e

pub owned_there : (a : View) (xs : List Value) (k : ℕ) → OwnsAll a xs → OwnsOption a (slice_get xs k)
owned_there a [] k h = tt
owned_there a (x ∷ xs) zero h = h.0
owned_there a (x ∷ xs) (suc k) h = owned_there a xs k h.1

-- ---- the argument of a field

abbrev Here : Type 0
Here = State (Unit {0})

next : (n : ℕ) → suc n ≡ n + 1
next n = omega arith

values-in-from : (vs : List plain.Value) → values_in (values_from vs) ≡ vs
values-in-from [] = refl
values-in-from (v ∷ vs) = ap (λ x. v ∷ x) (values-in-from vs)

module _ (a : View) (p : Place) (args : CallArgs) (xs : List Value) (here : xs ≡ args.positional) where
  -- those given by position
  given : values_in (values_from (values_of a args.positional)) ≡ values_of a xs
  given = values-in-from (values_of a args.positional) ∙ ap (values_of a) (sym here)

  pub first_turn : (m : Held) (x : Asked) (w : Which) (s : Here) → m ≡ met.Nothing → x ≡ which.Next → IsWhich x w → argument_here a p args (met_in m) w s ≡ at_place p 0 (by_turn 1) (values_of a xs) s
  first_turn m x w s e f h = let same : w ≡ next_one = subst (λ x. IsWhich x w) f h in (λ i. argument_here a p args (met_in (e i)) (same i) s) ∙ ap (λ vs. at_place p 0 (by_turn 1) vs s) given

  pub next_turn : (m : Held) (n : ℕ) (x : Asked) (w : Which) (s : Here) → m ≡ met.ByTurn n → x ≡ which.Next → IsWhich x w → argument_here a p args (met_in m) w s ≡ at_place p n (by_turn (n + 1)) (values_of a xs) s
  next_turn m n x w s e f h = let same : w ≡ next_one = subst (λ x. IsWhich x w) f h in (λ i. argument_here a p args (met_in (e i)) (same i) s) ∙ (λ i. at_place p n (by_turn (next n i)) (given i) s)

  pub first_number : (m : Held) (k : ℕ) (w : Which) (s : Here) → m ≡ met.Nothing → w ≡ numbered k → argument_here a p args (met_in m) w s ≡ at_place p k by_number (values_of a xs) s
  first_number m k w s e same = (λ i. argument_here a p args (met_in (e i)) (same i) s) ∙ ap (λ vs. at_place p k by_number vs s) given

  pub next_number : (m : Held) (k : ℕ) (w : Which) (s : Here) → m ≡ met.ByNumber → w ≡ numbered k → argument_here a p args (met_in m) w s ≡ at_place p k by_number (values_of a xs) s
  next_number m k w s e same = (λ i. argument_here a p args (met_in (e i)) (same i) s) ∙ ap (λ vs. at_place p k by_number vs s) given

-- ---- a field behind what was made

module _ (a : View) (p : Place) (args : CallArgs) (made : List ℕ) (m : Met) (f : Field) (c : Conversion) (s : Here) (shown : IsShownAs f.conversion c) where
  abbrev further : Ending (Unit {0}) (plain.Value × Met) → Ending (Unit {0}) (List ℕ × Met)
  further o = then_do (then_do o (λ v. converted p f.conversion v.0 >>= λ t. give (t, v.1))) (behind_made made)

  goes_on : filled_here a p args made m f s ≡ further (argument_here a p args m f.which s)
  goes_on = ap (λ b. then_do (then_do (need kind.ValueKind p b s) (λ u. argument_here a p args m f.which >>= λ v. converted p f.conversion v.0 >>= λ t. give (t, v.1))) (behind_made made)) shown.0

  pub unfound : (d : Fault) (after : Here) → argument_here a p args m f.which s ≡ bad d after → filled_here a p args made m f s ≡ bad d after
  unfound d after e = goes_on ∙ ap further e

  pub unfound_met : {A : Type 0} (x : Stop) (r : Result A Stop) (view : A → List ℕ × Met) (after : Here) → r ≡ Err x → Meets (value_and_met a) (Err x) after (argument_here a p args m f.which s) → Meets view r after (filled_here a p args made m f s)
  unfound_met (stop.Fault d) r view after e h = subst (λ r. Meets view r after (filled_here a p args made m f s)) (sym e) (unfound d after h)
  unfound_met stop.Memory r view after e h = subst (λ r. Meets view r after (filled_here a p args made m f s)) (sym e) tt

  module _ (v : plain.Value) (n : Met) (is : argument_here a p args m f.which s ≡ done (v, n) s) where
    found_one : filled_here a p args made m f s ≡ then_do (then_do (converted p (conversion_in c) v s) (λ t. give (t, n))) (behind_made made)
    found_one = goes_on ∙ ap further is ∙ ap (λ k. then_do (then_do (converted p k v s) (λ t. give (t, n))) (behind_made made)) shown.1

    pub unshown : (d : Fault) (after : Here) → behind made (converted p (conversion_in c) v) s ≡ bad d after → filled_here a p args made m f s ≡ bad d after
    unshown d after e = found_one ∙ by (converted p (conversion_in c) v s) e where
      by : (o : Ending (Unit {0}) (List ℕ)) → then_do o (λ t. give (made ++ t)) ≡ bad d after → then_do (then_do o (λ t. give (t, n))) (behind_made made) ≡ bad d after
      by (done t r) e = cc
      by (bad g r) e = cc
      by (asks q r k) e = cc

    pub unshown_met : {A B : Type 0} (x : Stop) (r : Result A Stop) (view : A → List ℕ × Met) (seen : B → List ℕ) (after : Here) → r ≡ Err x → Meets seen (Err x) after (behind made (converted p (conversion_in c) v) s) → Meets view r after (filled_here a p args made m f s)
    unshown_met (stop.Fault d) r view seen after e h = subst (λ r. Meets view r after (filled_here a p args made m f s)) (sym e) (unshown d after h)
    unshown_met stop.Memory r view seen after e h = subst (λ r. Meets view r after (filled_here a p args made m f s)) (sym e) tt

    pub field_shown : (new : List ℕ) (after : Here) → behind made (converted p (conversion_in c) v) s ≡ done new after → filled_here a p args made m f s ≡ done (new, n) after
    field_shown new after e = found_one ∙ by (converted p (conversion_in c) v s) e where
      by : (o : Ending (Unit {0}) (List ℕ)) → then_do o (λ t. give (made ++ t)) ≡ done new after → then_do (then_do o (λ t. give (t, n))) (behind_made made) ≡ done (new, n) after
      by (done t r) e = cc
      by (bad g r) e = cc
      by (asks q r k) e = cc

-- a name, which isn't this one
pub name_passed : (a : View) (x : List ℕ) (q : NamedValue) (qs : List NamedValue) → bytes_eq x q.name ≡ false → field_of x (fields_in a.held (q ∷ qs)) ≡ field_of x (fields_in a.held qs)
name_passed a x q qs e = ap (λ b. if b then Some (value_of a q.value) else field_of x (fields_in a.held qs)) e

pub owned_first : (a : View) (q : NamedValue) (qs all : List NamedValue) → all ≡ q ∷ qs → OwnsFields a all → OwnsFields a (q ∷ qs)
owned_first a q qs all e h = subst (OwnsFields a) e h

-- ---- braces

not_one : (h : Bool) → (h ≡ true → ⊥) → not h ≡ true
not_one true f = absurd (f refl)
not_one false f = refl

abbrev NoBrace : List ℕ → ℕ → Type 0
NoBrace t k = Nowhere (Passes (is_byte2 123 125) t) 0 k

before_brace : (t : List ℕ) (k : ℕ) → NoBrace t k → HasNoBrace (take k t)
before_brace [] zero h = tt
before_brace (b ∷ t) zero h = tt
before_brace [] (suc k) h = tt
before_brace (b ∷ t) (suc k) h = (not_one (b == 123 || b == 125) (h 0 (omega arith) (omega arith)), before_brace t k (λ j l m. h (suc j) (omega arith) (omega (arith, m))))

pub without_brace : (t : List ℕ) → NoBrace t (length t) → HasNoBrace t
without_brace [] h = tt
without_brace (b ∷ t) h = (not_one (b == 123 || b == 125) (h 0 (omega arith) (omega arith)), without_brace t (λ j l m. h (suc j) (omega arith) (omega (arith, m))))

brace_is : (x : ℕ) → (x == 123 || x == 125) ≡ true → x ≡ brace (x == 123)
brace_is x h = by (x == 123) refl h where
  by : (o : Bool) → x == 123 ≡ o → (o || x == 125) ≡ true → x ≡ brace o
  by true e h = eqb-true x 123 e
  by false e h = eqb-true x 125 h

brace_low : (o : Bool) → brace o < 128
brace_low true = omega arith
brace_low false = omega arith

pub low_brace : (x : ℕ) → (x == 123 || x == 125) ≡ true → x < 128
low_brace x h = subst (λ y. y < 128) (sym (brace_is x h)) (brace_low (x == 123))

pub cut_there : (t before after : List ℕ) (at : ℕ) (o : Bool) → at < length t → NoBrace t at → Passes (is_byte2 123 125) t at → before ≡ take at t → after ≡ drop (at + 1) t → o ≡ (get_or t at 0 == 123) → IsCut t before o after
cut_there t before after at o l none is front rest told =
    let b = brace_is (get_or t at 0) is ∙ ap brace (sym told) in (
      subst HasNoBrace (sym front) (before_brace t at none),
      split_at t at 0 l ∙ (λ i. sym front i ++ b i ∷ drop (next at i) t) ∙ ap (λ x. before ++ brace o ∷ x) (sym rest),
    )

-- ---- the text

all_pass : (t : List ℕ) → HasNoBrace t → AllPass is_no_brace t
all_pass [] h = tt
all_pass (b ∷ t) h = (h.0, all_pass t h.1)

module _ (a : View) (p : Place) (args : CallArgs) (made : List ℕ) (s : Here) where
  abbrev vs : Values
  vs = values_from (values_of a args.positional)

  abbrev fs : Fields
  fs = fields_in a.held args.named

  pub up_to_brace : (m : Met) (t before after new : List ℕ) (o : Bool) → IsCut t before o after → new ≡ made ++ before → behind made (formatted_here a p args m t) s ≡ behind new (formatted_here a p args m (brace o ∷ after)) s
  up_to_brace m t before after new o cut put =
      ap (λ x. behind made (formatted_here a p args m x) s) cut.1
      ∙ run_formatted p vs fs m before (brace o ∷ after) made s (all_pass before cut.0)
      ∙ ap (λ x. behind x (formatted_here a p args m (brace o ∷ after)) s) (sym put)

  pub to_the_end : (m : Met) (t new : List ℕ) → HasNoBrace t → new ≡ made ++ t → behind made (formatted_here a p args m t) s ≡ done new s
  to_the_end m t new none put =
      ap (λ x. behind made (formatted_here a p args m x) s) (sym (append-nil t))
      ∙ run_formatted p vs fs m t [] made s (all_pass t none)
      ∙ ap (λ x. done x s) (append-nil (made ++ t) ∙ sym put)

  pub doubled : (m : Met) (o : Bool) (t more new : List ℕ) → t ≡ brace o ∷ more → new ≡ made ++ brace o ∷ [] → behind made (formatted_here a p args m (brace o ∷ t)) s ≡ behind new (formatted_here a p args m more) s
  doubled m true t more new e put = ap (λ x. behind made (formatted_here a p args m (123 ∷ x)) s) e ∙ onto_before made (123 ∷ []) (formatted_here a p args m more) s ∙ ap (λ x. behind x (formatted_here a p args m more) s) (sym put)
  doubled m false t more new e put = ap (λ x. behind made (formatted_here a p args m (125 ∷ x)) s) e ∙ onto_before made (125 ∷ []) (formatted_here a p args m more) s ∙ ap (λ x. behind x (formatted_here a p args m more) s) (sym put)

  pub closes_alone : (m : Met) (t : List ℕ) → begins 125 t ≡ false → behind made (formatted_here a p args m (125 ∷ t)) s ≡ bad (fault_at kind.ValueKind p) s
  closes_alone m t e = ap (λ b. behind made (if b then text_before (125 ∷ []) (formatted p vs fs m 1 t) else fail kind.ValueKind p) s) e

  opens_alone : (m : Met) (t : List ℕ) → begins 123 t ≡ false → behind made (formatted_here a p args m (123 ∷ t)) s ≡ behind made (opened p vs fs m (cut_at 125 t) (λ m k. formatted p vs fs m k t)) s
  opens_alone m t e = ap (λ b. behind made (if b then text_before (123 ∷ []) (formatted p vs fs m 1 t) else opened p vs fs m (cut_at 125 t) (λ m k. formatted p vs fs m k t)) s) e

  pub unclosed : (m : Met) (t : List ℕ) → begins 123 t ≡ false → position_or_len (is_it 125) t ≡ length t → behind made (formatted_here a p args m (123 ∷ t)) s ≡ bad (fault_at kind.ValueKind p) s
  unclosed m t e none = opens_alone m t e ∙ ap (λ q. behind made (opened p vs fs m q (λ m k. formatted p vs fs m k t)) s) (cut_none 125 t none)

  passed : (m : Met) (f more : List ℕ) → formatted {H = Unit {0}} p vs fs m (suc (length f)) (f ++ 125 ∷ more) ≡ formatted p vs fs m 0 more
  passed m [] more = refl
  passed m (b ∷ f) more = passed m f more

  module _ (m : Met) (t f more : List ℕ) (e : begins 123 t ≡ false) (l : position_or_len (is_it 125) t < length t) (front : f ≡ before_first (is_it 125) t) (rest : more ≡ after_first (is_it 125) t) where
    whole : t ≡ f ++ 125 ∷ more
    whole = (split_at_first 125 t l).1 ∙ (λ i. sym front i ++ 125 ∷ sym rest i)

    closed : behind made (formatted_here a p args m (123 ∷ t)) s ≡ behind made (field_filled p vs fs m (field_in f) >>= λ r. text_before r.0 (formatted p vs fs r.1 0 more)) s
    closed =
        opens_alone m t e
        ∙ ap (λ q. behind made (opened p vs fs m q (λ m k. formatted p vs fs m k t)) s) (cut_some 125 t l ∙ (λ i. Some (sym front i, sym rest i)))
        ∙ (λ i. behind made (field_filled p vs fs m (field_in f) >>= λ r. text_before r.0 (formatted p vs fs r.1 (suc (length f)) (whole i))) s)
        ∙ (λ i. behind made (field_filled p vs fs m (field_in f) >>= λ r. text_before r.0 (passed r.1 f more i)) s)

    pub field_goes : (new : List ℕ) (n : Met) (after : Here) → filled_here a p args made m (field_in f) s ≡ done (new, n) after → behind made (formatted_here a p args m (123 ∷ t)) s ≡ behind new (formatted_here a p args n more) after
    field_goes new n after h = closed ∙ by (field_filled p vs fs m (field_in f) s) h where
      by : (o : Ending (Unit {0}) (List ℕ × Met)) → then_do o (behind_made made) ≡ done (new, n) after →
          then_do (then_do o (λ r. text_before r.0 (formatted p vs fs r.1 0 more))) (λ t. give (made ++ t)) ≡ behind new (formatted_here a p args n more) after
      by (done r q) h =
          let same : ◌≡◌ {A = List ℕ × Met} (made ++ r.0, r.1) (new, n) = cc in
          let text : made ++ r.0 ≡ new = ap (λ x. x.0) same in
          let kind : r.1 ≡ n = ap (λ x. x.1) same in
          let state : q ≡ after = cc in
          onto_before made r.0 (formatted p vs fs r.1 0 more) q ∙ (λ i. behind (text i) (formatted p vs fs (kind i) 0 more) (state i))
      by (bad d q) h = cc
      by (asks w q k) h = cc

    field_bad : (d : Fault) (after : Here) → filled_here a p args made m (field_in f) s ≡ bad d after → behind made (formatted_here a p args m (123 ∷ t)) s ≡ bad d after
    field_bad d after h = closed ∙ by (field_filled p vs fs m (field_in f) s) h where
      by : (o : Ending (Unit {0}) (List ℕ × Met)) → then_do o (behind_made made) ≡ bad d after → then_do (then_do o (λ r. text_before r.0 (formatted p vs fs r.1 0 more))) (λ t. give (made ++ t)) ≡ bad d after
      by (done r q) h = cc
      by (bad g q) h = cc
      by (asks w q k) h = cc

    pub field_stopped : {A B : Type 0} (x : Stop) (r : Result B Stop) (view : A → List ℕ × Met) (next : B → Ending (Unit {0}) (List ℕ)) (after : Here) → r ≡ Err x → Meets view (Err x) after (filled_here a p args made m (field_in f) s) → GoesOn r (behind made (formatted_here a p args m (123 ∷ t)) s) next after
    field_stopped (stop.Fault d) r view next after e h = subst (λ r. GoesOn r (behind made (formatted_here a p args m (123 ∷ t)) s) next after) (sym e) (field_bad d after h)
    field_stopped stop.Memory r view next after e h = subst (λ r. GoesOn r (behind made (formatted_here a p args m (123 ∷ t)) s) next after) (sym e) tt

-- ---- the method

twice_first : {A B : Type 0} (b : Bool) (p : Place) (m : Computation (Unit {0}) A) (k : A → Computation (Unit {0}) B) (s : Here) → then_do (need kind.ArgBind p b s) (λ u. m >>= k) ≡ then_do (then_do (need kind.ArgBind p b s) (λ u. m)) k
twice_first true p m k s = refl
twice_first false p m k s = refl

pub format_goes : (a : View) (p : Place) (args : CallArgs) (t made : List ℕ) (w : plain.Value) (all : List plain.Value) (s mid : Here) → w ≡ text_value t →
    unless_twice a p args (formatted_here a p args none_met t) s ≡ done made mid → all ≡ values_of a args.positional ++ values_of_fields (fields_in a.held args.named) →
    format p t (arguments_in a.held args) s ≡ then_do (paid_operation p (w ∷ all) (length made) 0 (give (tt {0})) mid) (λ (u : Unit {0}). give (text_value made))
format_goes a p args t made w all s mid text is same =
    let given = ap (λ vs. vs ++ values_of_fields (fields_in a.held args.named)) (values-in-from (values_of a args.positional)) in
    twice_first (not (has_twice (fields_in a.held args.named))) p (formatted_here a p args none_met t) (λ r. paid_operation p (text_value t ∷ (values_in (values_from (values_of a args.positional)) ++ values_of_fields (fields_in a.held args.named))) (length r) 0 (give (text_value r))) s
    ∙ (λ i. then_do (is i) (λ r. paid_operation p (text_value t ∷ given i) (length r) 0 (give (text_value r))))
    ∙ ap (λ vs. paid_operation p (text_value t ∷ vs) (length made) 0 (give (text_value made)) mid) (sym same)
    ∙ ap (λ v. paid_operation p (v ∷ all) (length made) 0 (give (text_value made)) mid) (sym text)
    ∙ after_cost p (w ∷ all) (length made) 0 (give (text_value made)) mid
