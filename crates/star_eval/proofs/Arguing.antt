-- Arguments, one behind another.
use Rattle.std.proofs.Common.{◌≡◌, List, [], ◌∷◌, ◌++◌, refl, ap, sym, ◌∙◌}
use Rattle.ytt_base.specs.declared.fault.Place.{Place}
use Rattle.code_spec.specs.Code as plain
use Rattle.builtin_spec.specs.Sorting.{members_taken}
use Rattle.star_calls.proofs.Behind.{both_in_a_row, both_none, with_fields_both, with_values_both}
use Rattle.star_calls.specs.Arguments.{both, positional, star, two_stars}
use Rattle.star_spec.specs.Eval.{eval_arguments, spread_fields, with_fields, with_values}
use Rattle.star_values.proofs.Growing.{each_joined}
use Rattle.star_values.specs.Owns.{Owns, OwnsAll, OwnsArguments, OwnsFields, field_values, note_values}
use Rattle.star_values.specs.View.{View}
use Rattle.star_values.specs.declared.value.BuiltNote.{BuiltNote}
use Rattle.star_values.specs.declared.value.NamedValue.{NamedValue}
use Rattle.value_spec.specs.Outcomes.{Computation, Ending, asks, bad, done, give, then_do, ◌>>=◌}
use Rattle.value_spec.specs.Values.{Value, Arguments, arguments, no_values, a_value, no_fields, a_field, values_from}
use Rattle.star_eval.specs.Doing.{Setting, all_calls, argument_form, argument_then, argument_value, arguments_then, evaluated}
use Rattle.star_eval.specs.Meets.{Here}
use Rattle.star_eval.proofs.Chaining.{chained}

-- what is given at once, and then what follows
given_once : {X Y Z A : Type 0} (r : Ending Here X) (g : X → Y) (h : Y → Z) (f : Z → Computation Here A) → then_do (then_do (then_do r (λ x. give (g x))) (λ y. give (h y))) f ≡ then_do r (λ x. f (h (g x)))
given_once (done x s) g h f = refl
given_once (bad e s) g h f = refl
given_once (asks q s k) g h f = λ i. asks q s (λ got t. given_once (k got t) g h f i)

module _ {A : Type 0} (c : Setting) (before : Arguments) (f : Arguments → Computation Here A) where
  -- nothing stands behind
  pub none_behind : arguments_then c plain.no_exprs before f ≡ f before
  none_behind = ap f (both_none before)

  -- what is worked out first is put before the rest
  put_first : {X : Type 0} (m : Computation Here X) (g : X → Arguments → Arguments) (mine : X → Arguments) (es : plain.Exprs) → ((x : X) (rest : Arguments) → g x rest ≡ both (mine x) rest) →
      ((m >>= λ x. eval_arguments (all_calls c) es c.env >>= λ rest. give (g x rest)) >>= λ rest. f (both before rest)) ≡ (m >>= λ x. arguments_then c es (both before (mine x)) f)
  put_first m g mine es h =
      chained m (λ x. eval_arguments (all_calls c) es c.env >>= λ rest. give (g x rest)) (λ rest. f (both before rest))
      ∙ (λ i. m >>= λ x. chained (eval_arguments (all_calls c) es c.env) (λ rest. give (g x rest)) (λ rest. f (both before rest)) i)
      ∙ (λ i. m >>= λ x. eval_arguments (all_calls c) es c.env >>= λ rest. (ap (λ all. f (both before all)) (h x rest) ∙ ap f (sym (both_in_a_row before (mine x) rest))) i)

  positional_first : (e : plain.Expr) (es : plain.Exprs) →
      ((evaluated c e >>= λ v. eval_arguments (all_calls c) es c.env >>= λ rest. give (with_values (v ∷ []) rest)) >>= λ rest. f (both before rest)) ≡ (evaluated c e >>= argument_then c positional es before f)
  positional_first e es = put_first (evaluated c e) (λ v. with_values (v ∷ [])) (λ v. arguments (a_value v no_values) no_fields) es (λ v. with_values_both (v ∷ []))

  star_first : (p : Place) (es : plain.Exprs) (v : Value) →
      ((members_taken p v >>= λ vs. eval_arguments (all_calls c) es c.env >>= λ rest. give (with_values vs rest)) >>= λ rest. f (both before rest)) ≡ argument_then c (star p) es before f v
  star_first p es v =
      put_first (members_taken p v) with_values (λ vs. arguments (values_from vs) no_fields) es with_values_both
      ∙ (λ i s. sym (given_once (members_taken p v s) (λ vs. arguments (values_from vs) no_fields) (both before) (λ more. arguments_then c es more f)) i)

  stars_first : (p : Place) (es : plain.Exprs) (v : Value) →
      ((spread_fields p v >>= λ fs. eval_arguments (all_calls c) es c.env >>= λ rest. give (with_fields fs rest)) >>= λ rest. f (both before rest)) ≡ argument_then c (two_stars p) es before f v
  stars_first p es v =
      put_first (spread_fields p v) with_fields (λ fs. arguments no_values fs) es with_fields_both
      ∙ (λ i s. sym (given_once (spread_fields p v s) (λ fs. arguments no_values fs) (both before) (λ more. arguments_then c es more f)) i)

  -- the first argument, and then the others
  pub argument_first : (e : plain.Expr) (es : plain.Exprs) → arguments_then c (plain.an_expr e es) before f ≡ (evaluated c (argument_value e) >>= argument_then c (argument_form e) es before f)
  argument_first (plain.named p x e) es =
      put_first (evaluated c e) (λ v. with_fields (a_field x v no_fields)) (λ v. arguments no_values (a_field x v no_fields)) es (λ v. with_fields_both (a_field x v no_fields))
  argument_first (plain.starred p e) es =
      chained (evaluated c e) (λ v. members_taken p v >>= λ vs. eval_arguments (all_calls c) es c.env >>= λ rest. give (with_values vs rest)) (λ rest. f (both before rest)) ∙ (λ i. evaluated c e >>= λ v. star_first p es v i)
  argument_first (plain.double_starred p e) es =
      chained (evaluated c e) (λ v. spread_fields p v >>= λ fs. eval_arguments (all_calls c) es c.env >>= λ rest. give (with_fields fs rest)) (λ rest. f (both before rest)) ∙ (λ i. evaluated c e >>= λ v. stars_first p es v i)
  argument_first e es = positional_first e es

-- ---- notes

fields_owned : (a : View) (fs : List NamedValue) → OwnsFields a fs → OwnsAll a (field_values fs)
fields_owned a [] h = tt
fields_owned a (f ∷ fs) h = (h.0, fields_owned a fs h.1)

pub note_owned : (a : View) (n : BuiltNote) → OwnsArguments a n.args → OwnsAll a (note_values (n ∷ []))
note_owned a n h = each_joined (Owns a) n.args.positional (field_values n.args.named ++ []) h.0 (each_joined (Owns a) (field_values n.args.named) [] (fields_owned a n.args.named h.1) tt)
