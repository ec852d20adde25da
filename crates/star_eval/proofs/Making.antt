-- The defaults of functions, one behind another.
use Rattle.std.proofs.Common.{◌≡◌, List, [], ◌∷◌, ◌++◌, Option, Some, None, append-nil, append_assoc, refl, ap, sym, ◌∙◌}
use Rattle.code_spec.specs.Code.{Expr, Parameters, no_parameters, required, defaulted, bare_star, starred_parameter, double_starred_parameter}
use Rattle.star_spec.specs.Eval.{default_values}
use Rattle.value_spec.specs.Outcomes.{give, ◌>>=◌}
use Rattle.value_spec.specs.Values.{Value}
use Rattle.star_eval.specs.Doing.{Making, Setting, all_calls, evaluated, function_made, making, next_default}
use Rattle.star_eval.proofs.Chaining.{chained}

-- the parts of what may stand there
abbrev expr_at : Expr → Option (Expr × Parameters) → Expr
expr_at x None = x
expr_at x (Some p) = p.0

abbrev parameters_at : Parameters → Option (Expr × Parameters) → Parameters
parameters_at ps None = ps
parameters_at ps (Some p) = p.1

module _ (c : Setting) where
  no_values : (ps : Parameters) → next_default ps ≡ None → default_values (all_calls c) ps c.env ≡ give []
  no_values no_parameters h = refl
  no_values (required x ps) h = no_values ps h
  no_values (defaulted x e ps) h = cc
  no_values (bare_star ps) h = no_values ps h
  no_values (starred_parameter x ps) h = no_values ps h
  no_values (double_starred_parameter x ps) h = no_values ps h

  first_value : (ps : Parameters) (e : Expr) (rest : Parameters) → next_default ps ≡ Some (e, rest) → default_values (all_calls c) ps c.env ≡ (evaluated c e >>= λ v. default_values (all_calls c) rest c.env >>= λ vs. give (v ∷ vs))
  first_value no_parameters e rest h = cc
  first_value (required x ps) e rest h = first_value ps e rest h
  first_value (defaulted x d ps) e rest h =
      let same : d ≡ e = ap (expr_at d) h in
      let behind : ps ≡ rest = ap (parameters_at ps) h in
      λ i. evaluated c (same i) >>= λ v. default_values (all_calls c) (behind i) c.env >>= λ vs. give (v ∷ vs)
  first_value (bare_star ps) e rest h = first_value ps e rest h
  first_value (starred_parameter x ps) e rest h = first_value ps e rest h
  first_value (double_starred_parameter x ps) e rest h = first_value ps e rest h

  module _ (k : Making) (before : List Value) where
    pub none_defaulted : (ps : Parameters) → next_default ps ≡ None → making c k ps before ≡ function_made c.env k before
    none_defaulted ps h = (λ i. no_values ps h i >>= λ ds. function_made c.env k (before ++ ds)) ∙ ap (function_made c.env k) (append-nil before)

    pub one_defaulted : (ps : Parameters) (e : Expr) (rest : Parameters) → next_default ps ≡ Some (e, rest) → making c k ps before ≡ (evaluated c e >>= λ v. making c k rest (before ++ v ∷ []))
    one_defaulted ps e rest h =
        (λ i. first_value ps e rest h i >>= λ ds. function_made c.env k (before ++ ds))
        ∙ chained (evaluated c e) (λ v. default_values (all_calls c) rest c.env >>= λ vs. give (v ∷ vs)) (λ ds. function_made c.env k (before ++ ds))
        ∙ (λ i. evaluated c e >>= λ v. chained (default_values (all_calls c) rest c.env) (λ vs. give (v ∷ vs)) (λ ds. function_made c.env k (before ++ ds)) i)
        ∙ (λ i. evaluated c e >>= λ v. default_values (all_calls c) rest c.env >>= λ vs. function_made c.env k (sym (append_assoc before (v ∷ []) vs) i))
