-- The names that one member more binds.
use Rattle.std.proofs.Common.{◌≡◌, ℕ, List, [], ◌∷◌, ◌++◌, refl, sym, ap, append-nil, map as each}
use Rattle.code_spec.specs.Names.{clauses_names, target_names}
use Rattle.code_spec.specs.Allowed.{parameter_names}
use Rattle.star_tree.specs.declared.code.Clause.{Clause}
use Rattle.star_tree.specs.declared.code.Param.{Param}
use Rattle.star_tree.specs.Whole as whole
use Rattle.star_tree.specs.Whole.{clauses_from, for_part, if_part, named_part, default_part, bare_part, star_part, stars_part, parameter_of, parameters_from, parameters_of}
use Rattle.star_tree.specs.Listed.{clause_of, clauses_of}

clause_names : (c : whole.Clause) (cs : List whole.Clause) → clauses_names (clauses_from (c ∷ cs)) ≡ clauses_names (clauses_from (c ∷ [])) ++ clauses_names (clauses_from cs)
clause_names (for_part x e) cs = ap (λ l. l ++ clauses_names (clauses_from cs)) (sym (append-nil (target_names x)))
clause_names (if_part e) cs = refl

pub one_clause : (file : ℕ) (c : Clause) (cs : List Clause) → clauses_names (clauses_of file (c ∷ cs)) ≡ clauses_names (clauses_of file (c ∷ [])) ++ clauses_names (clauses_of file cs)
one_clause file c cs = clause_names (clause_of file c) (each (clause_of file) cs)

parameter_name : (p : whole.Parameter) (ps : List whole.Parameter) → parameter_names (parameters_from (p ∷ ps)) ≡ parameter_names (parameters_from (p ∷ [])) ++ parameter_names (parameters_from ps)
parameter_name (named_part x) ps = refl
parameter_name (default_part x e) ps = refl
parameter_name bare_part ps = refl
parameter_name (star_part x) ps = refl
parameter_name (stars_part x) ps = refl

pub one_parameter : (file : ℕ) (p : Param) (ps : List Param) → parameter_names (parameters_of file (p ∷ ps)) ≡ parameter_names (parameters_of file (p ∷ [])) ++ parameter_names (parameters_of file ps)
one_parameter file p ps = parameter_name (parameter_of file p) (each (parameter_of file) ps)
