-- The functions that stand in the events of code are those of the code.
use Rattle.std.proofs.Common.{◌≡◌, List, [], ◌∷◌, ◌++◌, true, false, refl, sym, ap, ◌∙◌, append_assoc, map as each}
use Rattle.std.proofs.lemmas.List.{map-append}
use Rattle.code_spec.specs.Allowed.{parameter_names}
use Rattle.code_spec.specs.Code as code
use Rattle.code_spec.specs.Code.{Name, Expr, Exprs, no_exprs, an_expr, OptionalExpr, absent, present, Entries, no_entries, an_entry, Clauses, no_clauses, for_clause, if_clause, Pieces, no_pieces, text_piece, expr_piece, Parameters, no_parameters, required, defaulted, bare_star, starred_parameter, double_starred_parameter, LoadedNames, no_loaded, a_loaded, Statement, evaluate, assign, augment, load, return, break, continue, pass}
use Rattle.code_spec.specs.Names.{clauses_names}
use Rattle.code_spec.specs.Program.{NodePart, node_start, node_note, node_key, node_key_from, node_value, node_value_from, node_end}
use Rattle.ytt_base.specs.declared.fault.Place.{Place}
use Rattle.star_resolve.specs.declared.event.Event.{Event}
use Rattle.star_resolve.specs.declared.event.Event.TheVariants as event
use Rattle.star_resolve.specs.Events.{clauses_events, entries_events, expr_events, exprs_events, loaded_events, optional_events, parameters_events, part_events, pieces_events, sizes_in, statement_events}
use Rattle.star_resolve.specs.Functions.{clauses_functions, entries_functions, expr_functions, exprs_functions, optional_functions, parameters_functions, part_functions, pieces_functions, scope_size, statement_functions}

-- these functions stand in events
pub record Announces (es : List Event) (fs : List (List Name)) : Type 0 where
  pub all : (rest : List Event) → sizes_in (es ++ rest) ≡ each scope_size fs ++ sizes_in rest

pub none : Announces [] []
none = record { all = λ rest. refl }

pub a_function : (names : List Name) → Announces (event.Function (scope_size names) ∷ []) (names ∷ [])
a_function names = record { all = λ rest. refl }

pub a_name : (p : Place) (x : Name) → Announces (event.Name p x ∷ []) []
a_name p x = record { all = λ rest. refl }

pub enters : (names : List Name) → Announces (event.Enter names ∷ []) []
enters names = record { all = λ rest. refl }

pub begins : Announces (event.Block ∷ []) []
begins = record { all = λ rest. refl }

pub leaves : Announces (event.Leave ∷ []) []
leaves = record { all = λ rest. refl }

pub then : {a b : List Event} {f g : List (List Name)} → Announces a f → Announces b g → Announces (a ++ b) (f ++ g)
then {a = a} {b = b} {f = f} {g = g} h k =
    record {
      all = λ rest. ap sizes_in (append_assoc a b rest) ∙ h.all (b ++ rest) ∙ ap (λ l. each scope_size f ++ l) (k.all rest)
          ∙ sym (append_assoc (each scope_size f) (each scope_size g) (sizes_in rest)) ∙ ap (λ l. l ++ sizes_in rest) (sym (map-append scope_size f g));
    }

-- the same, where no function stands in the second part
pub at_end : {a b : List Event} {f : List (List Name)} → Announces a f → Announces b [] → Announces (a ++ b) f
at_end {a = a} {b = b} {f = f} h k =
    record { all = λ rest. ap sizes_in (append_assoc a b rest) ∙ h.all (b ++ rest) ∙ ap (λ l. each scope_size f ++ l) (k.all rest) }

mutual
  pub of_expr : (e : Expr) → Announces (expr_events e) (expr_functions e)
  of_expr (code.int p z) = none
  of_expr (code.text p t) = none
  of_expr (code.name p x) = a_name p x
  of_expr (code.list p es) = of_exprs es
  of_expr (code.tuple p es) = of_exprs es
  of_expr (code.dict p es) = of_entries es
  of_expr (code.unary p o a) = of_expr a
  of_expr (code.binary p o a b) = then (of_expr a) (of_expr b)
  of_expr (code.conjunction p a b) = then (of_expr a) (of_expr b)
  of_expr (code.disjunction p a b) = then (of_expr a) (of_expr b)
  of_expr (code.conditional p c a b) = then (of_expr a) (then (of_expr c) (of_expr b))
  of_expr (code.call p f es) = then (of_expr f) (of_exprs es)
  of_expr (code.named p x e) = of_expr e
  of_expr (code.starred p e) = of_expr e
  of_expr (code.double_starred p e) = of_expr e
  of_expr (code.index p a i) = then (of_expr a) (of_expr i)
  of_expr (code.slice p a l h d) = then (of_expr a) (then (of_optional l) (then (of_optional h) (of_optional d)))
  of_expr (code.attribute p a x) = of_expr a
  of_expr (code.lambda p number ps e) = then (a_function (parameter_names ps)) (then (of_parameters ps) (then (enters (parameter_names ps)) (at_end (of_expr e) leaves)))
  of_expr (code.list_comprehension p e cs) = then (enters (clauses_names cs)) (then (of_expr e) (of_first_clauses cs (clauses_names cs)))
  of_expr (code.dict_comprehension p a b cs) = then (enters (clauses_names cs)) (then (of_expr a) (then (of_expr b) (of_first_clauses cs (clauses_names cs))))
  of_expr (code.text_template p ps) = of_pieces ps

  pub of_exprs : (es : Exprs) → Announces (exprs_events es) (exprs_functions es)
  of_exprs no_exprs = none
  of_exprs (an_expr e es) = then (of_expr e) (of_exprs es)

  of_optional : (o : OptionalExpr) → Announces (optional_events o) (optional_functions o)
  of_optional absent = none
  of_optional (present e) = of_expr e

  of_entries : (es : Entries) → Announces (entries_events es) (entries_functions es)
  of_entries no_entries = none
  of_entries (an_entry a b es) = then (of_expr a) (then (of_expr b) (of_entries es))

  of_first_clauses : (cs : Clauses) (names : List Name) → Announces (clauses_events true names cs) (clauses_functions cs)
  of_first_clauses no_clauses names = leaves
  of_first_clauses (for_clause x e cs) names = then (of_expr x) (then leaves (then (of_expr e) (then (enters names) (of_clauses cs names))))
  of_first_clauses (if_clause e cs) names = then (of_expr e) (of_first_clauses cs names)

  of_clauses : (cs : Clauses) (names : List Name) → Announces (clauses_events false names cs) (clauses_functions cs)
  of_clauses no_clauses names = leaves
  of_clauses (for_clause x e cs) names = then (of_expr x) (then (of_expr e) (of_clauses cs names))
  of_clauses (if_clause e cs) names = then (of_expr e) (of_clauses cs names)

  of_pieces : (ps : Pieces) → Announces (pieces_events ps) (pieces_functions ps)
  of_pieces no_pieces = none
  of_pieces (text_piece t ps) = of_pieces ps
  of_pieces (expr_piece e ps) = then (of_expr e) (of_pieces ps)

  pub of_parameters : (ps : Parameters) → Announces (parameters_events ps) (parameters_functions ps)
  of_parameters no_parameters = none
  of_parameters (required x ps) = of_parameters ps
  of_parameters (defaulted x e ps) = then (of_expr e) (of_parameters ps)
  of_parameters (bare_star ps) = of_parameters ps
  of_parameters (starred_parameter x ps) = of_parameters ps
  of_parameters (double_starred_parameter x ps) = of_parameters ps

of_loaded : (p : Place) (xs : LoadedNames) → Announces (loaded_events p xs) []
of_loaded p no_loaded = none
of_loaded p (a_loaded x origin xs) = then (a_name p x) (of_loaded p xs)

pub of_statement : (s : Statement) → Announces (statement_events s) (statement_functions s)
of_statement (evaluate p e) = of_expr e
of_statement (assign p x e) = then (of_expr x) (of_expr e)
of_statement (augment p o q x e) = then (of_expr x) (of_expr e)
of_statement (load p path xs) = of_loaded p xs
of_statement (return p e) = of_expr e
of_statement (break p) = none
of_statement (continue p) = none
of_statement (pass p) = none

pub of_part : (o : NodePart) → Announces (part_events o) (part_functions o)
of_part (node_start p kind holds) = none
of_part (node_note p x es) = of_exprs es
of_part (node_key p x) = none
of_part (node_key_from p e) = of_expr e
of_part (node_value p x) = none
of_part (node_value_from p e) = of_expr e
of_part (node_end p) = none
