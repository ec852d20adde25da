-- Events, one after another, where the scopes around are those that were entered and not left: the names in them are the
-- uses of the code that they are of.
use Rattle.std.proofs.Common.{◌≡◌, ℕ, List, [], ◌∷◌, ◌++◌, Option, Some, None, true, false, refl, sym, ap, ◌∙◌, append_assoc}
use Rattle.code_spec.specs.Code as code
use Rattle.code_spec.specs.Code.{Name, Expr, Exprs, no_exprs, an_expr, OptionalExpr, absent, present, Entries, no_entries, an_entry, Clauses, no_clauses, for_clause, if_clause, Pieces, no_pieces, text_piece, expr_piece, Parameters, no_parameters, required, defaulted, bare_star, starred_parameter, double_starred_parameter, LoadedNames, no_loaded, a_loaded, Statement, evaluate, assign, augment, load, return, break, continue, pass}
use Rattle.code_spec.specs.Names.{clauses_names}
use Rattle.code_spec.specs.Program.{NodePart, node_start, node_note, node_key, node_key_from, node_value, node_value_from, node_end}
use Rattle.code_spec.specs.Allowed.{parameter_names}
use Rattle.code_spec.specs.Scopes.{Around, Use, use_at, clauses_uses, entries_uses, expr_uses, exprs_uses, loaded_uses, optional_uses, parameters_uses, part_uses, pieces_uses, statement_uses}
use Rattle.ytt_base.specs.declared.fault.Place.{Place}
use Rattle.star_resolve.specs.declared.event.Event.{Event}
use Rattle.star_resolve.specs.declared.event.Event.TheVariants as event
use Rattle.star_resolve.specs.Functions.{scope_size}
use Rattle.star_resolve.specs.Events.{clauses_events, entries_events, expr_events, exprs_events, loaded_events, optional_events, parameters_events, part_events, pieces_events, statement_events}

-- what is open at a place, the innermost first: a scope with its names, or a block that has none
abbrev pub Levels : Type 0
Levels = List (Option (List Name))

abbrev pub outer_levels : Levels → Levels
outer_levels [] = []
outer_levels (l ∷ ls) = ls

abbrev pub scopes_in : Levels → Around
scopes_in [] = []
scopes_in (None ∷ ls) = scopes_in ls
scopes_in (Some names ∷ ls) = names ∷ scopes_in ls

-- the names in events, with the scopes around each
abbrev pub run : Levels → List Event → List Use
run ls [] = []
run ls (event.Name p x ∷ es) = use_at (scopes_in ls) p x ∷ run ls es
run ls (event.Function n ∷ es) = run ls es
run ls (event.Enter names ∷ es) = run (Some names ∷ ls) es
run ls (event.Block ∷ es) = run (None ∷ ls) es
run ls (event.Leave ∷ es) = run (outer_levels ls) es

-- events that lead from what is open before to what is open behind, and these are the uses in them
pub record Runs (before behind : Levels) (es : List Event) (us : List Use) : Type 0 where
  pub all : (rest : List Event) → run before (es ++ rest) ≡ us ++ run behind rest

pub nothing : (ls : Levels) → Runs ls ls [] []
nothing ls = record { all = λ rest. refl }

pub a_name : (ls : Levels) (p : Place) (x : Name) → Runs ls ls (event.Name p x ∷ []) (use_at (scopes_in ls) p x ∷ [])
a_name ls p x = record { all = λ rest. refl }

pub announces : (ls : Levels) (n : ℕ) → Runs ls ls (event.Function n ∷ []) []
announces ls n = record { all = λ rest. refl }

pub enters : (ls : Levels) (names : List Name) → Runs ls (Some names ∷ ls) (event.Enter names ∷ []) []
enters ls names = record { all = λ rest. refl }

pub begins : (ls : Levels) → Runs ls (None ∷ ls) (event.Block ∷ []) []
begins ls = record { all = λ rest. refl }

pub leaves : (l : Option (List Name)) (ls : Levels) → Runs (l ∷ ls) ls (event.Leave ∷ []) []
leaves l ls = record { all = λ rest. refl }

pub next : {k l m : Levels} {a b : List Event} {u v : List Use} → Runs k l a u → Runs l m b v → Runs k m (a ++ b) (u ++ v)
next {k = k} {l = l} {m = m} {a = a} {b = b} {u = u} {v = v} f g =
    record { all = λ rest. ap (run k) (append_assoc a b rest) ∙ f.all (b ++ rest) ∙ ap (λ us. u ++ us) (g.all rest) ∙ sym (append_assoc u v (run m rest)) }

-- the same, where no name stands in the second part
pub last : {k l m : Levels} {a b : List Event} {u : List Use} → Runs k l a u → Runs l m b [] → Runs k m (a ++ b) u
last {k = k} {l = l} {a = a} {b = b} {u = u} f g =
    record { all = λ rest. ap (run k) (append_assoc a b rest) ∙ f.all (b ++ rest) ∙ ap (λ us. u ++ us) (g.all rest) }

mutual
  pub expr_runs : (e : Expr) (ls : Levels) → Runs ls ls (expr_events e) (expr_uses (scopes_in ls) e)
  expr_runs (code.int p z) ls = nothing ls
  expr_runs (code.text p t) ls = nothing ls
  expr_runs (code.name p x) ls = a_name ls p x
  expr_runs (code.list p es) ls = exprs_run es ls
  expr_runs (code.tuple p es) ls = exprs_run es ls
  expr_runs (code.dict p es) ls = entries_run es ls
  expr_runs (code.unary p o a) ls = expr_runs a ls
  expr_runs (code.binary p o a b) ls = next (expr_runs a ls) (expr_runs b ls)
  expr_runs (code.conjunction p a b) ls = next (expr_runs a ls) (expr_runs b ls)
  expr_runs (code.disjunction p a b) ls = next (expr_runs a ls) (expr_runs b ls)
  expr_runs (code.conditional p c a b) ls = next (expr_runs a ls) (next (expr_runs c ls) (expr_runs b ls))
  expr_runs (code.call p f es) ls = next (expr_runs f ls) (exprs_run es ls)
  expr_runs (code.named p x e) ls = expr_runs e ls
  expr_runs (code.starred p e) ls = expr_runs e ls
  expr_runs (code.double_starred p e) ls = expr_runs e ls
  expr_runs (code.index p a i) ls = next (expr_runs a ls) (expr_runs i ls)
  expr_runs (code.slice p a l h d) ls = next (expr_runs a ls) (next (optional_runs l ls) (next (optional_runs h ls) (optional_runs d ls)))
  expr_runs (code.attribute p a x) ls = expr_runs a ls
  expr_runs (code.lambda p number ps e) ls =
      next (announces ls (scope_size (parameter_names ps)))
      (next (parameters_run ps ls) (next (enters ls (parameter_names ps)) (last (expr_runs e (Some (parameter_names ps) ∷ ls)) (leaves (Some (parameter_names ps)) ls))))
  expr_runs (code.list_comprehension p e cs) ls =
      next (enters ls (clauses_names cs)) (next (expr_runs e (Some (clauses_names cs) ∷ ls)) (first_clauses_run cs (clauses_names cs) ls))
  expr_runs (code.dict_comprehension p a b cs) ls =
      next (enters ls (clauses_names cs)) (next (expr_runs a (Some (clauses_names cs) ∷ ls)) (next (expr_runs b (Some (clauses_names cs) ∷ ls)) (first_clauses_run cs (clauses_names cs) ls)))
  expr_runs (code.text_template p ps) ls = pieces_run ps ls

  pub exprs_run : (es : Exprs) (ls : Levels) → Runs ls ls (exprs_events es) (exprs_uses (scopes_in ls) es)
  exprs_run no_exprs ls = nothing ls
  exprs_run (an_expr e es) ls = next (expr_runs e ls) (exprs_run es ls)

  optional_runs : (o : OptionalExpr) (ls : Levels) → Runs ls ls (optional_events o) (optional_uses (scopes_in ls) o)
  optional_runs absent ls = nothing ls
  optional_runs (present e) ls = expr_runs e ls

  entries_run : (es : Entries) (ls : Levels) → Runs ls ls (entries_events es) (entries_uses (scopes_in ls) es)
  entries_run no_entries ls = nothing ls
  entries_run (an_entry a b es) ls = next (expr_runs a ls) (next (expr_runs b ls) (entries_run es ls))

  first_clauses_run : (cs : Clauses) (names : List Name) (ls : Levels) → Runs (Some names ∷ ls) ls (clauses_events true names cs) (clauses_uses (scopes_in ls) (names ∷ scopes_in ls) cs)
  first_clauses_run no_clauses names ls = leaves (Some names) ls
  first_clauses_run (for_clause x e cs) names ls =
      next (expr_runs x (Some names ∷ ls)) (next (leaves (Some names) ls) (next (expr_runs e ls) (next (enters ls names) (clauses_run cs names ls))))
  first_clauses_run (if_clause e cs) names ls = next (expr_runs e (Some names ∷ ls)) (first_clauses_run cs names ls)

  clauses_run : (cs : Clauses) (names : List Name) (ls : Levels) → Runs (Some names ∷ ls) ls (clauses_events false names cs) (clauses_uses (names ∷ scopes_in ls) (names ∷ scopes_in ls) cs)
  clauses_run no_clauses names ls = leaves (Some names) ls
  clauses_run (for_clause x e cs) names ls = next (expr_runs x (Some names ∷ ls)) (next (expr_runs e (Some names ∷ ls)) (clauses_run cs names ls))
  clauses_run (if_clause e cs) names ls = next (expr_runs e (Some names ∷ ls)) (clauses_run cs names ls)

  pieces_run : (ps : Pieces) (ls : Levels) → Runs ls ls (pieces_events ps) (pieces_uses (scopes_in ls) ps)
  pieces_run no_pieces ls = nothing ls
  pieces_run (text_piece t ps) ls = pieces_run ps ls
  pieces_run (expr_piece e ps) ls = next (expr_runs e ls) (pieces_run ps ls)

  pub parameters_run : (ps : Parameters) (ls : Levels) → Runs ls ls (parameters_events ps) (parameters_uses (scopes_in ls) ps)
  parameters_run no_parameters ls = nothing ls
  parameters_run (required x ps) ls = parameters_run ps ls
  parameters_run (defaulted x e ps) ls = next (expr_runs e ls) (parameters_run ps ls)
  parameters_run (bare_star ps) ls = parameters_run ps ls
  parameters_run (starred_parameter x ps) ls = parameters_run ps ls
  parameters_run (double_starred_parameter x ps) ls = parameters_run ps ls

loaded_run : (p : Place) (xs : LoadedNames) (ls : Levels) → Runs ls ls (loaded_events p xs) (loaded_uses (scopes_in ls) p xs)
loaded_run p no_loaded ls = nothing ls
loaded_run p (a_loaded x origin xs) ls = next (a_name ls p x) (loaded_run p xs ls)

pub statement_runs : (s : Statement) (ls : Levels) → Runs ls ls (statement_events s) (statement_uses (scopes_in ls) s)
statement_runs (evaluate p e) ls = expr_runs e ls
statement_runs (assign p x e) ls = next (expr_runs x ls) (expr_runs e ls)
statement_runs (augment p o q x e) ls = next (expr_runs x ls) (expr_runs e ls)
statement_runs (load p path xs) ls = loaded_run p xs ls
statement_runs (return p e) ls = expr_runs e ls
statement_runs (break p) ls = nothing ls
statement_runs (continue p) ls = nothing ls
statement_runs (pass p) ls = nothing ls

pub part_runs : (o : NodePart) (ls : Levels) → Runs ls ls (part_events o) (part_uses (scopes_in ls) o)
part_runs (node_start p kind holds) ls = nothing ls
part_runs (node_note p x es) ls = exprs_run es ls
part_runs (node_key p x) ls = nothing ls
part_runs (node_key_from p e) ls = expr_runs e ls
part_runs (node_value p x) ls = nothing ls
part_runs (node_value_from p e) ls = expr_runs e ls
part_runs (node_end p) ls = nothing ls
