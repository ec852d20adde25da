use Rattle.std.proofs.Common.{◌≡◌, ◌++◌, drop}
use Rattle.code_spec.specs.Names.{clauses_names}
use Rattle.star_tree.specs.Whole.{exprs_of, parameters_of}
use Rattle.star_resolve.specs.Events.{clauses_events, entries_events, exprs_events, parameters_events, pieces_events}
use Rattle.star_tree.specs.Listed.{clauses_of, entries_of, pieces_of}
use Rattle.star_resolve.proofs.walk.+walk.Given as goal

abbrev pub invariant-put_exprs-loop-expr : goal.invariant-put_exprs-loop-expr
invariant-put_exprs-loop-expr l = l.events ++ exprs_events (exprs_of l.file (drop l.expr-index l.exprs)) ≡ l.initial.events ++ exprs_events (exprs_of l.file l.exprs)

abbrev pub invariant-put_entries-loop-entry : goal.invariant-put_entries-loop-entry
invariant-put_entries-loop-entry l = l.events ++ entries_events (entries_of l.file (drop l.entry-index l.entries)) ≡ l.initial.events ++ entries_events (entries_of l.file l.entries)

abbrev pub invariant-put_pieces-loop-piece : goal.invariant-put_pieces-loop-piece
invariant-put_pieces-loop-piece l = l.events ++ pieces_events (pieces_of l.file (drop l.piece-index l.pieces)) ≡ l.initial.events ++ pieces_events (pieces_of l.file l.pieces)

abbrev pub invariant-put_params-loop-param : goal.invariant-put_params-loop-param
invariant-put_params-loop-param l = l.events ++ parameters_events (parameters_of l.file (drop l.param-index l.params)) ≡ l.initial.events ++ parameters_events (parameters_of l.file l.params)

abbrev pub invariant-put_clauses-loop-clause : goal.invariant-put_clauses-loop-clause
invariant-put_clauses-loop-clause l =
    l.events ++ clauses_events l.waiting (clauses_names (clauses_of l.file l.clauses)) (clauses_of l.file (drop l.clause-index l.clauses))
    ≡ l.initial.events ++ clauses_events l.initial.waiting (clauses_names (clauses_of l.file l.clauses)) (clauses_of l.file l.clauses)
