use Rattle.std.proofs.Common.{◌≡◌, ◌++◌, drop, string_bytes}
use denote.Shadow.{shadow}
use denote.Text.{Utf8}
use Rattle.listing.specs.Forms.{separated_text}
use Rattle.listing_spec.specs.Listing.{clauses_phrases, entries_phrases, exprs_phrases, parameters_phrases, pieces_phrases}
use Rattle.listing_spec.specs.Phrases.{joined_text, spaced_text}
use Rattle.star_tree.specs.Listed.{clauses_of, entries_of, pieces_of}
use Rattle.star_tree.specs.Whole.{exprs_of, parameters_of}
use Rattle.listing.proofs.exprs.+put.Given as goal

abbrev pub invariant-push_exprs-loop-expr : goal.invariant-push_exprs-loop-expr
invariant-push_exprs-loop-expr l =
    string_bytes l.out ++ spaced_text (exprs_phrases (exprs_of l.file (drop l.expr-index l.exprs))) ≡ string_bytes l.initial.out ++ spaced_text (exprs_phrases (exprs_of l.file l.exprs))

abbrev pub invariant-push_entries-loop-entry : goal.invariant-push_entries-loop-entry
invariant-push_entries-loop-entry l =
    string_bytes l.out ++ spaced_text (entries_phrases (entries_of l.file (drop l.entry-index l.entries))) ≡ string_bytes l.initial.out ++ spaced_text (entries_phrases (entries_of l.file l.entries))

abbrev pub invariant-push_clauses-loop-clause : goal.invariant-push_clauses-loop-clause
invariant-push_clauses-loop-clause l =
    string_bytes l.out ++ spaced_text (clauses_phrases (clauses_of l.file (drop l.clause-index l.clauses))) ≡ string_bytes l.initial.out ++ spaced_text (clauses_phrases (clauses_of l.file l.clauses))

abbrev pub invariant-push_pieces-loop-piece : goal.invariant-push_pieces-loop-piece
invariant-push_pieces-loop-piece l =
    string_bytes l.out ++ spaced_text (pieces_phrases (pieces_of l.file (drop l.piece-index l.pieces))) ≡ string_bytes l.initial.out ++ spaced_text (pieces_phrases (pieces_of l.file l.pieces))

abbrev pub invariant-push_params-loop-param : goal.invariant-push_params-loop-param
invariant-push_params-loop-param l =
    shadow (Utf8 l.between)
    × (string_bytes l.out ++ separated_text l.between (parameters_phrases (parameters_of l.file (drop l.param-index l.params))) ≡ string_bytes l.initial.out ++ joined_text (parameters_phrases (parameters_of l.file l.params)))
