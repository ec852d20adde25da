use Rattle.std.proofs.Common.{◌≡◌, ℕ, ◌++◌, drop}
use Rattle.code_spec.specs.Names.{clauses_names}
use Rattle.star_tree.specs.Listed.{clauses_of}
use Rattle.star_resolve.proofs.names.clause_names.Given as goal

abbrev pub invariant-loop-clause : goal.invariant-loop-clause
invariant-loop-clause l = (file : ℕ) → l.names ++ clauses_names (clauses_of file (drop l.clause-index l.clauses)) ≡ clauses_names (clauses_of file l.clauses)
