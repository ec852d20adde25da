use Rattle.std.proofs.Common.{refl}
use Rattle.code_spec.specs.Names.{clauses_names}
use Rattle.star_tree.specs.Listed.{clauses_of}
use Rattle.star_resolve.proofs.Binders.{one_clause}
use Rattle.star_resolve.proofs.Putting.{put_done, put_next}
use Rattle.star_resolve.proofs.names.clause_names.Goals as goal

pub loop-clause-preserved : goal.loop-clause-preserved
loop-clause-preserved c = λ file.
    put_next _ c.loop-clause.names c.put_clause.new.names c.args.clauses.now c.loop-clause.clause-index c.clause-item.result
    (λ cs. clauses_names (clauses_of file cs)) _
    (rw c.as_slice-clause-items.ensures at c.loop-clause-test.true) (rw c.as_slice-clause-items.ensures at c.clause-item.is) (one_clause file _) (c.loop-clause.invariant file) (c.in_ok-put_clause.ensures file)

pub returns : goal.returns
returns c = λ file.
    put_done _ c.loop-clause.names c.args.clauses.now c.loop-clause.clause-index (λ cs. clauses_names (clauses_of file cs))
    (rw c.as_slice-clause-items.ensures at c.loop-clause-test.false) refl (c.loop-clause.invariant file)
