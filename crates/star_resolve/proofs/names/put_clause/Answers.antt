use Rattle.std.proofs.Common.{◌∷◌, [], ap, sym, ◌∙◌, append-nil}
use Rattle.code_spec.specs.Names.{clauses_names, target_names}
use Rattle.star_tree.specs.Whole.{clauses_from, expr_of}
use Rattle.star_tree.specs.Listed.{clauses_of}
use Rattle.star_resolve.proofs.Putting.{put_same}
use Rattle.star_tree.proofs.Forms.{clause_of-ForIn}
use Rattle.star_resolve.proofs.names.put_clause.Goals as goal

pub returns-in-ForIn : goal.returns-in-ForIn
returns-in-ForIn c = λ file.
    put_same c.put_target_names.result c.args.names.now c.put_target_names.new.names _ _ (c.put_target_names.ensures file)
    (ap (λ k. clauses_names (clauses_of file (k ∷ []))) c.in-ForIn.is
    ∙ ap (λ k. clauses_names (clauses_from (k ∷ []))) (clause_of-ForIn file _ _)
    ∙ append-nil _
    ∙ ap (λ e. target_names (expr_of file e)) (sym c.get.ensures))
