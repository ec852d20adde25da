use Rattle.std.proofs.Common.{ap, refl, ◌∙◌}
use Rattle.code_spec.specs.Names.{target_names, targets_names}
use Rattle.star_tree.specs.Whole.{expr_of, exprs_of}
use Rattle.star_resolve.proofs.Putting.{put_done, put_next, put_same}
use Rattle.star_tree.proofs.Forms.{expr_of-List, expr_of-Tuple}
use Rattle.star_resolve.proofs.names.+targets.Goals as goal

pub put_target_names-returns-in-List : goal.put_target_names-returns-in-List
put_target_names-returns-in-List t c = λ file.
    put_same c.put_targets.result c.args.names.now c.put_targets.new.names _ _ (c.put_targets.ensures file)
    (ap (λ e. target_names (expr_of file e)) c.in-List.is ∙ ap target_names (expr_of-List file _ _))

pub put_target_names-returns-in-Tuple : goal.put_target_names-returns-in-Tuple
put_target_names-returns-in-Tuple t c = λ file.
    put_same c.put_targets-in-Tuple.result c.args.names.now c.put_targets-in-Tuple.new.names _ _ (c.put_targets-in-Tuple.ensures file)
    (ap (λ e. target_names (expr_of file e)) c.in-Tuple.is ∙ ap target_names (expr_of-Tuple file _ _))

pub put_targets-loop-target-preserved : goal.put_targets-loop-target-preserved
put_targets-loop-target-preserved t c = λ file.
    put_next _ c.loop-target.names c.put_target_names.new.names c.args.targets.now c.loop-target.target-index c.target-item.result
    (λ es. targets_names (exprs_of file es)) _
    (rw c.as_slice-target-items.ensures at c.loop-target-test.true) (rw c.as_slice-target-items.ensures at c.target-item.is) (λ ys. refl) (c.loop-target.invariant file) (c.in_ok-put_target_names.ensures file)

pub put_targets-returns : goal.put_targets-returns
put_targets-returns t c = λ file.
    put_done _ c.loop-target.names c.args.targets.now c.loop-target.target-index (λ es. targets_names (exprs_of file es))
    (rw c.as_slice-target-items.ensures at c.loop-target-test.false) refl (c.loop-target.invariant file)
