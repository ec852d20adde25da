use Rattle.std.proofs.Common.{◌≡◌, ap, sym, refl, drop, ◌+◌}
use Rattle.ytt_base.specs.Trees.{tree}
use Rattle.ytt_base.specs.View.{key_of, pairs_of, tree_of, trees_of}
use Rattle.ytt_laws.proofs.InTurn.{pairs_all, pairs_next, trees_all, trees_next}
use Rattle.schema_spec.specs.Offences.{fill_pairs, fill_trees}
use Rattle.schema_spec.specs.Schemas.{member}
use Rattle.schema_check.specs.View.{schema_of, types_of}
use Rattle.schema_check.proofs.Filled.{filled_by, pair-filled}
use Rattle.schema_check.proofs.filling.+fill.Goals as goal
use Rattle.schema_check.proofs.filling.+fill.Goals.{filled_pairs-in-Some+in_ok-tree-in-Some, filled_pairs-in-None+in_ok-tree-in-None}

pub filled_pairs-loop-key-preserved : goal.filled_pairs-loop-key-preserved
filled_pairs-loop-key-preserved t c =
    let types = types_of c.args.types.now in
    let one = c.loop-key-item.result in
    let lt = rw c.as_slice-key-items.ensures at c.loop-key-test.true in
    let is = rw c.as_slice-key-items.ensures at c.loop-key-item.is in
    let by : tree_of c.match-member.tree ≡ filled_by (tree_of one.1) (member (key_of one.0) types) = elim c.match-member.branch [
      | filled_pairs-in-Some+in_ok-tree-in-Some w ↦ rw (w.tree-is, ← w.in-Some.ensures) w.in_ok-tree-in-Some.ensures
      | filled_pairs-in-None+in_ok-tree-in-None w ↦ rw (w.tree-is, ← w.in-None.ensures) (ap tree_of w.in_ok-tree-in-None.ensures)
    ] in
    let e = pair-filled types one (drop (c.loop-key.key-index + 1) c.args.pairs.now) c.in_ok-copy.field-0 c.match-member.tree c.in_ok-copy.ensures by in
    rw c.in_ok-push.ensures
    (pairs_next c.args.pairs.now c.loop-key.key-index one lt is (λ xs. fill_pairs types (pairs_of xs)) c.loop-key.all c.in_ok-copy.field-0 c.match-member.tree _ e c.loop-key.invariant)

pub filled_pairs-returns : goal.filled_pairs-returns
filled_pairs-returns t c =
    pairs_all c.args.pairs.now c.loop-key.key-index (λ xs. fill_pairs (types_of c.args.types.now) (pairs_of xs)) c.loop-key.all _ refl (rw c.as_slice-key-items.ensures at c.loop-key-test.false) c.loop-key.invariant

pub filled_trees-loop-tree-preserved : goal.filled_trees-loop-tree-preserved
filled_trees-loop-tree-preserved t c =
    let lt = rw c.as_slice-tree-items.ensures at c.loop-tree-test.true in
    let is = rw c.as_slice-tree-items.ensures at c.tree-item.is in
    let e = ap (λ u. tree u (fill_trees (schema_of c.args.item.now) (trees_of (drop (c.loop-tree.tree-index + 1) c.args.trees.now)))) (sym c.in_ok-tree.ensures) in
    rw c.in_ok-push.ensures
    (trees_next c.args.trees.now c.loop-tree.tree-index c.tree-item.result lt is (λ xs. fill_trees (schema_of c.args.item.now) (trees_of xs)) c.loop-tree.all c.in_ok-tree.tree _ e c.loop-tree.invariant)

pub filled_trees-returns : goal.filled_trees-returns
filled_trees-returns t c =
    trees_all c.args.trees.now c.loop-tree.tree-index (λ xs. fill_trees (schema_of c.args.item.now) (trees_of xs)) c.loop-tree.all _ refl (rw c.as_slice-tree-items.ensures at c.loop-tree-test.false) c.loop-tree.invariant
