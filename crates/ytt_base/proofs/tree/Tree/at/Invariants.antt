use Rattle.std.proofs.Common.{◌≡◌, drop}
use Rattle.ytt_base.specs.Trees.{at}
use Rattle.ytt_base.specs.View.{path_of, tree_of}
use Rattle.ytt_base.proofs.tree.Tree.at.Given as goal

abbrev pub invariant-loop-step : goal.invariant-loop-step
invariant-loop-step l = at (tree_of l.tree) (path_of (drop l.step-index l.path)) ≡ at (tree_of l.self) (path_of l.path)
