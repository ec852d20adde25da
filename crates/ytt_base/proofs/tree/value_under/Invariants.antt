use Rattle.std.proofs.Common.{◌≡◌, drop}
use Rattle.ytt_base.specs.Trees.{get_pair}
use Rattle.ytt_base.specs.View.{key_of, pairs_of}
use Rattle.ytt_base.proofs.tree.value_under.Given as goal

abbrev pub invariant-loop-other : goal.invariant-loop-other
invariant-loop-other l = get_pair (key_of l.key) (pairs_of (drop l.other-index l.pairs)) ≡ get_pair (key_of l.key) (pairs_of l.pairs)
