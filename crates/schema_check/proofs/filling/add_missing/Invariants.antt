use Rattle.std.proofs.Common.{◌≡◌}
use Rattle.ytt_base.specs.Trees.{keys}
use Rattle.ytt_base.specs.View.{pairs_of}
use Rattle.schema_spec.specs.Offences.{add_pairs, missing}
use Rattle.schema_check.specs.Places.{types_from}
use Rattle.schema_check.specs.View.{types_of}
use Rattle.schema_check.proofs.filling.add_missing.Given as goal

abbrev pub invariant-loop-at : goal.invariant-loop-at
invariant-loop-at l =
    let ks = keys (pairs_of l.pairs) in
    add_pairs (pairs_of l.filled) (missing (types_from l.at (types_of l.types)) ks) ≡ add_pairs (pairs_of l.initial.filled) (missing (types_of l.types) ks)
