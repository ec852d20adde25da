use Rattle.std.proofs.Common.{◌≡◌, drop, map as each}
use Rattle.code_spec.specs.Names.{is_among}
use Rattle.star_tree.proofs.names.is_one_of.Given as goal

abbrev pub invariant-loop-word : goal.invariant-loop-word
invariant-loop-word l = is_among l.name (each (λ w. w.now) (drop l.word-index l.words)) ≡ is_among l.name (each (λ w. w.now) l.words)
