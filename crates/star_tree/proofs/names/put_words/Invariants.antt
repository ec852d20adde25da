use Rattle.std.proofs.Common.{◌≡◌, ◌++◌, drop, map as each}
use Rattle.star_tree.proofs.names.put_words.Given as goal

abbrev pub invariant-loop-word : goal.invariant-loop-word
invariant-loop-word l = l.names ++ each (λ w. w.now) (drop l.word-index l.words) ≡ l.initial.names ++ each (λ w. w.now) l.words
