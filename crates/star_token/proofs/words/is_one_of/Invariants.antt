use Rattle.std.proofs.Common.{◌≡◌, drop, map as each}
use Rattle.star_grammar.specs.Pieces.{is_among}
use Rattle.star_token.proofs.words.is_one_of.Given as goal

abbrev pub invariant-loop-other : goal.invariant-loop-other
invariant-loop-other l = is_among (each (λ w. w.now) l.words) l.word ≡ is_among (each (λ w. w.now) (drop l.other-index l.words)) l.word
