use Rattle.std.proofs.Common.{◌≡◌, drop, map as each}
use Rattle.yaml_spec.specs.Bytes.{is_word}
use Rattle.yaml_kinds.proofs.words.is_word.Given as goal

abbrev pub invariant-loop-other : goal.invariant-loop-other
invariant-loop-other l = is_word (each (λ w. w.now) (drop l.other-index l.words)) l.word ≡ is_word (each (λ w. w.now) l.words) l.word
