use Rattle.std.proofs.Common.{◌≡◌, drop, map as each}
use Rattle.yaml_spec.specs.Bytes.{is_word}
use Rattle.notes_read.proofs.words.is_one_of.Given as goal

abbrev pub invariant-loop-word : goal.invariant-loop-word
invariant-loop-word l = is_word (each (λ w. w.now) (drop l.word-index l.words)) l.text ≡ is_word (each (λ w. w.now) l.words) l.text
