use Rattle.std.proofs.Common.{◌≡◌, drop, map as each}
use Rattle.std.specs.List.{list_any}
use Rattle.template_spec.specs.Comments.{begins_with_word}
use Rattle.notes_read.proofs.words.begins_with_one.Given as goal

abbrev pub invariant-loop-word : goal.invariant-loop-word
invariant-loop-word l = list_any (begins_with_word l.text) (each (λ w. w.now) (drop l.word-index l.words)) ≡ list_any (begins_with_word l.text) (each (λ w. w.now) l.words)
