use Rattle.std.proofs.Common.{◌≡◌, ℕ, drop}
use Rattle.template_tree.specs.View.{notes_of}
use Rattle.text_template_spec.specs.TextTemplates.{asks_for_texts}
use Rattle.template_program.proofs.texts.asks_for_texts.Given as goal

abbrev pub invariant-loop-note : goal.invariant-loop-note
invariant-loop-note l = (file : ℕ) → asks_for_texts (notes_of file (drop l.note-index l.notes)) ≡ asks_for_texts (notes_of file l.notes)
