use Rattle.std.proofs.Common.{◌≡◌, List, drop}
use Rattle.code_spec.specs.Program.{Instruction}
use Rattle.template_program.specs.Emits.{followed}
use Rattle.template_spec.specs.Compiled.{notes_code}
use Rattle.template_tree.specs.View.{notes_of}
use Rattle.template_program.proofs.parts.put_notes.Given as goal

abbrev pub invariant-loop-note : goal.invariant-loop-note
invariant-loop-note l =
    (is : List Instruction) → followed l.file l.code l.next (notes_code (notes_of l.file (drop l.note-index l.notes)) is)
    ≡ followed l.file l.initial.code l.initial.next (notes_code (notes_of l.file l.notes) is)
