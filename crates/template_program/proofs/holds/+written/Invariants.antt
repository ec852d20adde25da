use Rattle.std.proofs.Common.{◌≡◌, ℕ, drop, None}
use Rattle.template_spec.specs.Template.{branches_have_written, has_written}
use Rattle.template_tree.specs.View.{branches_of, items_of}
use Rattle.template_program.proofs.holds.+written.Given as goal

abbrev pub invariant-has_written-loop-item : goal.invariant-has_written-loop-item
invariant-has_written-loop-item l = (file : ℕ) → has_written (items_of file (drop l.item-index l.items)) ≡ has_written (items_of file l.items)

abbrev pub invariant-elifs_have_written-loop-elif : goal.invariant-elifs_have_written-loop-elif
invariant-elifs_have_written-loop-elif l = (file : ℕ) → branches_have_written (branches_of file (drop l.elif-index l.elifs) None) ≡ branches_have_written (branches_of file l.elifs None)
