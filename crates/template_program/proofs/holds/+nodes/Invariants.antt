use Rattle.std.proofs.Common.{◌≡◌, ℕ, drop, None}
use Rattle.template_spec.specs.Template.{branches_have_nodes, has_nodes}
use Rattle.template_tree.specs.View.{branches_of, items_of}
use Rattle.template_program.proofs.holds.+nodes.Given as goal

abbrev pub invariant-has_nodes-loop-item : goal.invariant-has_nodes-loop-item
invariant-has_nodes-loop-item l = (file : ℕ) → has_nodes (items_of file (drop l.item-index l.items)) ≡ has_nodes (items_of file l.items)

abbrev pub invariant-elifs_have_nodes-loop-elif : goal.invariant-elifs_have_nodes-loop-elif
invariant-elifs_have_nodes-loop-elif l = (file : ℕ) → branches_have_nodes (branches_of file (drop l.elif-index l.elifs) None) ≡ branches_have_nodes (branches_of file l.elifs None)
