use Rattle.std.proofs.Common.{◌≡◌, ◌≤◌, length, take, None}
use Rattle.star_unbuilt.specs.Places.{earlier}
use Rattle.passes_spec.specs.Unbuilt.{unbuilt_branches, unbuilt_items}
use Rattle.template_tree.specs.View.{branches_of, items_of}
use Rattle.template_program.proofs.unbuilt.+unbuilt.Given as goal

abbrev pub invariant-see_items-loop-left : goal.invariant-see_items-loop-left
invariant-see_items-loop-left l = record {
  within : l.left ≤ length l.items;
  same : earlier l.first (unbuilt_items (items_of l.file (take l.left l.items))) ≡ earlier l.fn.first (unbuilt_items (items_of l.file l.items));
}

abbrev pub decreases-see_items-loop-left : goal.decreases-see_items-loop-left
decreases-see_items-loop-left l = l.left

abbrev pub invariant-see_elifs-loop-left : goal.invariant-see_elifs-loop-left
invariant-see_elifs-loop-left l = record {
  within : l.left ≤ length l.elifs;
  same : earlier l.first (unbuilt_branches (branches_of l.file (take l.left l.elifs) None)) ≡ earlier l.fn.first (unbuilt_branches (branches_of l.file l.elifs None));
}

abbrev pub decreases-see_elifs-loop-left : goal.decreases-see_elifs-loop-left
decreases-see_elifs-loop-left l = l.left
