use Rattle.std.proofs.Common.{◌∙◌}
use Rattle.std.proofs.Common.{rules, length, ◌≤◌}
use Rattle.template_tree.proofs.Slotting.{reach_goes_on}
use Rattle.template_tree.proofs.slots.reach.Goals as goal

pub loop-alloc-preserved : goal.loop-alloc-preserved
loop-alloc-preserved c = λ file f.
    let le : length c.loop-alloc.slots.items ≤ c.args.level = search rules in
    reach_goes_on file c.args.level f c.loop-alloc.slots.items c.push.new.self.items c.fresh.result c.in_ok-push.ensures.items (c.fresh.ensures file) le ∙ c.loop-alloc.invariant file f
