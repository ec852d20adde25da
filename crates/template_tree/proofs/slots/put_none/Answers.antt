use Rattle.std.proofs.Common.{◌∙◌, sym}
use Rattle.template_tree.specs.Slots.{same_slot}
use Rattle.template_tree.proofs.Slotting.{on_both, same_changed}
use Rattle.template_tree.proofs.slots.put_none.Goals as goal

pub returns : goal.returns
returns c = λ file. on_both c.reach.result _ _ _ (λ long same. sym (same_changed file c.args.level c.reach.new.slots.items long) ∙ same) c.reach.ensures.long (c.reach.ensures.same file same_slot)
