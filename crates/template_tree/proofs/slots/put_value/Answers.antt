use Rattle.std.proofs.Common.{refl}
use Rattle.star_tree.specs.Whole.{expr_of}
use Rattle.template_spec.specs.Comments.{a_value}
use Rattle.template_pass.specs.Building as build
use Rattle.template_tree.proofs.Slotting.{slot_changed}
use Rattle.template_tree.proofs.slots.put_value.Goals as goal

pub returns : goal.returns
returns c = λ file line.
    let f = build.with_beside file line (a_value (expr_of file c.args.value)) in
    slot_changed file c.args.level f c.reach.new.slots.items c.args.slots.now.items _ c.index_mut-slot.result.now c.in_ok-reach.ensures.long c.index_mut-slot.ensures.value refl (c.in_ok-reach.ensures.same file f)
