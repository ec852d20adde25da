use Rattle.std.proofs.Common.{ap}
use Rattle.serde_json.specs.View.{view}
use Rattle.star_steps.proofs.Meeting.{meets_same}
use Rattle.star_steps.specs.Meets.{state_in}
use Rattle.star_values.specs.Objects.{seen}
use Rattle.mod_json.proofs.Forms.{elements_form, pairs_form}
use Rattle.mod_json.specs.Walk.{value_data}
use Rattle.mod_json.proofs.built.fragment_json.Goals as goal

pub returns-in-Fragment-Pair-default : goal.returns-in-Fragment-Pair-default
returns-in-Fragment-Pair-default c =
    let a = seen c.args.arena.now in
    let s = state_in a c.args.steps.now in
    let shape = rw c.in-Fragment-Pair-default.field-0-is at c.in-Fragment-Pair-default.ensures in
    meets_same view c.map_json.result (state_in a c.map_json.new.steps) _ _
    (pairs_form a.held c.args.place s c.args.levels _ c.in-Fragment-Pair-default.items.now shape.1)
    (rw c.as_slice.ensures at c.map_json.ensures)

pub returns-in-Fragment-Element-default : goal.returns-in-Fragment-Element-default
returns-in-Fragment-Element-default c =
    let a = seen c.args.arena.now in
    let s = state_in a c.args.steps.now in
    let shape = rw c.in-Fragment-Element-default.field-0-is at c.in-Fragment-Element-default.ensures in
    meets_same view c.list_json.result (state_in a c.list_json.new.steps) _ _
    (elements_form a.held c.args.place s c.args.levels _ c.in-Fragment-Element-default.items.now shape.1)
    (rw c.as_slice-in-Fragment-Element-default.ensures at c.list_json.ensures)

pub returns-in-Fragment-Document-default : goal.returns-in-Fragment-Document-default
returns-in-Fragment-Document-default c =
    let a = seen c.args.arena.now in
    let s = state_in a c.args.steps.now in
    let shape = rw c.in-Fragment-Document-default.field-0-is at c.in-Fragment-Document-default.ensures in
    rw c.refusal.ensures (ap (λ v. value_data c.args.levels c.args.place v s) shape.1)
