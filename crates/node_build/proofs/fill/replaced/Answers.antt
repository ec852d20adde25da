use Rattle.std.proofs.Common.{◌∙◌, ap, sym}
use Rattle.star_steps.proofs.Meeting.{meets_same}
use Rattle.star_steps.specs.Meets.{state_in}
use Rattle.star_tree.specs.View.{item_kind_of}
use Rattle.star_values.specs.Objects.{seen}
use Rattle.star_values.specs.View.{value_of}
use Rattle.template_meaning.specs.Take.{replaced}
use Rattle.node_build.specs.Taking.{members_in_place}
use Rattle.node_build.specs.View.{filled_in}
use Rattle.node_build.proofs.fill.replaced.Goals as goal

pub returns-in-Pair-clause-meaning : goal.returns-in-Pair-clause-meaning
returns-in-Pair-clause-meaning c =
    let a = seen c.args.arena.now in
    let s = state_in a c.args.steps.now in
    let n = c.args.around in
    meets_same (filled_in a.held) c.members_of.result (state_in a c.members_of.new.steps) _ _
    ((λ i. replaced c.args.place (item_kind_of (c.in-Pair.is i)) n (value_of a (c.in-Dict.is i)) s) ∙ sym (ap (λ v. members_in_place c.args.place n (value_of a v) s) c.in-Dict.is))
    c.members_of.ensures.meaning

pub returns-in-Element-clause-meaning : goal.returns-in-Element-clause-meaning
returns-in-Element-clause-meaning c =
    let a = seen c.args.arena.now in
    let s = state_in a c.args.steps.now in
    let n = c.args.around in
    meets_same (filled_in a.held) c.members_of-in-Element.result (state_in a c.members_of-in-Element.new.steps) _ _
    ((λ i. replaced c.args.place (item_kind_of (c.in-Element.is i)) n (value_of a (c.in-List.is i)) s) ∙ sym (ap (λ v. members_in_place c.args.place n (value_of a v) s) c.in-List.is))
    c.members_of-in-Element.ensures.meaning
