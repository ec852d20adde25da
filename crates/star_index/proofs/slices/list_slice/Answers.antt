use Rattle.star_steps.proofs.Names.{◌∙◌}
use Rattle.star_index.proofs.Names.{ap, cut_in, gives_object, list_cut, new_list, seen, state_in, sym, then_do, values_of}
use Rattle.star_index.proofs.slices.list_slice.Goals as goal

pub returns : goal.returns
returns c =
    let a = seen c.args.arena.now in
    gives_object _ _ c.in_ok-new_list.field-0 a (seen c.new_list.new.self) c.members_slice.new.steps _
    (list_cut c.args.place c.args.list.at (values_of a c.list.result.now) (cut_in a.held c.args.cut.now) (state_in a c.args.steps.now) c.list.ensures.members
    ∙ ap (λ o. then_do o new_list) c.in_ok-members.ensures.meaning
    ∙ ap (λ vs. new_list (values_of a vs) (state_in a c.members_slice.new.steps)) (sym c.as_slice.ensures))
    c.in_ok-new_list.ensures.made
