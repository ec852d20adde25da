use Rattle.star_steps.proofs.Names.{◌≡◌, ◌∙◌}
use Rattle.star_index.proofs.Names.{Err, ap, cut_in, done, give_tuple, gives_made, gives_stop, rules, seen, state_in, sym, then_do, tuple_cut, tuple_of, value_of, values_of}
use Rattle.star_values.specs.declared.value.Value.TheVariants as value
use Rattle.star_index.proofs.slices.tuple_slice.Goals as goal

pub returns-in_err-members : goal.returns-in_err-members
returns-in_err-members c =
    let a = seen c.args.arena.now in
    let stopped : c.from_residual.result ≡ Err c.in_err-members.field-0.0 = search rules in
    gives_stop (values_of a) c.in_err-members.field-0.0 a c.members_slice.new.steps _ give_tuple c.from_residual.result _
    (tuple_cut c.args.place (value_of a (value.Tuple c.args.tuple)) (values_of a c.tuple.result.now) (cut_in a.held c.args.cut.now) (state_in a c.args.steps.now) c.tuple.ensures.members)
    c.in_err-members.ensures.meaning stopped

pub returns : goal.returns
returns c =
    let a = seen c.args.arena.now in
    gives_made _ c.in_ok-new_tuple.field-0 a (seen c.new_tuple.new.self) c.members_slice.new.steps _
    (tuple_cut c.args.place (value_of a (value.Tuple c.args.tuple)) (values_of a c.tuple.result.now) (cut_in a.held c.args.cut.now) (state_in a c.args.steps.now) c.tuple.ensures.members
    ∙ ap (λ o. then_do o give_tuple) c.in_ok-members.ensures.meaning
    ∙ ap (λ vs. done (tuple_of (values_of a vs)) (state_in a c.members_slice.new.steps)) (sym c.as_slice.ensures))
    c.in_ok-new_tuple.ensures.made
