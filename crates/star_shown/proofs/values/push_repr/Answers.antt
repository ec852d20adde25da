use Rattle.star_steps.proofs.Names.{meets_same, seen, state_in, string_bytes, value_of}
use Rattle.star_shown.proofs.Whole.{repr_showing}
use Rattle.star_shown.proofs.values.push_repr.Goals as goal

pub returns : goal.returns
returns c =
    let a = seen c.args.arena.now in
    meets_same _ c.push_value.result _ _ _ (repr_showing c.args.place (value_of a c.args.value) (string_bytes c.args.shown.now) (state_in a c.args.steps.now)) c.push_value.ensures
