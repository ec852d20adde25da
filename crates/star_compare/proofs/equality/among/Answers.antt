use Rattle.star_steps.proofs.Names.{seen, value_of, values_of, state_in}
use Rattle.star_compare.proofs.Levels.{among_values}
use Rattle.star_compare.proofs.equality.among.Goals as goal

pub loop-rest-init : goal.loop-rest-init
loop-rest-init c =
    let a = seen c.args.arena.now in
    record { owns = c.requires.members; same = among_values c.args.place (value_of a c.args.value) (values_of a c.args.members.now) (state_in a c.args.steps.now) }
