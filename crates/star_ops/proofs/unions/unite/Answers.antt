use Rattle.star_steps.proofs.Names.{seen, value_of, state_in, gives_same}
use Rattle.star_ops.proofs.IntegerRows.{union_of_int}
use Rattle.star_ops.proofs.unions.unite.Goals as goal

pub returns-in-Int-default : goal.returns-in-Int-default
returns-in-Int-default c =
    let a = seen c.args.arena.now in
    rw c.in-Int-default.is-0
    (gives_same _ _ _ _ _ _ (union_of_int c.args.place c.in-Int-default.field-0-0 (value_of a c.args.right) (state_in a c.args.steps.now)) (rw c.in-Int-default.is-0 at c.on_integers.ensures a c.args.steps.now))
